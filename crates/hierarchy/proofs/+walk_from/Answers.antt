-- The walk is that of the definition. Assumes nothing.
use Rattle.roleset.proofs.Taking.{not-zero}
use Rattle.hierarchy.proofs.Fronts.{walk-over, walk_step}
use Rattle.hierarchy.proofs.+walk_from.Goals as goal

pub returns-then-front-eq0 : goal.returns-then-front-eq0
returns-then-front-eq0 g t c = walk-over (g.L.Lines.table c.args.lines.now) c.args.allowed c.args.front c.args.met c.ranges.met.fits c.then-front-eq0.either

pub returns : goal.returns
returns g t c = walk_step (g.L.Lines.table c.args.lines.now) c.args.allowed c.args.front c.juniors_of-next.result c.args.met c.union-more.result c.walk_from.result c.if-allowed-eq0.false (not-zero c.args.front c.ranges.front.fits c.if-front-eq0.false) c.juniors_of-next.ensures c.union-more.ensures.is c.walk_from.ensures
