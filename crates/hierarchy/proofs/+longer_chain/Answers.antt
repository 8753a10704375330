-- The walk is that of the definition. Assumes nothing.
use Rattle.roleset.proofs.Taking.{not-zero}
use Rattle.hierarchy.specs.Lines.{table_of}
use Rattle.hierarchy.proofs.Fronts.{longer-over, longer-step}
use Rattle.hierarchy.proofs.+longer_chain.Goals as goal

pub returns-then-front-eq0 : goal.returns-then-front-eq0
returns-then-front-eq0 t c = longer-over (table_of c.args.juniors.now) c.args.allowed c.args.front c.ranges.front.fits c.then-front-eq0.either

pub returns : goal.returns
returns t c = longer-step (table_of c.args.juniors.now) c.args.allowed c.args.front c.juniors_of-next.result c.longer_chain.result c.if-allowed-eq0.false (not-zero c.args.front c.ranges.front.fits c.if-front-eq0.false) c.juniors_of-next.ensures c.longer_chain.ensures
