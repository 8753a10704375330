-- The machine's `|` is the union. Assumes nothing.
use Rattle.roleset.proofs.Machine.{or-made}
use Rattle.roleset.proofs.union.Goals as goal

pub returns : goal.returns
returns c = or-made c.args.a c.args.b c.ranges.a.fits c.ranges.b.fits
