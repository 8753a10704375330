-- The machine's `&` is the intersection. Assumes nothing.
use Rattle.roleset.proofs.Machine.{and-made}
use Rattle.roleset.proofs.common.Goals as goal

pub returns : goal.returns
returns c = and-made c.args.a c.args.b c.ranges.a.fits c.ranges.b.fits
