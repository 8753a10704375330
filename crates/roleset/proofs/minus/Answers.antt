-- What is in both is taken out of the first. Assumes nothing.
use Rattle.roleset.proofs.Machine.{less-made}
use Rattle.roleset.proofs.minus.Goals as goal

pub returns : goal.returns
returns c = less-made c.args.a c.args.b c.ranges.a.fits c.ranges.b.fits
