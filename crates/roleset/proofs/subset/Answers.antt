-- What both have is all of the first. Assumes nothing.
use Rattle.roleset.proofs.Machine.{and-subset}
use Rattle.roleset.proofs.subset.Goals as goal

pub returns : goal.returns
returns c = and-subset c.args.a c.args.b c.ranges.a.fits c.ranges.b.fits
