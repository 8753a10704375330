-- No bit is 1 exactly where the number is 0. Assumes nothing.
use Rattle.roleset.proofs.Machine.{zero-empty}
use Rattle.roleset.proofs.is_empty.Goals as goal

pub returns : goal.returns
returns c = zero-empty c.args.s c.ranges.s.fits
