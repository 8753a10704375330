-- Below 64 the role's bit is set; a number beyond changes nothing. Assumes nothing.
use Rattle.roleset.proofs.Machine.{with-made, with-beyond}
use Rattle.roleset.proofs.with.Goals as goal

pub returns-then-r-lt64 : goal.returns-then-r-lt64
returns-then-r-lt64 c = with-made c.before.args.s c.before.args.r c.before.ranges.s.fits c.if-r-lt64.true

pub returns-else-r-lt64 : goal.returns-else-r-lt64
returns-else-r-lt64 c = with-beyond c.before.args.s c.before.args.r c.before.ranges.s.fits c.if-r-lt64.false
