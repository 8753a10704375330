-- Below 64 the role's bit is asked; a number beyond is no member. Assumes nothing.
use mathlib.Core.Path.{refl, sym}
use Rattle.roleset.specs.Roles.{has}
use Rattle.roleset.proofs.Laws.{has-beyond}
use Rattle.roleset.proofs.has.Goals as goal

pub returns-then-r-lt64 : goal.returns-then-r-lt64
unfolding has
returns-then-r-lt64 c = refl

pub returns-else-r-lt64 : goal.returns-else-r-lt64
returns-else-r-lt64 c = sym (has-beyond c.before.args.s c.before.args.r c.before.ranges.s.fits c.if-r-lt64.false)
