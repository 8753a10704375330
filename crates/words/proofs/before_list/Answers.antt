-- Past the last word no number stands before a list. Assumes nothing.
use mathlib.Core.Path.{refl}
use Rattle.words.proofs.Tables.{past-last}
use Rattle.words.proofs.before_list.Goals as goal

pub returns-in_default : goal.returns-in_default
returns-in_default c = rw (past-last c.args.k c.in_default.ensures.row) refl
