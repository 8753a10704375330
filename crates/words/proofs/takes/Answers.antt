-- What follows the word, by its row; past the last word nothing does. Assumes nothing.
use mathlib.Core.Path.{refl, ap}
use Rattle.words.specs.ScriptWords.{Word, fitting, takes}
use Rattle.words.proofs.Tables.{past-last}
use Rattle.words.proofs.takes.Goals as goal

pub returns-in_default : goal.returns-in_default
unfolding takes
returns-in_default c = rw (past-last c.args.k c.in_default.ensures.row) refl

pub returns-in-Exactly : goal.returns-in-Exactly
unfolding takes
returns-in-Exactly c = rw c.in-Exactly.is at (ap (λ (w : Word). fitting w c.args.n) c.in-Some.ensures.row)

pub returns-in-ThenRoles : goal.returns-in-ThenRoles
unfolding takes
returns-in-ThenRoles c = rw c.in-ThenRoles.is at (ap (λ (w : Word). fitting w c.args.n) c.in-Some.ensures.row)
