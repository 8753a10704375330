-- The code's table and the definition's are computed and compared. Assumes nothing.
use mathlib.Core.Path.{refl}
use Rattle.words.specs.ScriptWords.{words}
use Rattle.words.proofs.rows.Goals as goal

pub returns : goal.returns
unfolding words
returns c = record { rows = refl; in_order = refl }
