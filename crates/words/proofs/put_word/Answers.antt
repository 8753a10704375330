-- The letters of the word's row are the word. Assumes nothing.
use mathlib.Core.Path.{ap}
use Rattle.text.proofs.Putting.{put-none}
use Rattle.words.specs.ScriptWords.{Word, spelling}
use Rattle.words.proofs.Tables.{past-last}
use Rattle.words.proofs.put_word.Goals as goal

pub returns-in_default : goal.returns-in_default
unfolding spelling
returns-in_default c = rw (ap (λ (w : Word). w.spelling) (past-last c.args.k c.in_default.ensures.row)) (put-none _ _)

pub returns : goal.returns
unfolding spelling
returns c = rw (← ap (λ (w : Word). w.spelling) c.in-Some.ensures.row) c.put_text.ensures
