-- A script beside its answers, for reading. Assumes nothing.
use Rattle.std.specs.Prelude.{List, [], ◌∷◌, ◌++◌, ◌≡◌, ℕ}
use Prim.Native.String.{String}
use Rattle.model.specs.Model.{Model}
use Rattle.words.specs.Bytes.{bytes}
use Rattle.script.specs.Script.{line_feed, obey, answer_text, run_script}

infixl 90 ◌⇒◌
-- a line and its answer
pub data Row : Type 0 where
  ◌⇒◌ : String → String → Row

-- a line with its LF
abbrev pub line_of : String → List ℕ
line_of text = bytes text ++ (line_feed ∷ [])

-- the script, and what it prints: the answers and the total
abbrev pub script_of : List Row → List ℕ
script_of [] = []
script_of ((line ⇒ answer) ∷ rest) = line_of line ++ script_of rest

abbrev pub printed_for : List Row → String → List ℕ
printed_for [] total = line_of total
printed_for ((line ⇒ answer) ∷ rest) total = line_of answer ++ printed_for rest total

-- The script prints, from the empty policy on, the answer beside each line, and then the total.
abbrev pub Prints : List Row → String → Type 0
Prints rows total = run_script (script_of rows) ≡ printed_for rows total

-- The policy after the lines, obeyed one after another.
unfoldable pub after_rows : Model → List Row → Model
after_rows m [] = m
after_rows m ((line ⇒ answer) ∷ rest) = after_rows (obey m (bytes line)).after rest

-- From this policy on, each line prints the answer beside it.
pub data Answered : Model → List Row → Type 0 where
  ends : {m : Model} → Answered m []
  prints : {m : Model} {line answer : String} {rest : List Row} → answer_text (obey m (bytes line)).answer (obey m (bytes line)).results ≡ line_of answer → Answered (obey m (bytes line)).after rest → Answered m (line ⇒ answer ∷ rest)
