-- Rows are answered where a test says so: it obeys each line once, and compares what it prints with the answer beside it. Assumes nothing.
use mathlib.Core.Bool.{Bool, true, ◌&&◌}
use mathlib.Core.List.{List, [], ◌∷◌}
use mathlib.Core.Path.{◌≡◌}
use Prim.Native.String.{String}
use Rattle.model.specs.Model.{Model}
use Rattle.model.specs.Sheet.{Told}
use Rattle.words.specs.Bytes.{bytes, same}
use Rattle.words.proofs.Laws.{and-true, same-equal}
use Rattle.script.specs.Script.{obey, answer_text}
use Rattle.transcripts.specs.Rows.{Row, ◌⇒◌, line_of, after_rows, Answered, ends, prints}

-- what was told is the answer, and the later test passes of the policy after it
unfoldable pub tells : Told → String → (Model → Bool) → Bool
tells told answer later = same (answer_text told.answer told.results) (line_of answer) && later told.after

-- each line prints its answer, and the later test passes of the policy after them all
unfoldable pub right_then : List Row → (Model → Bool) → Model → Bool
right_then [] later m = later m
right_then ((line ⇒ answer) ∷ rest) later m = tells (obey m (bytes line)) answer (right_then rest later)

-- each line prints its answer
abbrev pub right : List Row → Model → Bool
right rows m = right_then rows (λ n. true) m

pub answered-then : (m : Model) (rows : List Row) (later : Model → Bool) → right_then rows later m ≡ true → Answered m rows × (later (after_rows m rows) ≡ true)
unfolding tells right_then after_rows
answered-then m [] later e = (ends, e)
answered-then m ((line ⇒ answer) ∷ rest) later e =
    let told = obey m (bytes line) in
    let p = and-true (same (answer_text told.answer told.results) (line_of answer)) (right_then rest later told.after) e in
    let q = answered-then told.after rest later p.1 in
    (prints (same-equal _ _ p.0) q.0, q.1)

pub answered : (m : Model) (rows : List Row) → right rows m ≡ true → Answered m rows
answered m rows e = (answered-then m rows (λ n. true) e).0
