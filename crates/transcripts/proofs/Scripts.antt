-- A script prints what stands beside its lines where a test says so: it obeys each line once, compares what it prints, and counts. Assumes nothing.
use mathlib.Core.Bool.{Bool, true, ◌&&◌, not}
use mathlib.Core.List.{List, [], ◌∷◌, ◌++◌}
use mathlib.Core.Path.{◌≡◌, refl, sym, ap, ap₂, subst, ◌∙◌}
use Prim.Native.Nat.{ℕ}
use Prim.Native.String.{String}
use lib.Dec.{eqb, leb}
use lib.ListN.{length}
use borrow.Author.Tests.{leb-true, le-ltb, not-true}
use Rattle.model.specs.Model.{Model, empty}
use Rattle.model.specs.Sheet.{Told}
use Rattle.words.specs.Bytes.{bytes, same}
use Rattle.words.proofs.Laws.{and-true, same-equal}
use Rattle.textlines.specs.Parts.{parts_of, joined}
use Rattle.textlines.proofs.Laws.{cut, kept}
use Rattle.script.specs.Script.{line_feed, longest_script, obey, answer_text, total_text, done_after, others_after, run_lines, run_from, run_script}
use Rattle.transcripts.specs.Rows.{Row, ◌⇒◌, line_of, script_of, printed_for, Prints}

-- ---- rows whose lines tell what may be said in another way, quicker to compute

pub record Said : Type 0 where
  pub line : String
  pub answer : String
  pub told : Model → Told
  pub is : (m : Model) → obey m (bytes line) ≡ told m

-- a row, said as it is
abbrev pub plain : List Row → List Said
plain [] = []
plain ((line ⇒ answer) ∷ rest) = record { line = line; answer = answer; told = λ m. obey m (bytes line); is = λ m. refl } ∷ plain rest

abbrev pub rows_of : List Said → List Row
rows_of [] = []
rows_of (x ∷ rest) = (x.line ⇒ x.answer) ∷ rows_of rest

rows-plain : (rows : List Row) → rows_of (plain rows) ≡ rows
rows-plain [] = refl
rows-plain ((line ⇒ answer) ∷ rest) = ap (λ (l : List Row). (line ⇒ answer) ∷ l) (rows-plain rest)

-- ---- the lines, one after another

-- what was told is the answer, and the later test passes of the counts and the policy after it
unfoldable pub tallies : Told → String → (ℕ → ℕ → Model → Bool) → ℕ → ℕ → Bool
tallies told answer later done others = same (answer_text told.answer told.results) (line_of answer) && later (done_after done told) (others_after others told) told.after

unfoldable pub right_lines : List Said → String → ℕ → ℕ → Model → Bool
right_lines [] total done others m = same (total_text done others) (line_of total)
right_lines (x ∷ rest) total done others m = tallies (x.told m) x.answer (right_lines rest total) done others

lines_of : List Said → List (List ℕ)
lines_of [] = []
lines_of (x ∷ rest) = bytes x.line ∷ lines_of rest

right-lines : (rows : List Said) (total : String) (done others : ℕ) (m : Model) → right_lines rows total done others m ≡ true → run_lines m done others (lines_of rows) ≡ printed_for (rows_of rows) total
unfolding right_lines tallies run_lines lines_of
right-lines [] total done others m e = same-equal _ _ e
right-lines (x ∷ rest) total done others m e =
    let t = obey m (bytes x.line) in
    let f = subst (λ (t : Told). tallies t x.answer (right_lines rest total) done others ≡ true) (sym (x.is m)) e in
    let p = and-true (same (answer_text t.answer t.results) (line_of x.answer)) (right_lines rest total (done_after done t) (others_after others t) t.after) f in
    ap₂ (λ (a b : List ℕ). a ++ b) (same-equal _ _ p.0) (right-lines rest total (done_after done t) (others_after others t) t.after p.1)

-- ---- the whole script

-- no byte of the text is LF
unfoldable pub no_feed : List ℕ → Bool
no_feed [] = true
no_feed (b ∷ text) = not (eqb b line_feed) && no_feed text

unfoldable pub no_feeds : List Said → Bool
no_feeds [] = true
no_feeds (x ∷ rest) = no_feed (bytes x.line) && no_feeds rest

line-part : (text rest : List ℕ) → no_feed text ≡ true → parts_of line_feed ((text ++ (line_feed ∷ [])) ++ rest) ≡ text ∷ parts_of line_feed rest
unfolding no_feed
line-part [] rest e = cut line_feed line_feed rest refl
line-part (b ∷ text) rest e =
    let p = and-true (not (eqb b line_feed)) (no_feed text) e in
    kept line_feed b ((text ++ (line_feed ∷ [])) ++ rest) (not-true (eqb b line_feed) p.0) ∙ ap (joined b) (line-part text rest p.1)

lines-parts : (rows : List Said) → no_feeds rows ≡ true → parts_of line_feed (script_of (rows_of rows)) ≡ lines_of rows
unfolding no_feeds lines_of parts_of
lines-parts [] e = refl
lines-parts (x ∷ rest) e =
    let p = and-true (no_feed (bytes x.line)) (no_feeds rest) e in
    line-part (bytes x.line) (script_of (rows_of rest)) p.0 ∙ ap (λ (l : List (List ℕ)). bytes x.line ∷ l) (lines-parts rest p.1)

-- the script is short, its lines are lines, and each prints its answer
unfoldable pub right_script : List Said → String → Bool
right_script rows total = leb (length (script_of (rows_of rows))) longest_script && (no_feeds rows && right_lines rows total 0 0 empty)

pub prints-said : (rows : List Said) (total : String) → right_script rows total ≡ true → Prints (rows_of rows) total
unfolding right_script run_script
prints-said rows total e =
    let p = and-true (leb (length (script_of (rows_of rows))) longest_script) (no_feeds rows && right_lines rows total 0 0 empty) e in
    let q = and-true (no_feeds rows) (right_lines rows total 0 0 empty) p.1 in
    rw (le-ltb longest_script (length (script_of (rows_of rows))) (leb-true _ _ p.0), run_from, lines-parts rows q.0) (right-lines rows total 0 0 empty q.1)

pub prints-rows : (rows : List Row) (total : String) → right_script (plain rows) total ≡ true → Prints rows total
prints-rows rows total e = subst (λ (r : List Row). Prints r total) (rows-plain rows) (prints-said (plain rows) total e)
