-- A script of 32,768 bytes is run, and a longer one is not. Assumes nothing.
use mathlib.Core.List.{List, [], ◌∷◌, ◌++◌}
use mathlib.Core.Path.{◌≡◌, refl, ap, ◌∙◌}
use Prim.Native.Nat.{ℕ, zero, suc, ◌+◌, ◌≤◌, ◌<◌}
use native.Mathlib.Omega.{arith}
use lib.ListN.{length}
use borrow.Author.Tests.{le-ltb}
use Rattle.model.specs.Model.{Model, empty}
use Rattle.model.specs.Sheet.{refused}
use Rattle.decimal.specs.Decimal.{decimal, lead, numbered}
use Rattle.words.specs.Bytes.{same}
use Rattle.words.specs.ScriptWords.{words, spelling, takes, place_in, which}
use Rattle.textlines.specs.Parts.{parts_of, up_to}
use Rattle.textlines.proofs.Laws.{cut}
use Rattle.reading.specs.Form.{render, word_in, numbers_in, parse}
use Rattle.script.specs.Script.{obey, answer_text, total_text, run_lines, run_from, run_script}
use Rattle.script.proofs.Turning.{too_long}
use Rattle.transcripts.specs.Rows.{line_of}
use Rattle.edges.specs.LongScripts.{times, LongScripts}

-- so many empty lines
blank : ℕ → List (List ℕ)
blank zero = []
blank (suc n) = [] ∷ blank n

blank-parts : (n : ℕ) → parts_of 10 (times n (line_of "")) ≡ blank n
unfolding times parts_of blank
blank-parts zero = refl
blank-parts (suc n) = cut 10 10 (times n (line_of "")) refl ∙ ap (λ (l : List (List ℕ)). [] ∷ l) (blank-parts n)

blank-length : (n : ℕ) → length (times n (line_of "")) ≡ n
unfolding times
blank-length zero = refl
blank-length (suc n) = ap suc (blank-length n)

blank-answer : (m : Model) → obey m [] ≡ refused 14 m
unfolding same words spelling takes place_in which parts_of up_to numbered render word_in numbers_in parse obey
blank-answer m = refl

-- each is answered 14, and counted
blank-run : (m : Model) (n done others : ℕ) → run_lines m done others (blank n) ≡ times n (line_of "14") ++ total_text done (others + n)
unfolding run_lines times blank answer_text decimal lead numbered
blank-run m zero done others = ap (total_text done) (omega arith)
blank-run m (suc n) done others =
    rw (blank-answer m) (ap (λ (l : List ℕ). line_of "14" ++ l) (blank-run m n done (others + 1) ∙ ap (λ (k : ℕ). times n (line_of "14") ++ total_text done k) (omega arith)))

blank-script : (n : ℕ) → n ≤ 32768 → run_script (times n (line_of "")) ≡ times n (line_of "14") ++ total_text 0 n
unfolding run_script
blank-script n h =
    rw (le-ltb 32768 (length (times n (line_of ""))) (rw blank-length h), run_from, blank-parts n) (blank-run empty n 0 0 ∙ ap (λ (k : ℕ). times n (line_of "14") ++ total_text 0 k) (omega arith))

total-text : total_text 0 32768 ≡ line_of "total 0 32768"
unfolding total_text numbered decimal lead
total-text = refl

over : (script : List ℕ) → 32768 < length script → run_script script ≡ line_of "14" ++ line_of "total 0 1"
unfolding answer_text total_text numbered decimal lead
over script h = too_long script h

pub long-scripts : LongScripts
long-scripts =
    record {
      longest = blank-script 32768 (omega arith) ∙ ap (λ (l : List ℕ). times 32768 (line_of "14") ++ l) total-text;
      too_long = over (times 32769 (line_of "")) (rw blank-length (omega arith));
      over = over;
    }
