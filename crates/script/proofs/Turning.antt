-- One line of a script, and what is still to be printed. Assumes nothing.
use mathlib.Core.Bool.{Bool, true, false}
use mathlib.Core.List.{List, [], ◌∷◌, ◌++◌}
use mathlib.Core.Path.{◌≡◌, refl, sym, ap, ◌∙◌}
use Prim.Native.Nat.{ℕ, ◌+◌, ◌≤◌, ◌<◌}
use native.Mathlib.Omega.{arith}
use lib.Dec.{eqb}
use lib.ListN.{length, get_or, take, drop, length-append}
use borrow.Author.Tests.{lt-ltb, le-ltb}
use Rattle.std.proofs.Common.{Option, Some, None}
use Rattle.model.specs.Model.{Model, empty}
use Rattle.model.specs.Sheet.{Told}
use Rattle.model.proofs.Results.{few-results}
use Rattle.state.specs.View.{view}
use Rattle.text.proofs.Putting.{put_front}
use Rattle.decimal.specs.Decimal.{decimal, numbered}
use Rattle.decimal.proofs.Laws.{decimal-short, numbered-short}
use Rattle.words.specs.ScriptWords.{word_of}
use Rattle.textlines.specs.Parts.{parts_of, part_at, place_past}
use Rattle.textlines.specs.Tallies.{counted, one_more}
use Rattle.textlines.specs.declared.Tally.{Tally}
use Rattle.textlines.proofs.Laws.{parts_at, parts_none, past_more}
use Rattle.reading.specs.Form.{Parsed, line, no_line, parse}
use Rattle.meaning.specs.declared.Meant.{Meant}
use Rattle.meaning.specs.declared.Meant.TheVariants.{Do, Ask}
use Rattle.meaning.specs.Meaning.{meant}
use Rattle.reviews.proofs.Promised.{results_fit}
use Rattle.script.specs.Script.{doing, obeyed, obey, answer_text, total_text, done_after, others_after, run_lines, run_from, run_script, after_lines, after_script, line_feed, longest_script}
use Rattle.script.specs.LineAnswers.{Turns, told_at}
use Rattle.script.specs.declared.Progress.{Progress}
use Rattle.script.specs.declared.Turned.{Turned}

-- ---- how long an answer is

few-done : (m : Model) (x : Option Meant) (list : List ℕ) → length (doing m x list).results ≤ 4096
few-done m (Some (Do c)) list = omega (arith, few-results m c list)
few-done m (Some (Ask q)) list = results_fit m 4096 q (λ s op obj e. omega arith)
few-done m None list = omega arith

few-obeyed : (m : Model) (p : Parsed) → length (obeyed m p).results ≤ 4096
few-obeyed m (line k ns) = few-done m (meant k (get_or ns 0 0) (get_or ns 1 0) (get_or ns 2 0)) (drop (word_of k).numbers ns)
few-obeyed m no_line = omega arith

-- "Its buffers hold the longest result": a line's answer has 4,096 results at most, and 24,582 bytes
pub obey-few : (m : Model) (text : List ℕ) → length (obey m text).results ≤ 4096
unfolding obey
obey-few m text = few-obeyed m (parse text)

pub answer-short : (answer : ℕ) (results : List ℕ) → length results ≤ 4096 → length (answer_text answer results) ≤ 24582
unfolding answer_text
answer-short answer results h =
    omega (arith, length-append (decimal answer) (numbered results ++ (line_feed ∷ [])), length-append (numbered results) (line_feed ∷ []), decimal-short answer, numbered-short results)

-- ---- one line

-- a counter that is not at its most grows by one
more : (n : ℕ) → n < 65535 → one_more n ≡ n + 1
unfolding one_more
more n h = omega arith

count-done : (t : Tally) (told : Told) → t.done < 65535 → (counted t (eqb told.answer 0)).done ≡ done_after t.done told
unfolding counted
count-done t told h = go (eqb told.answer 0)
  where
    go : (b : Bool) → (counted t b).done ≡ elim b [ true ↦ t.done + 1 | false ↦ t.done ]
    go true = more t.done h
    go false = refl

count-others : (t : Tally) (told : Told) → t.others < 65535 → (counted t (eqb told.answer 0)).others ≡ others_after t.others told
unfolding counted
count-others t told h = go (eqb told.answer 0)
  where
    go : (b : Bool) → (counted t b).others ≡ elim b [ true ↦ t.others | false ↦ t.others + 1 ]
    go true = refl
    go false = more t.others h

module _ (script : List ℕ) (m : Model) (done others at : ℕ) (h : at < length script) where
  abbrev told : Told
  told = obey m (part_at line_feed script at)

  pub one_line : run_lines m done others (parts_of line_feed (drop at script))
      ≡ answer_text told.answer told.results ++ run_lines told.after (done_after done told) (others_after others told) (parts_of line_feed (drop (place_past line_feed script at) script))
  unfolding run_lines
  one_line = ap (run_lines m done others) (parts_at line_feed script at h)

  pub one_line_after : after_lines m (parts_of line_feed (drop at script)) ≡ after_lines told.after (parts_of line_feed (drop (place_past line_feed script at) script))
  unfolding after_lines
  one_line_after = ap (after_lines m) (parts_at line_feed script at h)

-- at the end of the script the total is left to print
pub at-end : (script : List ℕ) (m : Model) (done others at : ℕ) → length script ≤ at → run_lines m done others (parts_of line_feed (drop at script)) ≡ total_text done others
unfolding run_lines
at-end script m done others at h = ap (run_lines m done others) (parts_none line_feed script at h)

-- and nothing is left to do
pub after-end : (script : List ℕ) (m : Model) (at : ℕ) → length script ≤ at → after_lines m (parts_of line_feed (drop at script)) ≡ m
unfolding after_lines
after-end script m at h = ap (after_lines m) (parts_none line_feed script at h)

-- a script of the right length, from its start, and one that is too long: what it prints and what it leaves
pub from-policy : (m : Model) (script : List ℕ) → length script ≤ 32768 → run_from m script ≡ run_lines m 0 0 (parts_of line_feed (drop 0 script))
from-policy m script h = rw (le-ltb 32768 (length script) h, run_from)

pub too-long-from : (m : Model) (script : List ℕ) → 32768 < length script → run_from m script ≡ answer_text 14 [] ++ total_text 0 1
too-long-from m script h = rw (lt-ltb 32768 (length script) h, run_from)

pub leaves_lines : (m : Model) (script : List ℕ) → length script ≤ 32768 → after_script m script ≡ after_lines m (parts_of line_feed (drop 0 script))
leaves_lines m script h = rw (le-ltb 32768 (length script) h, after_script)

pub leaves-it : (m : Model) (script : List ℕ) → 32768 < length script → after_script m script ≡ m
leaves-it m script h = rw (lt-ltb 32768 (length script) h, after_script)

pub from_start : (script : List ℕ) → length script ≤ 32768 → run_script script ≡ run_lines empty 0 0 (parts_of line_feed (drop 0 script))
unfolding run_script
from_start script h = from-policy empty script h

pub too_long : (script : List ℕ) → 32768 < length script → run_script script ≡ answer_text 14 [] ++ total_text 0 1
unfolding run_script
too_long script h = too-long-from empty script h

-- each line is counted once
counted-once : (done others : ℕ) (told : Told) → done_after done told + others_after others told ≡ done + others + 1
counted-once done others told = go (eqb told.answer 0)
  where
    go : (b : Bool) → elim b as (λ _. ℕ) [ true ↦ done + 1 | false ↦ done ] + elim b as (λ _. ℕ) [ true ↦ others | false ↦ others + 1 ] ≡ done + others + 1
    go true = omega arith
    go false = omega arith

-- ---- a turn

-- what is still to be printed of a script, from a state and a place in it on
abbrev pub to_print : List ℕ → List ℕ → Progress → List ℕ
to_print script l p = run_lines (view l) p.tally.done p.tally.others (parts_of line_feed (drop p.at script))

-- and the policy and sessions that it will leave
abbrev pub to_leave : List ℕ → List ℕ → Progress → Model
to_leave script l p = after_lines (view l) (parts_of line_feed (drop p.at script))

-- A turn prints its line, and leaves the rest to print.
module _ (script l : List ℕ) (p : Progress) (before after : List ℕ) (x : Turned) (next : List ℕ) (t : Turns script l p before after x next) (h : p.at < length script) (room : 24582 ≤ length before) (small : length script ≤ longest_script) (few : p.tally.done + p.tally.others ≤ p.at) where
  pub stands : take x.len after ≡ answer_text (told_at script l p).answer (told_at script l p).results
  stands = put_front t.text (omega (arith, room, answer-short (told_at script l p).answer (told_at script l p).results (obey-few (view l) (part_at line_feed script p.at))))

  done_is : x.next.tally.done ≡ done_after p.tally.done (told_at script l p)
  done_is = ap (λ (c : Tally). c.done) t.tally ∙ count-done p.tally (told_at script l p) (omega arith)

  others_is : x.next.tally.others ≡ others_after p.tally.others (told_at script l p)
  others_is = ap (λ (c : Tally). c.others) t.tally ∙ count-others p.tally (told_at script l p) (omega arith)

  pub turn_prints : take x.len after ++ to_print script next x.next ≡ to_print script l p
  turn_prints = rw (stands, t.state, done_is, others_is, t.place) (sym (one_line script (view l) p.tally.done p.tally.others p.at h))

  pub turn_counts : x.next.tally.done + x.next.tally.others ≤ x.next.at
  turn_counts = omega (arith, done_is, others_is, counted-once p.tally.done p.tally.others (told_at script l p), t.place, past_more line_feed script p.at h)

  pub turn_leaves : to_leave script next x.next ≡ to_leave script l p
  turn_leaves = rw (t.state, t.place) (sym (one_line_after script (view l) p.tally.done p.tally.others p.at h))
