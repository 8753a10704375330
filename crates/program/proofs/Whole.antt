-- All that the calls hand out, joined, is what the script prints. Assumes nothing.
use mathlib.Core.Bool.{true, false}
use mathlib.Core.List.{List, [], ◌∷◌, ◌++◌, append-nil}
use mathlib.Core.Path.{◌≡◌, sym, ap, ◌∙◌}
use Prim.Native.Nat.{ℕ, ◌+◌, ◌-◌, ◌≤◌, ◌<◌}
use native.Mathlib.Omega.{arith}
use native.Mathlib.Decide.{dec_lt}
use lib.ListN.{length, take, length-append}
use Rattle.state.specs.View.{view}
use Rattle.model.specs.Model.{Model}
use Rattle.text.proofs.Putting.{put_front}
use Rattle.decimal.specs.Decimal.{numbered}
use Rattle.decimal.proofs.Laws.{numbered-short}
use Rattle.words.specs.Bytes.{bytes}
use Rattle.textlines.specs.Parts.{place_past, part_at}
use Rattle.textlines.specs.Tallies.{counted, one_more}
use Rattle.textlines.proofs.Laws.{past_more}
use Rattle.script.specs.Script.{answer_text, total_text, run_from, run_script, after_script, line_feed}
use Rattle.script.specs.LineAnswers.{Turns, told_at}
use Rattle.script.specs.declared.Progress.{Progress}
use Rattle.script.specs.declared.Turned.{Turned}
use Rattle.script.proofs.Turning.{to_print, to_leave, turn_prints, turn_counts, turn_leaves, answer-short, obey-few, at-end, after-end, from-policy, too-long-from, leaves_lines, leaves-it}
use Rattle.program.specs.Printing.{Stage, stage_of, over, total, too_long, line, Piece, piece, Puts, Prints, at_start, Begins, Runs, ends, goes}
use Rattle.program.specs.declared.Run.{Run}
use Rattle.program.specs.declared.Printed.{Printed}
use Rattle.program.proofs.Stages.{at-over, at_total, at_too_long, at_line}

-- ---- what is still to be handed out

left_at : Stage → List ℕ → List ℕ → Progress → List ℕ
left_at over script l p = []
left_at total script l p = total_text p.tally.done p.tally.others
left_at too_long script l p = answer_text 14 [] ++ total_text (counted p.tally false).done (counted p.tally false).others
left_at line script l p = to_print script l p

pub left : List ℕ → List ℕ → Run → List ℕ
left script l r = left_at (stage_of script r) script l r.progress

-- and the policy and sessions that the calls will leave
last_at : Stage → List ℕ → List ℕ → Progress → Model
last_at over script l p = view l
last_at total script l p = view l
last_at too_long script l p = view l
last_at line script l p = to_leave script l p

pub last : List ℕ → List ℕ → Run → Model
last script l r = last_at (stage_of script r) script l r.progress

-- how many calls are left at most
pub calls_left : List ℕ → Run → ℕ
calls_left script r = elim r.over [ true ↦ 0 | false ↦ length script - r.progress.at + 1 ]

-- no more lines were counted than bytes were passed, so no counter is at its most
abbrev pub Few : Run → Type 0
Few r = r.progress.tally.done + r.progress.tally.others ≤ r.progress.at

total-short : (done others : ℕ) → length (total_text done others) ≤ 18
unfolding total_text
total-short done others = omega (arith, length-append (bytes "total") (numbered (done ∷ others ∷ []) ++ (line_feed ∷ [])), length-append (numbered (done ∷ others ∷ [])) (line_feed ∷ []), numbered-short (done ∷ others ∷ []))

-- ---- one call

-- What a call hands out and what is left after it are what was left before it; and it was a call less.
pub record Goes (script l : List ℕ) (r : Run) (after : List ℕ) (x : Printed) (next : List ℕ) : Type 0 where
  pub joins : take x.len after ++ left script next x.run ≡ left script l r
  pub leaves : last script next x.run ≡ last script l r
  pub few : Few x.run
  pub short : x.len ≤ 24582
  pub fewer : calls_left script x.run < calls_left script r

left-at : (script l : List ℕ) (r : Run) {s : Stage} → stage_of script r ≡ s → left script l r ≡ left_at s script l r.progress
unfolding left
left-at script l r e = ap (λ (s : Stage). left_at s script l r.progress) e

last-at : (script l : List ℕ) (r : Run) {s : Stage} → stage_of script r ≡ s → last script l r ≡ last_at s script l r.progress
unfolding last
last-at script l r e = ap (λ (s : Stage). last_at s script l r.progress) e

-- while no line is too long, what is left is what the lines are still to print
left-lines : (script l : List ℕ) (r : Run) → r.over ≡ false → length script ≤ 32768 → left script l r ≡ to_print script l r.progress
unfolding left_at
left-lines script l r e k = go (dec_lt r.progress.at (length script))
  where
    go : Dec (r.progress.at < length script) → left script l r ≡ to_print script l r.progress
    go (yes h) = left-at script l r (at_line script r e h k)
    go (no h) = let n : length script ≤ r.progress.at = omega arith in left-at script l r (at_total script r e n) ∙ sym (at-end script (view l) r.progress.tally.done r.progress.tally.others r.progress.at n)

last-lines : (script l : List ℕ) (r : Run) → r.over ≡ false → length script ≤ 32768 → last script l r ≡ to_leave script l r.progress
unfolding last_at
last-lines script l r e k = go (dec_lt r.progress.at (length script))
  where
    go : Dec (r.progress.at < length script) → last script l r ≡ to_leave script l r.progress
    go (yes h) = last-at script l r (at_line script r e h k)
    go (no h) = let n : length script ≤ r.progress.at = omega arith in last-at script l r (at_total script r e n) ∙ sym (after-end script (view l) r.progress.at n)

calls-over : (script : List ℕ) (r : Run) → r.over ≡ true → calls_left script r ≡ 0
unfolding calls_left
calls-over script r e = rw e

pub calls-on : (script : List ℕ) (r : Run) → r.over ≡ false → calls_left script r ≡ length script - r.progress.at + 1
unfolding calls_left
calls-on script r e = rw e

module _ (script l : List ℕ) (r : Run) (before after : List ℕ) (x : Printed) (next : List ℕ) (room : 24582 ≤ length before) (few : Few r) (e : r.over ≡ false) (t : Prints script l r before after x next) where
  abbrev told : Stage → Piece
  told s = piece s script l r.progress

  puts_at : {s : Stage} → stage_of script r ≡ s → Puts (told s) before after x
  puts_at is = rw is at t.puts

  state_at : {s : Stage} → stage_of script r ≡ s → view next ≡ (told s).after
  state_at is = rw is at t.state

  -- the piece stands at the front of the buffer
  stands : {s : Stage} → stage_of script r ≡ s → length (told s).text ≤ 24582 → (take x.len after ≡ (told s).text) × (x.len ≤ 24582)
  stands is h = (put_front (puts_at is).text (omega arith), omega (arith, (puts_at is).text.ends))

  -- the total is the last piece
  goes_total : length script ≤ r.progress.at → Goes script l r after x next
  unfolding left_at last_at
  goes_total h =
      let is = at_total script r e h in
      let p = stands is (omega (arith, total-short r.progress.tally.done r.progress.tally.others)) in
      let n = (puts_at is).run in
      let o : x.run.over ≡ true = ap (λ (q : Run). q.over) n in
      record {
        joins = rw (p.0, left-at script next x.run (at-over script x.run o), left-at script l r is) (append-nil _);
        leaves = last-at script next x.run (at-over script x.run o) ∙ state_at is ∙ sym (last-at script l r is);
        few = rw n few;
        short = p.1;
        fewer = omega (arith, calls-over script x.run o, calls-on script r e);
      }

  -- after the answer to a script that is too long comes the total
  goes_too_long : r.progress.at < length script → 32768 < length script → Goes script l r after x next
  unfolding left_at last_at counted one_more
  goes_too_long h k =
      let is = at_too_long script r e h k in
      let p = stands is (omega (arith, answer-short 14 [] (omega arith))) in
      let n = (puts_at is).run in
      let o : x.run.over ≡ false = ap (λ (q : Run). q.over) n in
      let a : x.run.progress.at ≡ length script = ap (λ (q : Run). q.progress.at) n in
      record {
        joins = rw (p.0, left-at script next x.run (at_total script x.run o (omega arith)), left-at script l r is, n);
        leaves = last-at script next x.run (at_total script x.run o (omega arith)) ∙ state_at is ∙ sym (last-at script l r is);
        few = rw n (omega arith);
        short = p.1;
        fewer = omega (arith, calls-on script x.run o, calls-on script r e);
      }

  -- after a line's answer comes what the lines after it print
  goes_line : r.progress.at < length script → length script ≤ 32768 → Goes script l r after x next
  unfolding left_at
  goes_line h k =
      let is = at_line script r e h k in
      let p = stands is (answer-short (told_at script l r.progress).answer (told_at script l r.progress).results (obey-few (view l) (part_at line_feed script r.progress.at))) in
      let n = (puts_at is).run in
      let o : x.run.over ≡ false = ap (λ (q : Run). q.over) n in
      let a : x.run.progress.at ≡ place_past line_feed script r.progress.at = ap (λ (q : Run). q.progress.at) n in
      let turned : Turned = record { len = x.len; next = x.run.progress } in
      let turns : Turns script l r.progress before after turned next = record { text = (puts_at is).text; place = a; tally = ap (λ (q : Run). q.progress.tally) n; state = state_at is } in
      record {
        joins = rw (left-lines script next x.run o k, left-lines script l r e k) (turn_prints script l r.progress before after turned next turns h room k few);
        leaves = last-lines script next x.run o k ∙ turn_leaves script l r.progress before after turned next turns h room k few ∙ sym (last-lines script l r e k);
        few = turn_counts script l r.progress before after turned next turns h room k few;
        short = p.1;
        fewer = omega (arith, calls-on script x.run o, calls-on script r e, past_more line_feed script r.progress.at h);
      }

  pub goes_on : Goes script l r after x next
  goes_on = go (dec_lt r.progress.at (length script)) (dec_lt 32768 (length script))
    where
      go : Dec (r.progress.at < length script) → Dec (32768 < length script) → Goes script l r after x next
      go (no h) long = goes_total (omega arith)
      go (yes h) (yes k) = goes_too_long h k
      go (yes h) (no k) = goes_line h (omega arith)

-- ---- all calls

-- once the total was handed out, nothing is left
pub left-none : (script l : List ℕ) (r : Run) → r.over ≡ true → left script l r ≡ []
unfolding left_at
left-none script l r e = left-at script l r (at-over script r e)

pub last_none : (script l : List ℕ) (r : Run) → r.over ≡ true → last script l r ≡ view l
unfolding last_at
last_none script l r e = last-at script l r (at-over script r e)

-- at the start all is left
module _ (script l : List ℕ) (r : Run) (b : r ≡ at_start) where
  fresh : (r.over ≡ false) × (r.progress.at ≡ 0)
  fresh = (ap (λ (q : Run). q.over) b, ap (λ (q : Run). q.progress.at) b)

  pub left_all : left script l r ≡ run_from (view l) script
  unfolding left_at counted one_more
  left_all = go (dec_lt 32768 (length script))
    where
      go : Dec (32768 < length script) → left script l r ≡ run_from (view l) script
      go (yes h) = left-at script l r (at_too_long script r fresh.0 (omega (arith, fresh.1)) h) ∙ rw b (sym (too-long-from (view l) script h))
      go (no h) = left-lines script l r fresh.0 (omega arith) ∙ rw b (sym (from-policy (view l) script (omega arith)))

  pub last_all : last script l r ≡ after_script (view l) script
  unfolding last_at
  last_all = go (dec_lt 32768 (length script))
    where
      go : Dec (32768 < length script) → last script l r ≡ after_script (view l) script
      go (yes h) = last-at script l r (at_too_long script r fresh.0 (omega (arith, fresh.1)) h) ∙ sym (leaves-it (view l) script h)
      go (no h) = last-lines script l r fresh.0 (omega arith) ∙ rw b (sym (leaves_lines (view l) script (omega arith)))

  pub starts_few : Few r
  starts_few = rw b (omega arith)

joined : {script out l last' : List ℕ} {r : Run} → Few r → Runs script l r out last' → (out ≡ left script l r) × (view last' ≡ last script l r)
joined {script} few (ends l r e) = (sym (left-none script l r e), sym (last_none script l r e))
joined {script} few (goes l r before after x next rest end e room t runs) =
    let g = goes_on script l r before after x next (omega arith) few e t in
    let j = joined g.few runs in
    (ap (λ (o : List ℕ). take x.len after ++ o) j.0 ∙ g.joins, j.1 ∙ g.leaves)

-- The program's calls, from the first one until the total was handed out, hand out what the script prints from that policy on, whatever its length,
-- and leave what the script leaves of it.
pub whole_from : (script out l end : List ℕ) (r : Run) → r ≡ at_start → Runs script l r out end → (out ≡ run_from (view l) script) × (view end ≡ after_script (view l) script)
whole_from script out l end r b runs =
    let j = joined (starts_few script l r b) runs in
    (j.0 ∙ left_all script l r b, j.1 ∙ last_all script l r b)

pub whole : (script out l end : List ℕ) (r : Run) → Begins l r → Runs script l r out end → out ≡ run_script script
unfolding run_script
whole script out l end r b runs = (whole_from script out l end r b.run runs).0 ∙ ap (λ (m : Model). run_from m script) b.state
