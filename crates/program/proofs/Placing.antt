-- Where each piece stands in what the script prints: the invariant of a loop that hands out one piece after another and counts their bytes.
-- Assumes nothing.
use mathlib.Core.Bool.{true, false}
use mathlib.Core.List.{List, ◌++◌}
use mathlib.Core.Path.{◌≡◌, refl, sym, ap, ◌∙◌}
use Prim.Native.Nat.{ℕ, ◌+◌, ◌*◌, ◌≤◌, ◌<◌}
use native.Mathlib.Omega.{arith}
use lib.ListN.{length, take, drop, length-append, length-drop}
use lib.Seq.{length-take-le, take_at, drop_at, drop-drop}
use Rattle.text.proofs.Putting.{put-length, put-within}
use Rattle.model.specs.Model.{Model}
use Rattle.state.specs.View.{view}
use Rattle.script.specs.Script.{run_from, after_script}
use Rattle.program.specs.Printing.{Prints, at_start}
use Rattle.program.specs.declared.Run.{Run}
use Rattle.program.specs.declared.Printed.{Printed}
use Rattle.program.proofs.Whole.{left, last, calls_left, Few, Goes, calls-on, goes_on, left_all, left-none, last_all, last_none, starts_few}

-- Of what the script prints from the policy m on, so many bytes were handed out, and the rest is left; the calls that are left will leave what the
-- script leaves of m.
pub record Handing (m : Model) (script l : List ℕ) (r : Run) (count : ℕ) : Type 0 where
  pub few : Few r
  pub rest : drop count (run_from m script) ≡ left script l r
  pub leaves : last script l r ≡ after_script m script
  pub within : count ≤ length (run_from m script)
  pub small : count + 24582 * calls_left script r ≤ 24582 * (length script + 1)

pub hands-all : (m : Model) (script l : List ℕ) (r : Run) → view l ≡ m → r ≡ at_start → Handing m script l r 0
hands-all m script l r v b =
    record {
      few = starts_few script l r b;
      rest = rw (← v) (sym (left_all script l r b));
      leaves = rw (← v) (last_all script l r b);
      within = omega arith;
      small = omega (arith, calls-on script r (ap (λ (q : Run). q.over) b), ap (λ (q : Run). q.progress.at) b);
    }

-- once the total was handed out, all was
pub hands_none : (m : Model) (script l : List ℕ) (r : Run) (count : ℕ) → Handing m script l r count → r.over ≡ true → count ≡ length (run_from m script)
hands_none m script l r count h e = omega (arith, h.within, length-drop count (run_from m script), ap length (h.rest ∙ left-none script l r e))

-- and the state holds what the script leaves
pub hands-last : (m : Model) (script l : List ℕ) (r : Run) (count : ℕ) → Handing m script l r count → r.over ≡ true → view l ≡ after_script m script
hands-last m script l r count h e = sym (last_none script l r e) ∙ h.leaves

module _ (m : Model) (script l : List ℕ) (r : Run) (before after : List ℕ) (x : Printed) (next : List ℕ) (count : ℕ) (room : 24582 ≤ length before) (h : Handing m script l r count) (e : r.over ≡ false) (t : Prints script l r before after x next) where
  goes : Goes script l r after x next
  goes = goes_on script l r before after x next room h.few e t

  pub piece_within : x.len ≤ length after
  piece_within = omega (arith, put-within t.puts.text (omega arith), put-length t.puts.text)

  piece_long : length (take x.len after) ≡ x.len
  piece_long = length-take-le x.len after piece_within

  splits : drop count (run_from m script) ≡ take x.len after ++ left script next x.run
  splits = h.rest ∙ sym goes.joins

  -- the piece stands next in what the script prints
  pub piece_next : take x.len after ≡ take (length (take x.len after)) (drop count (run_from m script))
  piece_next = rw splits (sym (take_at (take x.len after) (left script next x.run) _ refl))

  pub hands_on : Handing m script next x.run (count + x.len)
  hands_on =
      record {
        few = goes.few;
        rest = sym (drop-drop x.len count (run_from m script)) ∙ rw splits (drop_at (take x.len after) (left script next x.run) x.len piece_long);
        leaves = goes.leaves ∙ h.leaves;
        within = omega (arith, h.within, length-drop count (run_from m script), ap length splits, length-append (take x.len after) (left script next x.run), piece_long);
        small = omega (arith, h.small, goes.short, goes.fewer);
      }

  pub calls_fewer : calls_left script x.run < calls_left script r
  calls_fewer = goes.fewer

  pub count_small : count + x.len ≤ 24582 * (length script + 1)
  count_small = omega (arith, h.small, goes.short, goes.fewer)
