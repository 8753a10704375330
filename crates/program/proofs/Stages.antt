-- What is printed next, by the tests that the code makes. Assumes nothing.
use mathlib.Core.Bool.{true, false}
use mathlib.Core.List.{List}
use mathlib.Core.Path.{◌≡◌}
use Prim.Native.Nat.{ℕ, ◌≤◌, ◌<◌}
use lib.ListN.{length}
use borrow.Author.Tests.{lt-ltb, le-ltb}
use Rattle.state.specs.View.{view}
use Rattle.program.specs.Printing.{Stage, stage_of, over, total, too_long, line, piece, Puts, Prints}
use Rattle.program.specs.declared.Run.{Run}
use Rattle.program.specs.declared.Printed.{Printed}

pub at-over : (script : List ℕ) (r : Run) → r.over ≡ true → stage_of script r ≡ over
unfolding stage_of
at-over script r e = rw e

module _ (script : List ℕ) (r : Run) (e : r.over ≡ false) where
  pub at_total : length script ≤ r.progress.at → stage_of script r ≡ total
  unfolding stage_of
  at_total h = rw (e, le-ltb r.progress.at (length script) h)

  pub at_too_long : r.progress.at < length script → 32768 < length script → stage_of script r ≡ too_long
  unfolding stage_of
  at_too_long h k = rw (e, lt-ltb r.progress.at (length script) h, lt-ltb 32768 (length script) k)

  pub at_line : r.progress.at < length script → length script ≤ 32768 → stage_of script r ≡ line
  unfolding stage_of
  at_line h k = rw (e, lt-ltb r.progress.at (length script) h, le-ltb 32768 (length script) k)

-- what is printed at a stage, where the stage is known
pub prints-at : {script l before after next : List ℕ} {r : Run} {x : Printed} {s : Stage} → stage_of script r ≡ s → Puts (piece s script l r.progress) before after x → view next ≡ (piece s script l r.progress).after → Prints script l r before after x next
prints-at e puts state = record { puts = rw e puts; state = rw e state }
