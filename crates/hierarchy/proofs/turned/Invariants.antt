-- Place k holds the seniors of k among the roles passed. Assumes nothing.
use mathlib.Core.Path.{◌≡◌}
use Prim.Native.Nat.{ℕ, ◌<◌}
use lib.ListN.{length}
use Rattle.hierarchy.specs.Lines.{table_of}
use Rattle.hierarchy.proofs.Marking.{seniors_below}
use Rattle.hierarchy.proofs.turned.Given as goal

abbrev pub invariant-loop-s : goal.invariant-loop-s
invariant-loop-s l = (length l.t ≡ 64) × ((k : ℕ) → k < 64 → table_of l.t k ≡ seniors_below (table_of l.juniors) l.s k)
