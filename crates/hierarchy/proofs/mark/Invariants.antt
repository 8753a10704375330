-- Marking the places that are left gives what is asked. Assumes nothing.
use mathlib.Core.Path.{◌≡◌}
use Prim.Native.Nat.{ℕ, ◌<◌}
use lib.ListN.{length}
use Rattle.hierarchy.specs.Lines.{table_of}
use Rattle.hierarchy.specs.Marks.{marked}
use Rattle.hierarchy.proofs.mark.Given as goal

abbrev pub invariant-loop-j : goal.invariant-loop-j
invariant-loop-j l = (length l.t ≡ 64) × ((k : ℕ) → k < 64 → marked (table_of l.t) l.j-iterator.rest l.s k ≡ marked (table_of l.initial.t) l.places l.s k)
