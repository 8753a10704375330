-- Marking the roles that are left gives what is asked. Assumes nothing.
use mathlib.Core.Bool.{◌||◌}
use mathlib.Core.Path.{◌≡◌}
use Prim.Native.Nat.{ℕ, ◌<◌}
use Rattle.hierarchy.specs.Lines.{table_of}
use Rattle.policyform.specs.Encode.{pair_in}
use Rattle.policywrite.specs.Parts.{granted}
use Rattle.policywrite.proofs.mark.Given as goal

abbrev pub invariant-loop-r : goal.invariant-loop-r
invariant-loop-r l = (k : ℕ) → k < 262144 → (pair_in (table_of l.rows) k || granted l.r-iterator.rest l.p k) ≡ (pair_in (table_of l.initial.rows) k || granted l.set l.p k)
