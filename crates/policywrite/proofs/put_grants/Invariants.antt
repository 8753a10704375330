-- The rows hold the grants of the permissions passed. Assumes nothing.
use mathlib.Core.Path.{◌≡◌}
use Prim.Native.Nat.{ℕ, ◌<◌}
use Rattle.hierarchy.specs.Lines.{table_of}
use Rattle.policyform.specs.Encode.{pair_in}
use Rattle.policywrite.proofs.Turning.{grant_below}
use Rattle.policywrite.proofs.put_grants.Given as goal

abbrev pub invariant-loop-p : goal.invariant-loop-p
invariant-loop-p l = (k : ℕ) → k < 262144 → pair_in (table_of l.rows) k ≡ grant_below (table_of l.holders) l.p k
