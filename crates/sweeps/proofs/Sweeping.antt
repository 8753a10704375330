-- A loop that writes an array place by place, from the first on: the places passed hold the new table, the others the old one. Assumes nothing.
use mathlib.Core.List.{List}
use mathlib.Core.Logic.{◌⊎◌, inl, inr}
use mathlib.Core.Path.{◌≡◌, ap, ◌∙◌}
use Prim.Native.Nat.{ℕ, ◌+◌, ◌≤◌, ◌<◌}
use native.Mathlib.Omega.{arith}
use lib.ListN.{length, set, replicate, length-set}
use lib.Seq.{get_or-set_same, get_or-set_other}
use Rattle.roleset.proofs.BoundedLaws.{last-or-below}
use Rattle.hierarchy.specs.Lines.{table_of}
use Rattle.state.proofs.Tables.{repeat_table}

module _ (old new : ℕ → ℕ) where
  -- the array l of so many places, n of which are passed
  pub record Swept (size n : ℕ) (l : List ℕ) : Type 0 where
    pub long : length l ≡ size
    pub done : (k : ℕ) → k < n → table_of l k ≡ new k
    pub left : (k : ℕ) → n ≤ k → table_of l k ≡ old k

  pub swept_start : (size : ℕ) (l : List ℕ) → length l ≡ size → ((k : ℕ) → table_of l k ≡ old k) → Swept size 0 l
  swept_start size l e h = record { long = e; done = λ k p. absurd (omega arith); left = λ k p. h k }

  -- the new value is written at the next place
  pub swept_store : (size n : ℕ) (l : List ℕ) (v : ℕ) → n < size → v ≡ new n → Swept size n l → Swept size (n + 1) (set l n v)
  swept_store size n l v h e s = record { long = length-set l n v ∙ s.long; done = λ k p. go k (last-or-below k n (omega arith)); left = λ k p. get_or-set_other l n k v 0 (λ q. omega arith) ∙ s.left k (omega arith) }
    where
      go : (k : ℕ) → (k ≡ n) ⊎ (k < n) → table_of (set l n v) k ≡ new k
      go k (inl p) = rw p (get_or-set_same l n v 0 (omega (arith, s.long)) ∙ e)
      go k (inr p) = get_or-set_other l n k v 0 (λ q. omega arith) ∙ s.done k p

-- what an array of zeros holds, past its end too
pub zeros : (n k : ℕ) → table_of (replicate n 0) k ≡ 0
zeros n k = ap (λ (f : ℕ → ℕ). f k) (repeat_table n 0)
