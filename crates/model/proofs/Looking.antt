-- Laws of `up_to_first`: a list up to and including the first number that passes a test. Assumes nothing.
use mathlib.Core.Bool.{Bool, true, false}
use mathlib.Core.List.{List, [], ◌∷◌}
use mathlib.Core.Path.{◌≡◌}
use Prim.Native.Nat.{ℕ, ◌≤◌}
use native.Mathlib.Omega.{arith}
use lib.ListN.{length}
use Rattle.model.specs.Lists.{up_to_first}

pub first_passes : (f : ℕ → Bool) (k : ℕ) (rest : List ℕ) → f k ≡ true → up_to_first f (k ∷ rest) ≡ k ∷ []
unfolding up_to_first
first_passes f k rest e = rw e

pub first-fails : (f : ℕ → Bool) (k : ℕ) (rest : List ℕ) → f k ≡ false → up_to_first f (k ∷ rest) ≡ k ∷ up_to_first f rest
unfolding up_to_first
first-fails f k rest e = rw e

pub up-to-first-most : (f : ℕ → Bool) (l : List ℕ) → length (up_to_first f l) ≤ length l
unfolding up_to_first
up-to-first-most f [] = omega arith
up-to-first-most f (k ∷ l) = go (f k) (up-to-first-most f l)
  where
    go : (b : Bool) → length (up_to_first f l) ≤ length l → length (k ∷ elim b as (λ _. List ℕ) [ true ↦ [] | false ↦ up_to_first f l ]) ≤ length (k ∷ l)
    go true h = omega arith
    go false h = omega (arith, h)
