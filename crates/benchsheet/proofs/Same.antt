-- Two lists are one where a test says so: for answers that are computed, and compared by a test. Assumes nothing.
use mathlib.Core.Bool.{Bool, true, false, ◌&&◌}
use mathlib.Core.List.{List, [], ◌∷◌}
use mathlib.Core.Path.{◌≡◌, refl, ap₂}
use Prim.Native.Nat.{ℕ}
use native.Mathlib.Omega.{arith}
use Rattle.roleset.proofs.BoundedLaws.{and_left, and_right}

-- as many elements, each the same by the test
unfoldable pub same_by : {A : Type 0} → (A → A → Bool) → List A → List A → Bool
same_by test [] [] = true
same_by test [] (y ∷ b) = false
same_by test (x ∷ a) [] = false
same_by test (x ∷ a) (y ∷ b) = test x y && same_by test a b

-- Where equal elements are all that the test passes, such lists are equal.
pub same_by_lem : {A : Type 0} (test : A → A → Bool) → ((x y : A) → test x y ≡ true → x ≡ y) → (a b : List A) → same_by test a b ≡ true → a ≡ b
unfolding same_by
same_by_lem test exact [] [] e = refl
same_by_lem test exact [] (y ∷ b) e = let z : ◌≡◌ {A = ℕ} 0 1 = cc in absurd (omega arith)
same_by_lem test exact (x ∷ a) [] e = let z : ◌≡◌ {A = ℕ} 0 1 = cc in absurd (omega arith)
same_by_lem test exact (x ∷ a) (y ∷ b) e = ap₂ ◌∷◌ (exact x y (and_left (test x y) (same_by test a b) e)) (same_by_lem test exact a b (and_right (test x y) (same_by test a b) e))
