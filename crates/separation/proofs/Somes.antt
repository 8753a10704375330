-- What `any` finds over a slice or a range is that some place passes the test. Assumes nothing.
use mathlib.Core.Bool.{Bool, true, false, ◌||◌}
use mathlib.Core.List.{List, [], ◌∷◌}
use mathlib.Core.Path.{◌≡◌, refl, sym, ap, ◌∙◌}
use Prim.Native.Nat.{ℕ, zero, suc}
use lib.ListN.{length, get_or}
use native.Mathlib.Nat.{zero-add}
use Rattle.std.specs.List.{list_any, range_with_len}
use Rattle.std.proofs.lemmas.List.FromFn.{length-range_with_len, get_or-range_with_len}
use Rattle.roleset.specs.Bounded.{some}
use Rattle.roleset.proofs.BoundedLaws.{some-ext}

-- the first place, or one after it
some_first : (n : ℕ) (f : ℕ → Bool) → some (suc n) f ≡ (f 0 || some n (λ k. f (suc k)))
unfolding some
some_first zero f = refl
some_first (suc n) f = ap (λ b. f (suc n) || b) (some_first n f) ∙ turned (f (suc n)) (f 0) (some n (λ k. f (suc k)))
  where
    turned : (a b c : Bool) → (a || (b || c)) ≡ (b || (a || c))
    turned true true c = refl
    turned true false c = refl
    turned false b c = refl

pub any-some : (test : ℕ → Bool) (xs : List ℕ) → list_any test xs ≡ some (length xs) (λ k. test (get_or xs k 0))
unfolding some
any-some test [] = refl
any-some test (x ∷ xs) = ap (λ b. test x || b) (any-some test xs) ∙ sym (some_first (length xs) (λ k. test (get_or (x ∷ xs) k 0)))

pub any_range : (test : ℕ → Bool) (n : ℕ) → list_any test (range_with_len 0 n) ≡ some n test
any_range test n = any-some test (range_with_len 0 n) ∙ rw (length-range_with_len 0 n) (some-ext n _ test (λ k h. ap test (get_or-range_with_len 0 n k 0 h ∙ zero-add k)))
