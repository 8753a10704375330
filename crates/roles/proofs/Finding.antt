-- `any` over the numbers below n, in the word that the definitions use. Assumes nothing.
use mathlib.Core.Bool.{Bool, true, false, ◌||◌}
use mathlib.Core.Path.{◌≡◌, refl, sym, ap, ap₂, ◌∙◌}
use Prim.Native.Nat.{ℕ, zero, suc, ◌+◌}
use native.Mathlib.Omega.{arith}
use Rattle.std.specs.List.{list_any, range_with_len}
use Rattle.roleset.specs.Bounded.{some}
use Rattle.roleset.proofs.BoundedLaws.{some-ext}

or-swap : (a b c : Bool) → (a || (b || c)) ≡ (b || (a || c))
or-swap true true c = refl
or-swap true false c = refl
or-swap false true c = refl
or-swap false false c = refl

some-front : (n : ℕ) (f : ℕ → Bool) → some (suc n) f ≡ (f 0 || some n (λ k. f (suc k)))
unfolding some
some-front zero f = refl
some-front (suc n) f = ap (λ b. f (suc n) || b) (some-front n f) ∙ or-swap (f (suc n)) (f 0) (some n (λ k. f (suc k)))

any_from : (n a : ℕ) (f : ℕ → Bool) → list_any f (range_with_len a n) ≡ some n (λ k. f (a + k))
unfolding some
any_from zero a f = refl
any_from (suc n) a f =
    ap₂ ◌||◌ (ap f (omega arith)) (any_from n (a + 1) f ∙ some-ext n (λ k. f (a + 1 + k)) (λ k. f (a + suc k)) (λ k h. ap f (omega arith))) ∙ sym (some-front n (λ k. f (a + k)))

pub any-some : (n : ℕ) (f : ℕ → Bool) → list_any f (range_with_len 0 n) ≡ some n f
any-some n f = any_from n 0 f ∙ some-ext n (λ k. f (0 + k)) f (λ k h. ap f (omega arith))
