-- A table with one place changed: what holds at every place of it. Assumes nothing.
use mathlib.Core.Bool.{Bool, true, false}
use mathlib.Core.Path.{◌≡◌, refl, sym, subst}
use Prim.Native.Nat.{ℕ}
use lib.Dec.{eqb}
use borrow.Author.Tests.{eqb-true, eqb-false}
use Rattle.model.specs.Model.{put}
use Rattle.model.proofs.Puts.{put_same, put_other}

-- What holds of the new value at the place changed, and of the old values elsewhere, holds at every place.
pub put_all {κ} : {A : Type 0} (P : ℕ → A → Type κ) (table : ℕ → A) (i : ℕ) (v : A) → P i v → ((k : ℕ) → (k ≡ i → ⊥) → P k (table k)) → (k : ℕ) → P k (put table i v k)
put_all {A} P table i v here others k = go (eqb k i) refl
  where
    go : (b : Bool) → eqb k i ≡ b → P k (put table i v k)
    go true e = subst (λ (j : ℕ). P j (put table i v j)) (sym (eqb-true k i e)) (subst (λ (x : A). P i x) (sym (put_same table i v)) here)
    go false e = subst (λ (x : A). P k x) (sym (put_other table i v k (eqb-false k i e))) (others k (eqb-false k i e))
