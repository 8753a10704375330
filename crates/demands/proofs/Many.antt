-- Laws of "as many as n": what is counted has as many as n different members exactly where the count is n or more. One law for whatever
-- loses one of its count with each member taken away; a test, and a table of sets of roles, are such. Assumes nothing.
use mathlib.Core.Bool.{Bool, true, false, not, ◌&&◌}
use mathlib.Core.List.Memᴰ
use mathlib.Core.List.{List, [], ◌∷◌, Memᴰ}
use mathlib.Core.Logic.{◌⊎◌, inl, inr, ◌↔◌}
use mathlib.Core.Path.{◌≡◌, refl, sym, ap, subst, ◌∙◌}
use Prim.Native.Nat.{ℕ, zero, suc, ◌+◌, ◌≤◌, ◌<◌, ◌^◌}
use native.Mathlib.Omega.{arith}
use lib.Dec.{eqb}
use lib.ListN.{length}
use Rattle.demands.specs.Many.{Different, none, more, AsMany}

-- What holds of each may be weakened.
pub many-map : {A : Type 0} {n : ℕ} {P Q : A → Type 0} → ((a : A) → P a → Q a) → AsMany n P → AsMany n Q
many-map f x = record { list = x.list; different = x.different; long = x.long; each = λ a h. f a (x.each a h) }

module _ {A S : Type 0} (size : S → ℕ) (In : S → A → Type 0) (remove : S → A → S) (some_in : (s : S) → 0 < size s → (a : A) × In s a) (less : (s : S) (a : A) → In s a → suc (size (remove s a)) ≡ size s) (old : (s : S) (a b : A) → In (remove s a) b → In s b × (b ≡ a → ⊥)) (kept : (s : S) (a b : A) → In s b → (b ≡ a → ⊥) → In (remove s a) b) where
  one_more : (n : ℕ) (s : S) (a : A) → In s a → AsMany n (In (remove s a)) → AsMany (suc n) (In s)
  one_more n s a h x = record { list = a ∷ x.list; different = more (λ m. (old s a a (x.each a m)).1 refl) x.different; long = ap suc x.long; each = each }
    where
      each : (b : A) → Memᴰ b (a ∷ x.list) → In s b
      each b (Memᴰ.head e) = subst (λ (y : A). In s y) (sym e) h
      each b (Memᴰ.tail m) = (old s a b (x.each b m)).0

  -- A count of n or more gives n different members,
  pub counted_many : (n : ℕ) (s : S) → n ≤ size s → AsMany n (In s)
  counted_many zero s h = record { list = []; different = none; long = refl; each = λ a m. absurd (Memᴰ.not-nil m) }
  counted_many (suc n) s h =
      let found = some_in s (omega arith) in
      one_more n s found.0 found.1 (counted_many n (remove s found.0) (omega (arith, less s found.0 found.1)))

  -- different members are no more than the count,
  listed_most : (list : List A) → Different list → (s : S) → ((a : A) → Memᴰ a list → In s a) → length list ≤ size s
  listed_most [] d s f = omega arith
  listed_most (a ∷ rest) (more new d) s f =
      let h = listed_most rest d (remove s a) (λ b m. kept s a b (f b (Memᴰ.tail m)) (λ e. new (subst (λ (y : A). Memᴰ y rest) e m))) in
      omega (arith, less s a (f a (Memᴰ.head refl)))

  -- so n different members are counted as n at least.
  pub many_counted : (n : ℕ) (s : S) → AsMany n (In s) → n ≤ size s
  many_counted n s x = omega (arith, listed_most x.list x.different s x.each, x.long)
