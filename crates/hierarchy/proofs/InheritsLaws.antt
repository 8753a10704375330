-- Laws of inheritance: it is transitive, it grows with the lines, and what a line more or fewer does to it. Assumes nothing.
use mathlib.Core.Bool.{true}
use mathlib.Core.Logic.{◌⊎◌, inl, inr}
use mathlib.Core.Path.{◌≡◌, sym, subst}
use Prim.Native.Nat.{ℕ, ◌^◌, ◌≤◌, ◌<◌}
use native.Mathlib.Omega.{arith}
use native.Mathlib.Decide.{dec_lt}
use Rattle.roleset.specs.Roles.{has}
use Rattle.roleset.proofs.BoundedLaws.{clash}
use Rattle.roleset.proofs.Laws.{has-none, member-small}
use Rattle.hierarchy.specs.Lines.{line, Inherits, Acyclic, Small, AtOrAbove}
use Rattle.hierarchy.specs.Lines.Inherits.{one, more}

-- Lines that 64 sets of roles 0 to 63 hold join roles 0 to 63.
pub small-intro : {lines : ℕ → ℕ} → ((s : ℕ) → 64 ≤ s → lines s ≡ 0) → ((s : ℕ) → s < 64 → lines s < 2 ^ 64) → Small lines
small-intro {lines} none-beyond sets = record { within = λ s j h. go s j h (dec_lt s 64) }
  where
    go : (s j : ℕ) → line lines s j ≡ true → Dec (s < 64) → (s < 64) × (j < 64)
    go s j h (yes l) = (l, member-small (lines s) j (sets s l) h)
    go s j h (no n) = clash (has 0 j) (rw (none-beyond s (omega arith)) at h) (has-none j)

-- A role inherits what the roles that it inherits do.
pub trans : {lines : ℕ → ℕ} {a b c : ℕ} → Inherits lines a b → Inherits lines b c → Inherits lines a c
trans (one l) q = more l q
trans (more l p) q = more l (trans p q)

-- A role that inherits another inherits what the other is or inherits.
pub above-trans : {lines : ℕ → ℕ} {a b c : ℕ} → Inherits lines a b → AtOrAbove lines b c → Inherits lines a c
above-trans {lines} {a} p (inl e) = subst (λ (x : ℕ). Inherits lines a x) e p
above-trans p (inr q) = trans p q

-- To be or inherit is transitive too.
pub at-trans : {lines : ℕ → ℕ} {a b c : ℕ} → AtOrAbove lines a b → AtOrAbove lines b c → AtOrAbove lines a c
at-trans {lines} {c = c} (inl e) q = subst (λ (x : ℕ). AtOrAbove lines x c) (sym e) q
at-trans (inr p) q = inr (above-trans p q)

-- Where every line of one hierarchy stands in another, so does all inheritance.
pub inherits-grows : {lines lines' : ℕ → ℕ} {a b : ℕ} → ((s j : ℕ) → line lines s j ≡ true → line lines' s j ≡ true) → Inherits lines a b → Inherits lines' a b
inherits-grows {a} {b} f (one l) = one (f a b l)
inherits-grows {a} f (more {k = k} l p) = more (f a k l) (inherits-grows f p)

-- Both ends of inheritance are roles 0 to 63.
pub ends-small : {lines : ℕ → ℕ} {a b : ℕ} → Small lines → Inherits lines a b → (a < 64) × (b < 64)
ends-small {a} {b} h (one l) = h.within a b l
ends-small {a} h (more {k = k} l p) = ((h.within a k l).0, (ends-small h p).1)

-- Taking lines away makes no circle.
pub remove-acyclic : {lines lines' : ℕ → ℕ} → ((s j : ℕ) → line lines' s j ≡ true → line lines s j ≡ true) → Acyclic lines → Acyclic lines'
remove-acyclic f h = record { never = λ r p. h.never r (inherits-grows f p) }

module _ {lines lines' : ℕ → ℕ} {s j : ℕ} (added : (a b : ℕ) → line lines' a b ≡ true → (line lines a b ≡ true) ⊎ ((a ≡ s) × (b ≡ j))) where
  -- With the line (s, j) added, a role inherits what it did before; or it is s or above s, and inherits j or what j does.
  pub added_inherits : {a b : ℕ} → Inherits lines' a b → Inherits lines a b ⊎ (AtOrAbove lines a s × AtOrAbove lines j b)
  added_inherits {a} {b} (one l) = first (added a b l)
    where
      first : (line lines a b ≡ true) ⊎ ((a ≡ s) × (b ≡ j)) → Inherits lines a b ⊎ (AtOrAbove lines a s × AtOrAbove lines j b)
      first (inl old) = inl (one old)
      first (inr new) = inr (inl new.0, inl (sym new.1))
  added_inherits {a} {b} (more {k = k} l p) = first (added a k l) (added_inherits p)
    where
      first : (line lines a k ≡ true) ⊎ ((a ≡ s) × (k ≡ j)) → Inherits lines k b ⊎ (AtOrAbove lines k s × AtOrAbove lines j b) → Inherits lines a b ⊎ (AtOrAbove lines a s × AtOrAbove lines j b)
      first (inl old) (inl q) = inl (more old q)
      first (inl old) (inr q) = inr (inr (above-trans (one old) q.0), q.1)
      first (inr new) (inl q) = inr (inl new.0, inr (subst (λ (x : ℕ). Inherits lines x b) new.1 q))
      first (inr new) (inr q) = inr (inl new.0, q.1)

  -- A line added between two roles, of which the junior neither is nor inherits the senior, makes no circle.
  pub add_acyclic : (AtOrAbove lines j s → ⊥) → Acyclic lines → Acyclic lines'
  add_acyclic not-above h = record { never = λ r p. go r (added_inherits p) }
    where
      go : (r : ℕ) → Inherits lines r r ⊎ (AtOrAbove lines r s × AtOrAbove lines j r) → ⊥
      go r (inl q) = h.never r q
      go r (inr q) = not-above (at-trans q.1 q.0)

-- Where a hierarchy with the line (s, j) has no circle, j neither is nor inherits s.
pub acyclic-line : {lines : ℕ → ℕ} {s j : ℕ} → Acyclic lines → line lines s j ≡ true → AtOrAbove lines j s → ⊥
acyclic-line {s} h l q = h.never s (above-trans (one l) q)
