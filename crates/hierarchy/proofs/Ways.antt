-- Ways along the lines: what a role inherits, it inherits through a chain of at most 64 roles. A longer way comes back to a role and can be
-- shortened there, whether the lines hold a circle or not. Assumes nothing.
use mathlib.Core.Bool.{Bool, true, false, not, ◌&&◌, and-true}
use mathlib.Core.Logic.{◌⊎◌, inl, inr}
use mathlib.Core.Path.{◌≡◌, refl, sym, ap, subst, ◌∙◌}
use Prim.Native.Nat.{ℕ, zero, suc, ◌+◌, ◌≤◌, ◌<◌}
use native.Mathlib.Omega.{arith}
use lib.Dec.{eqb}
use borrow.Author.Tests.{eqb-true, eq-eqb, ne_eqb}
use Rattle.roleset.specs.Bounded.{bit, tally}
use Rattle.roleset.proofs.BoundedLaws.{and_both, not_yes, some-intro, tally-le, tally-some, tally-change}
use Rattle.hierarchy.specs.Lines.{line, Small, AtOrAbove}
use Rattle.hierarchy.specs.Lines.Inherits.{one, more}

-- the roles that pass the test and are not r
pub but : (ℕ → Bool) → ℕ → ℕ → Bool
but pass r k = pass k && not (eqb k r)

-- fewer roles pass without r, where r passes
pub but-less : (pass : ℕ → Bool) (r : ℕ) → r < 64 → pass r ≡ true → tally 64 (but pass r) < tally 64 pass
unfolding but
but-less pass r l p = omega (arith, step, ap bit p, ap bit gone)
  where
    gone : (pass r && not (eqb r r)) ≡ false
    gone = rw (p, eq-eqb r r refl)

    step : tally 64 (but pass r) + bit (pass r) ≡ tally 64 pass + bit (but pass r r)
    step = tally-change 64 (but pass r) pass r l (λ k h n. rw (ne_eqb k r n) (and-true (pass k)))

-- a role that passes the test and is not r passes both
pub but-other : (pass : ℕ → Bool) (r k : ℕ) → pass k ≡ true → eqb k r ≡ false → but pass r k ≡ true
unfolding but
but-other pass r k p e = and_both (pass k) (not (eqb k r)) p (not_yes (eqb k r) e)

module _ (lines : ℕ → ℕ) where
  -- r is met from s: by fewer than n lines, between roles 0 to 63
  pub data Met : ℕ → ℕ → ℕ → Type 0 where
    here : {n s r : ℕ} → s ≡ r → Met (suc n) s r
    next : {n s k r : ℕ} → line lines s k ≡ true → k < 64 → Met n k r → Met (suc n) s r

  -- a way from s to r, whose roles are 0 to 63 and pass the test
  data Way (pass : ℕ → Bool) (r : ℕ) : ℕ → Type 0 where
    there : {s : ℕ} → s < 64 → pass s ≡ true → s ≡ r → Way pass r s
    along : {s k : ℕ} → s < 64 → pass s ≡ true → line lines s k ≡ true → Way pass r k → Way pass r s

  -- where a way begins, the test is passed
  begins : {pass : ℕ → Bool} {r s : ℕ} → Way pass r s → (s < 64) × (pass s ≡ true)
  begins (there l p e) = (l, p)
  begins (along l p q w) = (l, p)

  -- how a way goes on from a, where it is for the last time: it ends there, or a line leads to a way that a is not on
  abbrev Onward : (ℕ → Bool) → ℕ → ℕ → Type 0
  Onward pass r a = (a ≡ r) ⊎ ((k : ℕ) × (line lines a k ≡ true) × Way (but pass a) r k)

  -- a is not on the way, or the way goes on from there
  last_at : (pass : ℕ → Bool) (r a : ℕ) {s : ℕ} → Way pass r s → Way (but pass a) r s ⊎ Onward pass r a
  last_at pass r a {s} (there l p e) = go (eqb s a) refl
    where
      go : (b : Bool) → eqb s a ≡ b → Way (but pass a) r s ⊎ Onward pass r a
      go true h = inr (inl (sym (eqb-true s a h) ∙ e))
      go false h = inl (there l (but-other pass a s p h) e)
  last_at pass r a {s} (along {k = k} l p q w) = go (eqb s a) refl (last_at pass r a w)
    where
      go : (b : Bool) → eqb s a ≡ b → Way (but pass a) r k ⊎ Onward pass r a → Way (but pass a) r s ⊎ Onward pass r a
      go b h (inr on) = inr on
      go true h (inl v) = inr (inr (k, subst (λ (x : ℕ). line lines x k ≡ true) (eqb-true s a h) q, v))
      go false h (inl v) = inl (along l (but-other pass a s p h) q v)

  -- a way whose roles pass a test that no more than n pass has one of fewer than n lines beside it
  shortened : (n : ℕ) (pass : ℕ → Bool) {s r : ℕ} → tally 64 pass ≤ n → Way pass r s → Met n s r
  shortened zero pass {s} h w =
      let b = begins w in
      absurd (omega (arith, tally-some 64 pass (some-intro 64 pass s b.0 b.1)))
  shortened (suc n) pass h (there l p e) = here e
  shortened (suc n) pass {s} {r} h (along {k = k} l p q w) = go (last_at pass r s w) (λ j v. shortened n (but pass s) (omega (arith, but-less pass s l p)) v)
    where
      go : Way (but pass s) r k ⊎ Onward pass r s → ((j : ℕ) → Way (but pass s) r j → Met n j r) → Met (suc n) s r
      go (inl v) rest = next q (begins v).0 (rest k v)
      go (inr (inl e)) rest = here e
      go (inr (inr (j, t, v))) rest = next t (begins v).0 (rest j v)

  module _ (small : Small lines) where
    way : {s r : ℕ} → s < 64 → AtOrAbove lines s r → Way (λ k. true) r s
    way l (inl e) = there l refl e
    way {s} {r} l (inr (one p)) = along l refl p (there (small.within s r p).1 refl refl)
    way {s} l (inr (more {k = k} p i)) = along l refl p (way (small.within s k p).1 (inr i))

    -- What a role is or inherits is met by fewer than 64 lines.
    pub met_in_64 : {s r : ℕ} → s < 64 → AtOrAbove lines s r → Met 64 s r
    met_in_64 l a = shortened 64 (λ k. true) (tally-le 64 (λ k. true)) (way l a)
