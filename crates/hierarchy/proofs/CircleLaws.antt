-- Circles: a chain of more than 64 roles repeats one, so there is one only where some role inherits itself. Assumes nothing.
use mathlib.Core.Bool.{Bool, true, false}
use mathlib.Core.Logic.{◌⊎◌, inl, inr, ⊎_elim}
use mathlib.Core.Path.{◌≡◌, refl, subst, ◌∙◌}
use Prim.Native.Nat.{ℕ, zero, suc, ◌≤◌, ◌<◌}
use native.Mathlib.Omega.{arith}
use lib.Dec.{eqb}
use borrow.Author.Tests.{eqb-true}
use Rattle.roleset.specs.Bounded.{tally}
use Rattle.roleset.specs.Roles.{those}
use Rattle.roleset.proofs.BoundedLaws.{clash, never, some-intro, tally-le, tally-some}
use Rattle.roleset.proofs.Laws.{has-those}
use Rattle.hierarchy.specs.Lines.{line, Inherits, Chain, Acyclic, Small}
use Rattle.hierarchy.specs.Lines.Inherits.{one, more}
use Rattle.hierarchy.specs.Lines.Chain.{alone, down}
use Rattle.hierarchy.specs.Walks.{circular, TellsCircle}
use Rattle.hierarchy.proofs.InheritsLaws.{trans, ends-small}
use Rattle.hierarchy.proofs.Ways.{but, but-less, but-other}
use Rattle.hierarchy.proofs.ChainLaws.{Run, stay, go_on, longer_run, run_longer, chain_run}

module _ (lines : ℕ → ℕ) where
  -- a chain of n roles, all of them 0 to 63 and passing the test
  data Among (pass : ℕ → Bool) : ℕ → ℕ → Type 0 where
    end : {s : ℕ} → s < 64 → pass s ≡ true → Among pass 1 s
    from : {n s j : ℕ} → s < 64 → pass s ≡ true → line lines s j ≡ true → Among pass n j → Among pass (suc n) s

  run_among : {n s : ℕ} → s < 64 → Run lines n s → Among (λ k. true) n s
  run_among l stay = end l refl
  run_among l (go_on p lk c) = from l refl p (run_among lk c)

  -- a chain below r comes back to r, or none of its roles is r
  narrow : (pass : ℕ → Bool) (r : ℕ) {n s : ℕ} → Inherits lines r s → Among pass n s → Inherits lines r r ⊎ Among (but pass r) n s
  narrow pass r {s = s} i (end l p) = go (eqb s r) refl
    where
      go : (b : Bool) → eqb s r ≡ b → Inherits lines r r ⊎ Among (but pass r) 1 s
      go true e = inl (subst (λ (x : ℕ). Inherits lines r x) (eqb-true s r e) i)
      go false e = inr (end l (but-other pass r s p e))
  narrow pass r {s = s} i (from {n = n} {j = j} l p q c) = go (eqb s r) refl (narrow pass r (trans i (one q)) c)
    where
      go : (b : Bool) → eqb s r ≡ b → Inherits lines r r ⊎ Among (but pass r) n j → Inherits lines r r ⊎ Among (but pass r) (suc n) s
      go true e rest = inl (subst (λ (x : ℕ). Inherits lines r x) (eqb-true s r e) i)
      go false e rest = ⊎_elim (λ t. inl t) (λ t. inr (from l (but-other pass r s p e) q t)) rest

  -- a chain of more roles than pass the test comes back to one of them
  pigeonhole : (n : ℕ) (pass : ℕ → Bool) {s : ℕ} → tally 64 pass ≤ n → Among pass (suc n) s → (r : ℕ) × Inherits lines r r
  pigeonhole zero pass {s} h (end l p) = absurd (omega (arith, tally-some 64 pass (some-intro 64 pass s l p)))
  pigeonhole zero pass {s} h (from l p q c) = absurd (omega (arith, tally-some 64 pass (some-intro 64 pass s l p)))
  pigeonhole (suc n) pass {s} h (from l p q c) =
      ⊎_elim (λ t. (s, t)) (λ t. pigeonhole n (but pass s) (omega (arith, but-less pass s l p)) t) (narrow pass s (one q) c)

  -- A run of more roles than there are comes back to one of them,
  pub run_circle : (n : ℕ) {s : ℕ} → 64 ≤ n → s < 64 → Run lines (suc n) s → (r : ℕ) × Inherits lines r r
  run_circle n h l c = pigeonhole n (λ k. true) (omega (arith, tally-le 64 (λ k. true))) (run_among l c)

  -- and so does a chain over lines between roles 0 to 63.
  pub chain_circle : Small lines → (n : ℕ) {s : ℕ} → 64 < n → Chain lines n s → (r : ℕ) × Inherits lines r r
  chain_circle small n h alone = absurd (omega arith)
  chain_circle small n {s} h (down {n = k} {j = j} p c) = run_circle k (omega arith) (small.within s j p).0 (chain_run lines small (down p c))

  -- Where a role inherits itself, chains of any length start at every role that inherits it.
  pub circle_chain : {s r : ℕ} (n : ℕ) → Inherits lines s r → Inherits lines r r → Chain lines (suc n) s
  circle_chain zero i c = alone
  circle_chain (suc n) (one p) c = down p (circle_chain n c c)
  circle_chain (suc n) (more p i) c = down p (circle_chain n i c)

  -- `circular` says yes only where some role inherits itself,
  pub circular_sound : circular lines ≡ true → (r : ℕ) × Inherits lines r r
  unfolding circular
  circular_sound h =
      let f = longer_run lines _ _ h in
      run_circle _ (omega arith) f.small f.run

  -- and wherever one does,
  pub circular_complete : Small lines → (r : ℕ) → Inherits lines r r → circular lines ≡ true
  unfolding circular
  circular_complete small r c =
      let l = (ends-small small c).0 in
      run_longer lines 64 (those (λ k. true)) r l (has-those (λ k. true) r l) (chain_run lines small (circle_chain 64 c c))

  -- so it says no exactly where none does.
  pub circular_acyclic : Small lines → circular lines ≡ false → Acyclic lines
  circular_acyclic small e = record { never = λ r c. clash (circular lines) (circular_complete small r c) e }

  -- Where none does, it says no.
  pub acyclic_circular : Acyclic lines → circular lines ≡ false
  acyclic_circular a = never (circular lines) (λ h. let c = circular_sound h in a.never c.0 c.1)

  -- So it is what is to be handed back.
  pub tells_circle : (told : Bool) → told ≡ circular lines → TellsCircle lines told
  tells_circle told e = record { is = e; exactly = λ small. (λ h. circular_sound (rw e at h), λ c. e ∙ circular_complete small c.0 c.1) }
