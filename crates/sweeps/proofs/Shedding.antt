-- What a sweep that sheds gives, said of a model with the same lines, assignments and sessions. Assumes nothing.
use mathlib.Core.Bool.{Bool, true, false}
use mathlib.Core.List.{List}
use mathlib.Core.Path.{◌≡◌, refl, sym, ap, ◌∙◌, fun_ext, subst}
use Prim.Native.Nat.{ℕ, ◌≤◌, ◌<◌}
use native.Mathlib.Omega.{arith}
use native.Mathlib.Decide.{dec_lt}
use lib.Seq.{get_or-take}
use Rattle.hierarchy.specs.Walks.{reach}
use Rattle.model.specs.Model.{Model, Session, closed_session, with_sessions}
use Rattle.model.specs.Words.{shed, shedded, keeping}
use Rattle.state.specs.Places.{owners_at, active_at}
use Rattle.state.specs.Stores.{with_active}
use Rattle.state.specs.View.{part, view}
use Rattle.state.proofs.Slots.{part_none}
use Rattle.sweeps.specs.Sweeps.{ShedsAll}

-- past the 64 sessions of a state there is none
pub view-past : (l : List ℕ) (k : ℕ) → 64 ≤ k → (view l).sessions k ≡ closed_session
unfolding view
view-past l k h = rw (part_none l owners_at 64 k h, part_none l active_at 64 k h)

-- the same of equal tables
pub sheds-same : {j j' a a' : ℕ → ℕ} {s s' : ℕ → Session} (x : List ℕ) → j ≡ j' → a ≡ a' → s ≡ s' → ShedsAll j a s x → ShedsAll j' a' s' x
sheds-same x p q r h = subst (λ (T : Type 0). T) (λ i. ShedsAll (p i) (q i) (r i) x) h

-- shedding leaves all but the active roles
shedded-active : (juniors assigned : ℕ → ℕ) (s : Session) → shedded juniors assigned s ≡ record { live = s.live; owner = s.owner; active = (shedded juniors assigned s).active }
unfolding shedded
shedded-active juniors assigned s = go s.live
  where
    after : Bool → Session
    after b = elim b [ true ↦ keeping s (reach juniors (assigned s.owner)) | false ↦ s ]

    go : (b : Bool) → after b ≡ record { live = s.live; owner = s.owner; active = (after b).active }
    go true = refl
    go false = refl

-- no session sheds nothing
shedded-none : (juniors assigned : ℕ → ℕ) → shedded juniors assigned closed_session ≡ closed_session
unfolding shedded
shedded-none juniors assigned = refl

module _ (m : Model) (kept : List ℕ) (sheds : ShedsAll m.juniors m.assigned m.sessions kept) where
  -- the sessions that it leaves are those of the model after shedding
  pub shed_after : ((k : ℕ) → 64 ≤ k → m.sessions k ≡ closed_session) → shed m ≡ with_sessions m (with_active m.sessions (part kept 0 64))
  unfolding shed
  shed_after past = ap (with_sessions m) (fun_ext (λ k. go k (dec_lt k 64)))
    where
      go : (k : ℕ) → Dec (k < 64) → shedded m.juniors m.assigned (m.sessions k) ≡ with_active m.sessions (part kept 0 64) k
      go k (yes p) = shedded-active m.juniors m.assigned (m.sessions k) ∙ ap (λ (x : ℕ). record { live = (m.sessions k).live; owner = (m.sessions k).owner; active = x }) (sym (get_or-take 64 kept k 0 p ∙ sheds.each k p))
      go k (no p) = let z : 64 ≤ k = omega arith in rw (past k z, part_none kept 0 64 k z) (shedded-none m.juniors m.assigned)

  -- a state that holds the model, and then stores what each session keeps, holds the model after shedding
  pub shed_stored : ((k : ℕ) → 64 ≤ k → m.sessions k ≡ closed_session) → (between after : Model) → between ≡ m → after ≡ with_sessions between (with_active between.sessions (part kept 0 64)) → after ≡ shed m
  shed_stored past between after stored e = e ∙ ap (λ (x : Model). with_sessions x (with_active x.sessions (part kept 0 64))) stored ∙ sym (shed_after past)
