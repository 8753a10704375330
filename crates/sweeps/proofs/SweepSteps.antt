-- What one turn of a sweep does to one session: shedding, and ending. Assumes nothing.
use mathlib.Core.Bool.{Bool, true, false}
use mathlib.Core.Logic.{◌⊎◌, inl, inr}
use mathlib.Core.Path.{◌≡◌, refl, sym, ap, ◌∙◌, fun_ext}
use Prim.Native.Nat.{ℕ, ◌+◌, ◌≤◌, ◌<◌}
use native.Mathlib.Omega.{arith}
use native.Mathlib.Decide.{dec_lt}
use Rattle.roleset.specs.Roles.{common}
use Rattle.roleset.proofs.BoundedLaws.{last-or-below}
use Rattle.hierarchy.specs.Walks.{reach}
use Rattle.model.specs.Model.{Model, Session, closed_session, put, with_sessions}
use Rattle.model.specs.Words.{shedded}
use Rattle.model.specs.commands.Sessions.{session_set}
use Rattle.model.specs.commands.Users.{open_of, ended_of, all_ended}
use Rattle.model.proofs.Puts.{put_same, put_other}

module _ (juniors assigned : ℕ → ℕ) (s : Session) where
  -- a live session keeps what its owner's walk meets
  pub keeps_live : (w x : ℕ) → s.live ≡ true → w ≡ reach juniors (assigned s.owner) → x ≡ common s.active w → x ≡ (shedded juniors assigned s).active
  unfolding shedded
  keeps_live w x h e f = f ∙ rw (e, shedded, h)

  -- any other is as it was
  pub keeps_dead : s.live ≡ false → s.active ≡ (shedded juniors assigned s).active
  unfolding shedded
  keeps_dead h = rw (shedded, h)

-- an open session of the user ends; any other is as it was
pub end-own : (u : ℕ) (s : Session) → open_of u s ≡ true → closed_session ≡ ended_of u s
unfolding ended_of
end-own u s e = sym (ap (λ (b : Bool). elim b as (λ _. Session) [ true ↦ closed_session | false ↦ s ]) e)

pub end-other : (u : ℕ) (s : Session) → open_of u s ≡ false → s ≡ ended_of u s
unfolding ended_of
end-other u s e = sym (ap (λ (b : Bool). elim b as (λ _. Session) [ true ↦ closed_session | false ↦ s ]) e)

-- the sessions of the user below n have ended, and all else is as it was
module _ (m : Model) (u : ℕ) where
  pub record Ended (n : ℕ) (after : Model) : Type 0 where
    pub rest : after ≡ with_sessions m after.sessions
    pub done : (k : ℕ) → k < n → after.sessions k ≡ ended_of u (m.sessions k)
    pub left : (k : ℕ) → n ≤ k → after.sessions k ≡ m.sessions k

  pub ended_start : Ended 0 m
  ended_start = record { rest = refl; done = λ k p. absurd (omega arith); left = λ k p. refl }

  -- the next session ends
  pub ended_one : (n : ℕ) (before after : Model) → Ended n before → after ≡ session_set before n closed_session → closed_session ≡ ended_of u (m.sessions n) → Ended (n + 1) after
  ended_one n before after d e h = record { rest = e ∙ ap (λ (x : Model). with_sessions x (put before.sessions n closed_session)) d.rest ∙ sym (ap (λ (x : Model). with_sessions m x.sessions) e); done = λ k p. at k ∙ go k (last-or-below k n (omega arith)); left = λ k p. at k ∙ put_other before.sessions n closed_session k (λ q. omega arith) ∙ d.left k (omega arith) }
    where
      at : (k : ℕ) → after.sessions k ≡ put before.sessions n closed_session k
      at k = ap (λ (x : Model). x.sessions k) e

      go : (k : ℕ) → (k ≡ n) ⊎ (k < n) → put before.sessions n closed_session k ≡ ended_of u (m.sessions k)
      go k (inl p) = rw p (put_same before.sessions n closed_session ∙ h)
      go k (inr p) = put_other before.sessions n closed_session k (λ q. omega arith) ∙ d.done k p

  -- the next session stays
  pub ended_none : (n : ℕ) (after : Model) → Ended n after → m.sessions n ≡ ended_of u (m.sessions n) → Ended (n + 1) after
  ended_none n after d h = record { rest = d.rest; done = λ k p. go k (last-or-below k n (omega arith)); left = λ k p. d.left k (omega arith) }
    where
      go : (k : ℕ) → (k ≡ n) ⊎ (k < n) → after.sessions k ≡ ended_of u (m.sessions k)
      go k (inl p) = rw p (d.left n (omega arith) ∙ h)
      go k (inr p) = d.done k p

  -- all are passed, and there are none past them
  pub ended_all : (n : ℕ) (after : Model) → ((k : ℕ) → n ≤ k → m.sessions k ≡ closed_session) → Ended n after → after ≡ all_ended m u
  unfolding all_ended
  ended_all n after past d = d.rest ∙ ap (with_sessions m) (fun_ext (λ k. go k (dec_lt k n)))
    where
      go : (k : ℕ) → Dec (k < n) → after.sessions k ≡ ended_of u (m.sessions k)
      go k (yes p) = d.done k p
      go k (no p) = let z : n ≤ k = omega arith in d.left k z ∙ end-other u (m.sessions k) (ap (open_of u) (past k z))
