-- The effective roles of a session only shrink where roles, lines and active roles do. Assumes nothing.
use mathlib.Core.Bool.{true}
use mathlib.Core.List.{List}
use mathlib.Core.Logic.{inl, inr, ⊎_elim, ◌↔◌}
use mathlib.Core.Path.{◌≡◌, refl}
use Prim.Native.Nat.{ℕ}
use Rattle.roleset.specs.Roles.{has, without}
use Rattle.roleset.proofs.BoundedLaws.{clash}
use Rattle.roleset.proofs.Laws.{has-none}
use Rattle.hierarchy.specs.Lines.{line}
use Rattle.hierarchy.specs.Walks.{reach}
use Rattle.hierarchy.proofs.InheritsLaws.{inherits-grows}
use Rattle.model.specs.Model.{Model, Session, closed_session}
use Rattle.model.specs.Step.{step}
use Rattle.model.specs.Words.{shed}
use Rattle.model.specs.commands.Assigning.{assign, assigned, deassign, deassigned}
use Rattle.model.specs.commands.Inheriting.{disinherit, unlined}
use Rattle.model.specs.commands.Sessions.{drop, session_set, active_set, end}
use Rattle.model.specs.commands.Users.{norole, without_role, end_all, all_ended}
use Rattle.sound.proofs.Members.{without-member, common-member, fewer-at, stripped-fewer}
use Rattle.sound.proofs.Put.{put_all}
use Rattle.sound.proofs.Shedding.{shedded-all}
use Rattle.sound.proofs.Sheet.{kept}
use Rattle.sound.proofs.Users.{ended-all}
use Rattle.demands.specs.Authorised.{InOrBelow, Effective}
use Rattle.demands.specs.EffectiveRoles.{EffectiveRoles}

-- With no more lines, what is in or below a set is in or below a larger one.
pub in-or-below-fewer : (m after : Model) → ((a j : ℕ) → line after.juniors a j ≡ true → line m.juniors a j ≡ true) → (held held' : ℕ) → ((r : ℕ) → has held r ≡ true → has held' r ≡ true) → (r : ℕ) → InOrBelow after held r → InOrBelow m held' r
in-or-below-fewer m after lines held held' fewer r = ⊎_elim (λ h. inl (fewer r h)) (λ q. inr (q.0, fewer q.0 q.1, inherits-grows lines q.2))

-- no more roles, lines and active roles
pub record Fewer (m after : Model) : Type 0 where
  pub roles : (r : ℕ) → has after.roles r ≡ true → has m.roles r ≡ true
  pub lines : (a j : ℕ) → line after.juniors a j ≡ true → line m.juniors a j ≡ true
  pub active : (s r : ℕ) → has (after.sessions s).active r ≡ true → has (m.sessions s).active r ≡ true

same : (m : Model) → Fewer m m
same m = record { roles = λ r e. e; lines = λ a j e. e; active = λ s r e. e }

-- leave no more effective ones.
pub effective-fewer : (m after : Model) → Fewer m after → (s x : ℕ) → Effective after s x → Effective m s x
effective-fewer m after f s x e = record { exists = f.roles x e.exists; through = in-or-below-fewer m after f.lines (after.sessions s).active (m.sessions s).active (f.active s) x e.through }

-- What a session sheds it does not gain.
shed-fewer : (m after : Model) → ((r : ℕ) → has after.roles r ≡ true → has m.roles r ≡ true) → ((a j : ℕ) → line after.juniors a j ≡ true → line m.juniors a j ≡ true) → after.sessions ≡ m.sessions → Fewer m (shed after)
unfolding shed
shed-fewer m after roles lines sessions =
    record {
      roles = roles;
      lines = lines;
      active = λ s r. shedded-all (λ y. has y.active r ≡ true → has (m.sessions s).active r ≡ true) after.juniors after.assigned (after.sessions s) (λ l h. as_it_was s r (common-member (after.sessions s).active (reach after.juniors (after.assigned (after.sessions s).owner)) r h).1) (λ l h. as_it_was s r h);
    }
  where
    as_it_was : (s r : ℕ) → has (after.sessions s).active r ≡ true → has (m.sessions s).active r ≡ true
    as_it_was s r h = rw sessions at h

module _ (m : Model) (list : List ℕ) (s x : ℕ) where
  -- a command that is refused, or leaves no more
  pub effective_roles : EffectiveRoles m list s x
  unfolding step assign assigned deassign deassigned disinherit unlined norole without_role drop active_set end end_all all_ended
  effective_roles =
      record {
        assign = λ u r. kept (λ after. Effective after s x ↔ Effective m s x) _ m _ _ refl ((λ e. e), (λ e. e)) (λ c. ((λ e. record { exists = e.exists; through = e.through }), (λ e. record { exists = e.exists; through = e.through })));
        deassign = λ u r. effective-fewer m _ (kept (Fewer m) _ m _ _ refl (same m) (λ c. shed-fewer m (deassigned m u.number r.number) (λ k e. e) (λ a j e. e) refl)) s x;
        disinherit = λ a b. effective-fewer m _ (kept (Fewer m) _ m _ _ refl (same m) (λ c. shed-fewer m (unlined m a.number b.number) (λ k e. e) (fewer-at m.juniors a.number b.number) refl)) s x;
        norole = λ r. effective-fewer m _ (kept (Fewer m) _ m _ _ refl (same m) (λ c. shed-fewer m (without_role m r.number) (λ k e. (without-member m.roles r.number k e).1) (stripped-fewer m.juniors r.number) refl)) s x;
        drop = λ u k r. effective-fewer m _ (kept (Fewer m) _ m _ _ refl (same m) (λ c. session_fewer k.number _ (λ j e. (without-member (m.sessions k.number).active r.number j e).1))) s x;
        end = λ u k. effective-fewer m _ (kept (Fewer m) _ m _ _ refl (same m) (λ c. session_fewer k.number closed_session (λ j e. clash (has 0 j) e (has-none j)))) s x;
        end_all = λ u. effective-fewer m _ (kept (Fewer m) _ m _ _ refl (same m) (λ c. record { roles = λ r e. e; lines = λ a j e. e; active = λ k r. ended-all (λ y. has y.active r ≡ true → has (m.sessions k).active r ≡ true) u.number (m.sessions k) (λ e. clash (has 0 r) e (has-none r)) (λ o e. e) })) s x;
      }
    where
      session_fewer : (k : ℕ) (new : Session) → ((r : ℕ) → has new.active r ≡ true → has (m.sessions k).active r ≡ true) → Fewer m (session_set m k new)
      session_fewer k new fewer = record { roles = λ r e. e; lines = λ a j e. e; active = put_all (λ i y. (r : ℕ) → has y.active r ≡ true → has (m.sessions i).active r ≡ true) m.sessions k new fewer (λ i d r e. e) }
