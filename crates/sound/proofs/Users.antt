-- `user`, `role`, `end-all` and `nouser` keep a model sound. Assumes nothing.
use mathlib.Core.Bool.{Bool, true, false}
use mathlib.Core.Path.{◌≡◌, refl, ◌∙◌}
use Prim.Native.Nat.{ℕ, ◌<◌}
use native.Mathlib.Omega.{arith}
use lib.Dec.{eqb}
use borrow.Author.Tests.{leb-false, eqb-false}
use Rattle.roleset.specs.Roles.{has, with}
use Rattle.roleset.specs.Roles as roles
use Rattle.roleset.proofs.BoundedLaws.{clash, some-none, some-false}
use Rattle.roleset.proofs.Laws.{with-small, has-none}
use Rattle.hierarchy.specs.Walks.{reach}
use Rattle.model.specs.Model.{Model, Session, closed_session, put}
use Rattle.model.specs.Words.{authorised, breaks_some, dynamic_broken, assignments, grants, lines_standing}
use Rattle.model.specs.Sound.{Existing, SessionShape, Shape, Counted, Sound}
use Rattle.model.specs.commands.Users.{user, role, open_of, ended_of, all_ended, end_all, has_open, without_user, nouser}
use Rattle.sound.proofs.Sheet.{kept}
use Rattle.model.proofs.Puts.{put_other}
use Rattle.sound.proofs.Put.{put_all}
use Rattle.sound.proofs.Members.{with-old, and_no}
use Rattle.sound.proofs.Counting.{one-emptied}
use Rattle.sound.proofs.Carried.{role_small, existing-none, existing_in, set_in, session-none, closed_idle}
use Rattle.sound.proofs.Counted.{counted_of, closed-breaks-none}
use Rattle.sound.proofs.Changing.{names_changed, sessions_changed, fewer_sound}

-- `user u` keeps a sound model sound.
pub user-sound : (m : Model) (u : ℕ) → Sound m → Sound (user m u).after
unfolding user
user-sound m u s =
    kept Sound _ m _ _ refl s
    (λ c. names_changed m s (put m.users u true) m.roles
    (put_all (λ k b. b ≡ true → k < 256) m.users u true (λ e. leb-false 256 u c.0) (λ k d e. s.shape.users k e))
    (put_all (λ k b. m.users k ≡ true → b ≡ true) m.users u true (λ e. refl) (λ k d e. e))
    s.shape.roles
    (λ r e. e))

-- `role r` keeps a sound model sound.
pub role-sound : (m : Model) (r : ℕ) → Sound m → Sound (role m r).after
unfolding role
role-sound m r s =
    kept Sound _ m _ _ refl s
    (λ c. names_changed m s m.users (with m.roles r)
    s.shape.users
    (λ u e. e)
    (with-small m.roles r)
    (λ k e. with-old m.roles r k (role_small m s.shape k e) e))

-- what holds of a closed session, and of one that is not the user's or not open, holds of the session that is left
pub ended-all : (P : Session → Type 0) (u : ℕ) (x : Session) → P closed_session → (open_of u x ≡ false → P x) → P (ended_of u x)
unfolding ended_of
ended-all P u x closed other = go (open_of u x) refl
  where
    go : (b : Bool) → open_of u x ≡ b → P (ended_of u x)
    go true e = rw (e, ended_of) closed
    go false e = rw (e, ended_of) (other e)

-- `end-all u` keeps a sound model sound.
pub end_all-sound : (m : Model) (u : ℕ) → Sound m → Sound (end_all m u).after
unfolding end_all all_ended dynamic_broken
end_all-sound m u s =
    kept Sound _ m _ _ refl s
    (λ c. sessions_changed m s (λ k. ended_of u (m.sessions k))
    (λ k. ended-all (SessionShape m k) u (m.sessions k) (session-none m k) (λ e. s.shape.sessions k))
    (λ k r. ended-all (λ x. has x.active r ≡ true → has (authorised m x.owner) r ≡ true) u (m.sessions k) (λ e. clash (has 0 r) e (has-none r)) (λ e. s.rules.active k r))
    (λ k. ended-all (λ x. breaks_some m.dsd (counted_of m x) ≡ false) u (m.sessions k) (closed-breaks-none m s.shape) (λ e. s.rules.dynamic k)))

-- after it the user has no open session
pub none_open : (m : Model) (u : ℕ) → has_open (all_ended m u) u ≡ false
unfolding has_open all_ended
none_open m u = some-none 64 (λ k. open_of u (ended_of u (m.sessions k))) (λ k l. ended-all (λ x. open_of u x ≡ false) u (m.sessions k) refl (λ e. e))

module _ (m : Model) (u : ℕ) (s : Sound m) where
  -- where the user has no open session, every open one has another owner
  other_owner : has_open m u ≡ false → (k : ℕ) → (m.sessions k).live ≡ true → (m.sessions k).owner ≡ u → ⊥
  unfolding has_open
  other_owner none k l = eqb-false (m.sessions k).owner u (and_no (m.sessions k).live (eqb (m.sessions k).owner u) (some-false 64 (λ j. open_of u (m.sessions j)) none k ((s.shape.sessions k).numbered l)) l)

  -- Without a user that has no open session, and without its assignments, a model keeps its shape,
  without_user_shape : has_open m u ≡ false → Shape (without_user m u)
  unfolding without_user
  without_user_shape none =
      record {
        users = put_all (λ k b. b ≡ true → k < 256) m.users u false (λ e. clash false e refl) (λ k d. x.users k);
        roles = x.roles;
        seniors = x.seniors;
        juniors = λ k. existing_in m m' (λ r e. e) (x.juniors k);
        assignees = put_all (λ k set. (r : ℕ) → has set r ≡ true → put m.users u false k ≡ true) m.assigned u roles.none (λ r e. clash (has 0 r) e (has-none r)) (λ k d r e. put_other m.users u false k d ∙ x.assignees k r e);
        assigned = put_all (λ k set. Existing m' set) m.assigned u roles.none (existing-none m') (λ k d. existing_in m m' (λ r e. e) (x.assigned k));
        permissions = x.permissions;
        holders = λ p. existing_in m m' (λ r e. e) (x.holders p);
        ssd = λ n. set_in m m' (λ r e. e) (x.ssd n);
        dsd = λ n. set_in m m' (λ r e. e) (x.dsd n);
        sessions = λ k. left k (x.sessions k);
      }
    where
      m' : Model
      m' = without_user m u

      x : Shape m
      x = s.shape

      left : (k : ℕ) → SessionShape m k (m.sessions k) → SessionShape m' k (m.sessions k)
      left k y = record { closed = y.closed; numbered = y.numbered; owned = λ l. put_other m.users u false (m.sessions k).owner (other_owner none k l) ∙ y.owned l; active = existing_in m m' (λ r h. h) y.active }

  -- what is kept of its assignments is less by what the user had,
  without_user_counted : u < 256 → Counted (without_user m u)
  unfolding without_user assignments grants lines_standing
  without_user_counted l = record { assigned = omega (arith, s.counted.assigned, one-emptied 256 m.assigned u l); granted = s.counted.granted; lined = s.counted.lined }

  -- and it stays sound.
  without_user_sound : u < 256 → has_open m u ≡ false → Sound (without_user m u)
  unfolding without_user
  without_user_sound l none =
      fewer_sound m s (without_user m u) (without_user_shape none) (without_user_counted l)
      (λ a j e. e)
      (put_all (λ k set. (r : ℕ) → has set r ≡ true → has (m.assigned k) r ≡ true) m.assigned u roles.none (λ r e. clash (has 0 r) e (has-none r)) (λ k d r e. e))
      (λ p r e. e)
      (λ k r e. e)
      (λ k r h. still k r h (m.sessions k).live refl)
    where
      still : (k r : ℕ) → has (m.sessions k).active r ≡ true → (b : Bool) → (m.sessions k).live ≡ b → has (reach m.juniors (put m.assigned u roles.none (m.sessions k).owner)) r ≡ true
      still k r h true e = rw (put_other m.assigned u roles.none (m.sessions k).owner (other_owner none k e)) (s.rules.active k r h)
      still k r h false e = clash (has (m.sessions k).active r) h (closed_idle m s.shape k e r)

-- `nouser u` keeps a sound model sound.
pub nouser-sound : (m : Model) (u : ℕ) → Sound m → Sound (nouser m u).after
unfolding nouser
nouser-sound m u s = kept Sound _ m _ _ refl s (λ c. without_user_sound m u s (leb-false 256 u c.0) c.1.1.0)
