-- What holds of the things named in one model and is carried over to another, where roles and users still exist; and the parts of a sound
-- model that the laws of single commands ask for. Assumes nothing.
use mathlib.Core.Bool.{Bool, true, false}
use mathlib.Core.Logic.{◌⊎◌, inl, inr}
use mathlib.Core.Path.{◌≡◌, refl, ap, ◌∙◌}
use Prim.Native.Nat.{ℕ, ◌≤◌, ◌<◌}
use native.Mathlib.Omega.{arith}
use Rattle.roleset.specs.Roles.{has, with, without}
use Rattle.roleset.proofs.BoundedLaws.{clash, never}
use Rattle.roleset.proofs.Laws.{has-none, member-small, with-small, without-small}
use Rattle.hierarchy.specs.Lines.{line, Inherits, Small, AtOrAbove}
use Rattle.hierarchy.specs.Lines.Inherits.{one, more}
use Rattle.hierarchy.specs.Walks.{reach}
use Rattle.hierarchy.proofs.WalkLaws.{reach_sound, reach_small}
use Rattle.model.specs.Model.{Model, RoleSet, Session, absent_set, closed_session, put}
use Rattle.model.specs.Words.{reached}
use Rattle.model.specs.Sound.{Existing, SetShape, SessionShape, Shape}
use Rattle.sound.proofs.Put.{put_all}
use Rattle.sound.proofs.Members.{with-old, with-member, without-member}

-- ---- sets of existing roles

-- No role is a set of existing roles.
pub existing-none : (m : Model) → Existing m 0
existing-none m = record { small = omega arith; exist = λ r e. clash (has 0 r) e (has-none r) }

-- An existing role may be added to one,
pub existing-with : (m : Model) (set r : ℕ) → Existing m set → has m.roles r ≡ true → Existing m (with set r)
existing-with m set r x h = record { small = with-small set r; exist = λ k e. go k (with-member set r k e).1 }
  where
    go : (k : ℕ) → (has set k ≡ true) ⊎ (k ≡ r) → has m.roles k ≡ true
    go k (inl p) = x.exist k p
    go k (inr p) = rw p h

-- and any may be taken away.
pub existing-without : (m : Model) (set r : ℕ) → Existing m set → Existing m (without set r)
existing-without m set r x = record { small = without-small set r; exist = λ k e. x.exist k (without-member set r k e).1 }

-- A set that is not there has its shape,
pub set-none : (m : Model) (n : ℕ) → SetShape m n absent_set
set-none m n = record { absent = λ e. refl; named = λ e. clash false e refl; at_least = λ e. clash false e refl; at_most = λ e. clash false e refl; members = existing-none m }

-- and so has a session that is not live.
pub session-none : (m : Model) (k : ℕ) → SessionShape m k closed_session
session-none m k = record { closed = λ e. refl; numbered = λ e. clash false e refl; owned = λ e. clash false e refl; active = existing-none m }

-- A set with a member is there.
pub member-there : (m : Model) (n : ℕ) (set : RoleSet) (r : ℕ) → SetShape m n set → has set.roles r ≡ true → set.there ≡ true
member-there m n set r x h = go set.there refl
  where
    go : (b : Bool) → set.there ≡ b → set.there ≡ true
    go true e = e
    go false e = clash (has set.roles r) h (ap (λ (y : RoleSet). has y.roles r) (x.absent e) ∙ has-none r)

-- ---- the same of another model

module _ (m m' : Model) (roles : (r : ℕ) → has m.roles r ≡ true → has m'.roles r ≡ true) where
  -- A set of existing roles is one where these roles still exist,
  pub existing_in : {set : ℕ} → Existing m set → Existing m' set
  existing_in x = record { small = x.small; exist = λ r e. roles r (x.exist r e) }

  -- a separation set keeps its shape,
  pub set_in : {n : ℕ} {set : RoleSet} → SetShape m n set → SetShape m' n set
  set_in x = record { absent = x.absent; named = x.named; at_least = x.at_least; at_most = x.at_most; members = existing_in x.members }

  -- and so does a session where users still exist.
  pub session_in : ((u : ℕ) → m.users u ≡ true → m'.users u ≡ true) → {k : ℕ} {session : Session} → SessionShape m k session → SessionShape m' k session
  session_in users {session = session} x = record { closed = x.closed; numbered = x.numbered; owned = λ e. users session.owner (x.owned e); active = existing_in x.active }

-- What a role is or inherits exists, where the role and every junior of a line do.
pub below-exists : (lines : ℕ → ℕ) (roles : ℕ) → ((a b : ℕ) → line lines a b ≡ true → has roles b ≡ true) → {a b : ℕ} → AtOrAbove lines a b → has roles a ≡ true → has roles b ≡ true
below-exists lines roles juniors (inl e) h = rw e at h
below-exists lines roles juniors (inr p) h = inherited p
  where
    inherited : {a b : ℕ} → Inherits lines a b → has roles b ≡ true
    inherited {a} {b} (one l) = juniors a b l
    inherited (more l q) = inherited q

-- ---- what a sound model gives

module _ (m : Model) (x : Shape m) where
  -- A role that exists is 0 to 63.
  pub role_small : (r : ℕ) → has m.roles r ≡ true → r < 64
  role_small r e = member-small m.roles r x.roles e

  -- Every line joins two roles 0 to 63.
  pub lines_small : Small m.juniors
  lines_small = record { within = λ s j e. (role_small s (x.seniors s j e), role_small j ((x.juniors s).exist j e)) }

  -- The roles reached from existing roles exist.
  pub reached_exist : (from : ℕ) → Existing m from → Existing m (reached m from)
  reached_exist from e =
      record {
        small = reach_small m.juniors from;
        exist = λ r h. let u = reach_sound m.juniors from r h in below-exists m.juniors m.roles (λ a b. (x.juniors a).exist b) u.down (e.exist u.role u.member);
      }

  -- A user that does not exist is assigned to no role,
  pub nobody_assigned : (u : ℕ) → m.users u ≡ false → (r : ℕ) → has (m.assigned u) r ≡ false
  nobody_assigned u e r = never (has (m.assigned u) r) (λ h. clash (m.users u) (x.assignees u r h) e)

  -- and a number of 256 or more is no user's.
  pub no_user_beyond : (u : ℕ) → 256 ≤ u → m.users u ≡ false
  no_user_beyond u l = never (m.users u) (λ e. let h = x.users u e in let z : ⊥ = omega arith in z)

  -- A session number of 64 or more has no active roles.
  pub no_session_beyond : (s : ℕ) → 64 ≤ s → m.sessions s ≡ closed_session
  no_session_beyond s l = (x.sessions s).closed (never (m.sessions s).live (λ e. let h = (x.sessions s).numbered e in let z : ⊥ = omega arith in z))

  -- A session that is not live has none either.
  pub closed_idle : (s : ℕ) → (m.sessions s).live ≡ false → (r : ℕ) → has (m.sessions s).active r ≡ false
  closed_idle s e r = ap (λ (y : Session). has y.active r) ((x.sessions s).closed e) ∙ has-none r

-- From no role none is reached.
pub nothing-reached : (lines : ℕ → ℕ) (from : ℕ) → ((r : ℕ) → has from r ≡ false) → (r : ℕ) → has (reach lines from) r ≡ false
nothing-reached lines from h r = never (has (reach lines from) r) (λ e. let u = reach_sound lines from r e in clash (has from u.role) u.member (h u.role))

-- ---- a table of sets of existing roles, with a role more at one place

module _ (m : Model) (table : ℕ → ℕ) (i r : ℕ) (existing : (k : ℕ) → Existing m (table k)) where
  -- The sets are sets of existing roles if the role exists,
  pub existing_at : has m.roles r ≡ true → (k : ℕ) → Existing m (put table i (with (table i) r) k)
  existing_at h = put_all (λ k set. Existing m set) table i (with (table i) r) (existing-with m (table i) r (existing i) h) (λ k d. existing k)

  -- nothing is lost,
  pub old_at : (k j : ℕ) → has (table k) j ≡ true → has (put table i (with (table i) r) k) j ≡ true
  old_at = put_all (λ k set. (j : ℕ) → has (table k) j ≡ true → has set j ≡ true) table i (with (table i) r) (λ j e. with-old (table i) r j (member-small (table i) j (existing i).small e) e) (λ k d j e. e)

  -- and the role at that place alone is new.
  pub new_at : (k j : ℕ) → has (put table i (with (table i) r) k) j ≡ true → (has (table k) j ≡ true) ⊎ ((k ≡ i) × (j ≡ r))
  new_at = put_all (λ k set. (j : ℕ) → has set j ≡ true → (has (table k) j ≡ true) ⊎ ((k ≡ i) × (j ≡ r))) table i (with (table i) r) (λ j e. go j (with-member (table i) r j e).1) (λ k d j e. inl e)
    where
      go : (j : ℕ) → (has (table i) j ≡ true) ⊎ (j ≡ r) → (has (table i) j ≡ true) ⊎ ((i ≡ i) × (j ≡ r))
      go j (inl p) = inl p
      go j (inr p) = inr (refl, p)
