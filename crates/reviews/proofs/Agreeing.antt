-- The questions agree with each other. Assumes nothing.
use mathlib.Core.Bool.{Bool, true, false, ◌&&◌}
use mathlib.Core.Logic.{inl, inr}
use mathlib.Core.Path.{◌≡◌, sym, ◌∙◌}
use Prim.Native.Nat.{ℕ, ◌≤◌, ◌<◌}
use native.Mathlib.Omega.{arith}
use native.Mathlib.Decide.{dec_lt}
use lib.Dec.{ltb}
use borrow.Author.Tests.{lt-ltb, le-ltb}
use Rattle.roleset.specs.Roles.{has, with, none, common, is_empty}
use Rattle.roleset.proofs.BoundedLaws.{never, and_left, and_right, yes-not}
use Rattle.roleset.proofs.Laws.{has-common, member-small, is_empty_false}
use Rattle.hierarchy.specs.Lines.{Small, AtOrAbove}
use Rattle.hierarchy.specs.Walks.{at_or_above}
use Rattle.hierarchy.proofs.InheritsLaws.{ends-small}
use Rattle.hierarchy.proofs.AboveLaws.{above_sound, reach_above}
use Rattle.model.specs.Model.{Model}
use Rattle.model.specs.Lists.{listed}
use Rattle.model.specs.Sound.{Sound, Shape}
use Rattle.model.specs.Words.{reached, authorised, effective, permission}
use Rattle.model.specs.Questions.{holds, authorised_by, auth_users, auth_roles, role_perms, user_perms, session_perms, role_ops, user_ops}
use Rattle.model.specs.commands.Sessions.{permitted}
use Rattle.reviews.proofs.Listed.{session-perms-listed, role-perms-listed, user-perms-listed, role-ops-listed, user-ops-listed, auth-users-listed, auth-roles-listed}

-- what is below the bound is listed exactly if it passes
within : (a : Bool) (k n : ℕ) → k < n → (ltb k n && a) ≡ a
within a k n h = rw (lt-ltb k n h)

-- `check` says yes exactly of the permissions that `session-perms` lists
pub check-session-perms : (m : Model) (s p : ℕ) → p < 4096 → permitted m s p ≡ listed (session_perms m s) p
unfolding permitted
check-session-perms m s p h = sym (session-perms-listed m s p ∙ within (holds m (effective m s) p) p 4096 h)

-- `role-ops` lists exactly the operations whose permissions on the object `role-perms` lists, and so for a user
pub role-ops-perms : (m : Model) (r op obj : ℕ) → op < 16 → obj < 256 → listed (role_ops m r obj) op ≡ listed (role_perms m r) (permission op obj)
role-ops-perms m r op obj h l =
    role-ops-listed m r obj op
    ∙ within (holds m (reached m (with none r)) (permission op obj)) op 16 h
    ∙ sym (role-perms-listed m r (permission op obj) ∙ within (holds m (reached m (with none r)) (permission op obj)) (permission op obj) 4096 (omega arith))

pub user-ops-perms : (m : Model) (u op obj : ℕ) → op < 16 → obj < 256 → listed (user_ops m u obj) op ≡ listed (user_perms m u) (permission op obj)
user-ops-perms m u op obj h l =
    user-ops-listed m u obj op
    ∙ within (holds m (authorised m u) (permission op obj)) op 16 h
    ∙ sym (user-perms-listed m u (permission op obj) ∙ within (holds m (authorised m u) (permission op obj)) (permission op obj) 4096 (omega arith))

-- every line joins roles 0 to 63
lines-small : (m : Model) → Shape m → Small m.juniors
lines-small m shape = record { within = λ s j h. (member-small m.roles s shape.roles (shape.seniors s j h), member-small (m.juniors s) j (shape.juniors s).small h) }

module _ (m : Model) (sound : Sound m) where
  -- no user but 0 to 255 is authorised for anything
  beyond_users : (r u : ℕ) → 256 ≤ u → authorised_by m r u ≡ false
  beyond_users r u h = never (authorised_by m r u) (λ e. out (is_empty_false (common (m.assigned u) above) (yes-not (is_empty (common (m.assigned u) above)) e)))
    where
      above : ℕ
      above = at_or_above m.juniors r

      out : (k : ℕ) × (k < 64) × (has (common (m.assigned u) above) k ≡ true) → ⊥
      out (k, l, e) =
          let p = and_left (has (m.assigned u) k) (has above k) (sym (has-common (m.assigned u) above k l) ∙ e) in
          let q : u < 256 = sound.shape.users u (sound.shape.assignees u k p) in
          omega arith

  -- nor is anybody for a role but 0 to 63
  beyond_roles : (r u : ℕ) → 64 ≤ r → authorised_by m r u ≡ false
  unfolding at_or_above
  beyond_roles r u h = never (authorised_by m r u) (λ e. out (is_empty_false (common (m.assigned u) above) (yes-not (is_empty (common (m.assigned u) above)) e)))
    where
      above : ℕ
      above = at_or_above m.juniors r

      small : Small m.juniors
      small = lines-small m sound.shape

      none_above : (k : ℕ) → k < 64 → AtOrAbove m.juniors k r → ⊥
      none_above k l (inl e) = omega arith
      none_above k l (inr i) = let p : r < 64 = (ends-small small i).1 in omega arith

      out : (k : ℕ) × (k < 64) × (has (common (m.assigned u) above) k ≡ true) → ⊥
      out (k, l, e) = none_above k l (above_sound m.juniors small r k (and_right (has (m.assigned u) k) (has above k) (sym (has-common (m.assigned u) above k l) ∙ e)))

  -- `auth-users` lists a user for a role exactly if `auth-roles` lists the role for the user
  pub auth_agree : (u r : ℕ) → listed (auth_users m r) u ≡ listed (auth_roles m u) r
  auth_agree u r = go (dec_lt u 256) (dec_lt r 64)
    where
      small : Small m.juniors
      small = lines-small m sound.shape

      -- one walk down and one walk up tell the same
      same : r < 64 → has (authorised m u) r ≡ authorised_by m r u
      same l = reach_above m.juniors small (m.assigned u) r l

      right : r < 64 → listed (auth_roles m u) r ≡ authorised_by m r u
      right l = auth-roles-listed m u r ∙ within (has (authorised m u) r) r 64 l ∙ same l

      go : Dec (u < 256) → Dec (r < 64) → listed (auth_users m r) u ≡ listed (auth_roles m u) r
      go (yes p) (yes l) = auth-users-listed m r u ∙ within (authorised_by m r u) u 256 p ∙ sym (right l)
      go (no p) (yes l) = auth-users-listed m r u ∙ rw (le-ltb u 256 (omega arith)) (sym (right l ∙ beyond_users r u (omega arith)))
      go (yes p) (no l) = auth-users-listed m r u ∙ within (authorised_by m r u) u 256 p ∙ beyond_roles r u (omega arith) ∙ sym (auth-roles-listed m u r ∙ rw (le-ltb r 64 (omega arith)))
      go (no p) (no l) = auth-users-listed m r u ∙ rw (le-ltb u 256 (omega arith)) (sym (auth-roles-listed m u r ∙ rw (le-ltb r 64 (omega arith))))
