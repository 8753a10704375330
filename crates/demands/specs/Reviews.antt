-- Demand 2, of questions: who stands in each list, and when each question is refused, in the paper's words. Nothing here is computed by a walk or a
-- search: a list is known by who stands in it, with the words `Authorised`, `Effective`, inherits, assigned and holds, and ranges are literal numbers.
-- Assumes nothing.
use Rattle.std.specs.Prelude.{Bool, true, false, not, ◌||◌, ◌↔◌, ◌≡◌, ℕ, ◌+◌, ◌*◌, ltb, length}
use mathlib.Core.List.{List, [], ◌∷◌, Memᴰ}
use Rattle.roleset.specs.Roles.{has}
use Rattle.hierarchy.specs.Lines.{AtOrAbove}
use Rattle.model.specs.Model.{Model}
use Rattle.model.specs.Questions.{ask}
use Rattle.model.specs.Sheet.{◌when◌, Told}
use Rattle.model.specs.declared.Kind.TheVariants.{Static, Dynamic}
use Rattle.model.specs.declared.Question.{Question}
use Rattle.model.specs.declared.Question.TheVariants.{Check, AssignedUsers, AssignedRoles, AuthUsers, AuthRoles, RolePerms, UserPerms, SessionRoles, SessionPerms, RoleOps, UserOps, Sets, SetRoles, SetCount}
use Rattle.demands.specs.Authorised.{Authorised, Effective}
use Rattle.demands.specs.Demand2.{Exactly, Checked, ◌beyond◌}
use Rattle.demands.specs.Many.{Ascending}
use Rattle.demands.specs.Reachable.{Reachable}

-- ---- a list

-- What is told of a review on the policy m, with room for so many results: exactly the list of all numbers for which `among` holds. "Refusals: 1, 2,
-- .. 15": it is refused with 1 where `outside` holds, with 2 where `missing` holds, and with 15 where the room is less than the length of the whole
-- list. Otherwise its results are the whole list. It changes nothing either way.
pub record Listing (m : Model) (room : ℕ) (outside missing : Bool) (among : ℕ → Type 0) (told : Told) : Type 0 where
  -- "Reviews give ascending lists with no repeats": there is one whole list, and each of its numbers is less than the next
  pub whole : List ℕ
  pub ascending : Ascending whole
  -- a number stands in it exactly when it is one of those asked for
  pub members : (k : ℕ) → Memᴰ k whole ↔ among k
  -- and this list, or the first refusal that applies, is all that is told
  pub tells : Exactly m (1 when outside ∷ 2 when missing ∷ 15 when ltb room (length whole) ∷ []) whole m told

-- Some role for which `of` holds was granted the permission p: "an operation on an object, written as operation * 256 + object".
pub record HeldBy (m : Model) (of : ℕ → Type 0) (p : ℕ) : Type 0 where
  pub role : ℕ
  pub chosen : of role
  pub holds : has (m.holders p) role ≡ true

-- ---- every question

-- What the question tells, asked on the policy m with room for so many results. Each line has four parts: when a number of the question is beyond its
-- range ("Users are 0 to 255, roles 0 to 63, sessions 0 to 63, SSD sets 0 to 15, DSD sets 0 to 15 .. objects 0 to 255"), when what it names does not
-- exist, who stands in the list, and what is told.
abbrev pub Answered : Model → ℕ → Question → Told → Type 0
-- "`check s op obj`" gives no list: it is told as `Checked` in Demand2 says
Answered m room (Check s op obj) told = Checked m s.number op obj told
-- "`assigned-users r`": the users that are assigned to the role
Answered m room (AssignedUsers r) told = Listing m room (r.number beyond 63) (not (has m.roles r.number)) (λ u. has (m.assigned u) r.number ≡ true) told
-- "`assigned-roles u`": the roles to which the user is assigned
Answered m room (AssignedRoles u) told = Listing m room (u.number beyond 255) (not (m.users u.number)) (λ r. has (m.assigned u.number) r ≡ true) told
-- "`auth-users r`": the users that are authorised for the role
Answered m room (AuthUsers r) told = Listing m room (r.number beyond 63) (not (has m.roles r.number)) (λ u. Authorised m u r.number) told
-- "`auth-roles u`": the roles for which the user is authorised
Answered m room (AuthRoles u) told = Listing m room (u.number beyond 255) (not (m.users u.number)) (λ r. Authorised m u.number r) told
-- "`role-perms r` .. with inherited ones": the permissions that the role itself, or a role that it inherits, holds
Answered m room (RolePerms r) told = Listing m room (r.number beyond 63) (not (has m.roles r.number)) (λ p. HeldBy m (AtOrAbove m.juniors r.number) p) told
-- "`user-perms u` .. with inherited ones": the permissions that some role holds for which the user is authorised
Answered m room (UserPerms u) told = Listing m room (u.number beyond 255) (not (m.users u.number)) (λ p. HeldBy m (Authorised m u.number) p) told
-- "`session-roles s` (active ones)": the active roles of the session
Answered m room (SessionRoles s) told = Listing m room (s.number beyond 63) (not (m.sessions s.number).live) (λ r. has (m.sessions s.number).active r ≡ true) told
-- "`session-perms s` (of effective roles)": the permissions that some effective role of the session holds
Answered m room (SessionPerms s) told = Listing m room (s.number beyond 63) (not (m.sessions s.number).live) (λ p. HeldBy m (Effective m s.number) p) told
-- "`role-ops r obj`": the operations on the object that the role itself, or a role that it inherits, may do. "The schema of RoleOperationsOnObject in
-- document 000 tests the asked role alone; its text includes inherited roles, and the text decides."
Answered m room (RoleOps r obj) told = Listing m room (r.number beyond 63 || obj beyond 255) (not (has m.roles r.number)) (λ op. HeldBy m (AtOrAbove m.juniors r.number) (op * 256 + obj)) told
-- "`user-ops u obj`": the operations on the object that some role may do for which the user is authorised
Answered m room (UserOps u obj) told = Listing m room (u.number beyond 255 || obj beyond 255) (not (m.users u.number)) (λ op. HeldBy m (Authorised m u.number) (op * 256 + obj)) told
-- "`ssd-sets` .. and the same for `dsd`": the names of the sets that are there. It names nothing, so that it is refused with 15 alone
Answered m room (Sets Static) told = Listing m room false false (λ name. (m.ssd name).there ≡ true) told
Answered m room (Sets Dynamic) told = Listing m room false false (λ name. (m.dsd name).there ≡ true) told
-- "`ssd-roles name`": the roles of the set
Answered m room (SetRoles Static name) told = Listing m room (name.number beyond 15) (not (m.ssd name.number).there) (λ r. has (m.ssd name.number).roles r ≡ true) told
Answered m room (SetRoles Dynamic name) told = Listing m room (name.number beyond 15) (not (m.dsd name.number).there) (λ r. has (m.dsd name.number).roles r ≡ true) told
-- "`ssd-count name` (the cardinality)": this number alone
Answered m room (SetCount Static name) told = Listing m room (name.number beyond 15) (not (m.ssd name.number).there) (λ n. n ≡ (m.ssd name.number).card) told
Answered m room (SetCount Dynamic name) told = Listing m room (name.number beyond 15) (not (m.dsd name.number).there) (λ n. n ≡ (m.dsd name.number).card) told

-- Anything that answers questions obeys demand 2, if on every reachable policy and with any room each question tells exactly that.
abbrev pub Reviewing : (Model → ℕ → Question → Told) → Type 0
Reviewing reviewer = (m : Model) → Reachable m → (room : ℕ) (q : Question) → Answered m room q (reviewer m room q)

-- Every question is answered exactly as the paper says.
pub record QuestionsDemand : Type 0 where
  pub questions : Reviewing ask
