-- The questions: who is in each list, and how each is refused. "Reviews give ascending lists with no repeats." Assumes nothing.
use Rattle.std.specs.Prelude.{Bool, false, not, ◌||◌, List, [], ◌∷◌, ℕ, ◌%◌, leb, ltb, length}
use Rattle.roleset.specs.Bounded.{members}
use Rattle.roleset.specs.Roles.{has, with, none, common, is_empty}
use Rattle.hierarchy.specs.Walks.{at_or_above}
use Rattle.numbers.specs.Ranges.{objects}
use Rattle.model.specs.Model.{Model}
use Rattle.model.specs.Sheet.{Told, ◌when◌, settle}
use Rattle.model.specs.Words.{reached, authorised, effective, permission}
use Rattle.model.specs.commands.Naming.{user_beyond, role_beyond, session_beyond, set_beyond, user_missing, role_missing, session_missing}
use Rattle.model.specs.commands.Sets.{sets_of, set_missing}
use Rattle.model.specs.commands.Sessions.{check}
use Rattle.model.specs.declared.Kind.{Kind}
use Rattle.model.specs.declared.Question.{Question}
use Rattle.model.specs.declared.Question.TheVariants.{Check, AssignedUsers, AssignedRoles, AuthUsers, AuthRoles, RolePerms, UserPerms, SessionRoles, SessionPerms, RoleOps, UserOps, Sets, SetRoles, SetCount}

-- ---- who is in each list

-- some role of the set holds the permission
abbrev pub holds : Model → ℕ → ℕ → Bool
holds m roles p = not (is_empty (common roles (m.holders p)))

-- the user is assigned to the role or to one that inherits it
abbrev pub authorised_by : Model → ℕ → ℕ → Bool
authorised_by m r u = not (is_empty (common (m.assigned u) (at_or_above m.juniors r)))

unfoldable pub assigned_users : Model → ℕ → List ℕ
assigned_users m r = members 256 (λ u. has (m.assigned u) r)

unfoldable pub assigned_roles : Model → ℕ → List ℕ
assigned_roles m u = members 64 (has (m.assigned u))

unfoldable pub auth_users : Model → ℕ → List ℕ
auth_users m r = members 256 (authorised_by m r)

unfoldable pub auth_roles : Model → ℕ → List ℕ
auth_roles m u = members 64 (has (authorised m u))

-- "`role-perms r`, `user-perms u` (both with inherited ones)"
unfoldable pub role_perms : Model → ℕ → List ℕ
role_perms m r = members 4096 (holds m (reached m (with none r)))

unfoldable pub user_perms : Model → ℕ → List ℕ
user_perms m u = members 4096 (holds m (authorised m u))

-- "`session-roles s` (active ones), `session-perms s` (of effective roles)"
unfoldable pub session_roles : Model → ℕ → List ℕ
session_roles m s = members 64 (has (m.sessions s).active)

unfoldable pub session_perms : Model → ℕ → List ℕ
session_perms m s = members 4096 (holds m (effective m s))

-- "The schema of RoleOperationsOnObject in document 000 tests the asked role alone; its text includes inherited roles, and the text decides."
unfoldable pub role_ops : Model → ℕ → ℕ → List ℕ
role_ops m r obj = members 16 (λ op. holds m (reached m (with none r)) (permission op obj))

unfoldable pub user_ops : Model → ℕ → ℕ → List ℕ
user_ops m u obj = members 16 (λ op. holds m (authorised m u) (permission op obj))

unfoldable pub set_names : Kind → Model → List ℕ
set_names kind m = members 16 (λ n. (sets_of kind m n).there)

unfoldable pub set_roles : Kind → Model → ℕ → List ℕ
set_roles kind m name = members 64 (has (sets_of kind m name).roles)

-- "`ssd-count name` (the cardinality)". Results are sixteen-bit numbers, and so is a cardinality of the engine's own, which is 64 at most: there this is
-- the cardinality itself (`set-count-cardinality` in reviews/proofs/Listed)
unfoldable pub set_count : Kind → Model → ℕ → List ℕ
set_count kind m name = ((sets_of kind m name).card % 65536) ∷ []

-- ---- each question, with its refusals: 1, 2, 15

-- A review: refused with 1 where a number is beyond its range, with 2 where what it names does not exist, with 15 where "the
-- lent output buffer is shorter than the whole result"; else it gives the list.
abbrev pub review : Model → ℕ → Bool → Bool → List ℕ → Told
review m room beyond missing list =
    settle (1 when beyond ∷ 2 when missing ∷ 15 when ltb room (length list) ∷ []) m list m

abbrev pub never : Bool
never = false

-- the question, asked with room for so many results
unfoldable pub ask : Model → ℕ → Question → Told
ask m room (Check s op obj) = check m s.number op obj
ask m room (AssignedUsers r) = review m room (role_beyond r.number) (role_missing m r.number) (assigned_users m r.number)
ask m room (AssignedRoles u) = review m room (user_beyond u.number) (user_missing m u.number) (assigned_roles m u.number)
ask m room (AuthUsers r) = review m room (role_beyond r.number) (role_missing m r.number) (auth_users m r.number)
ask m room (AuthRoles u) = review m room (user_beyond u.number) (user_missing m u.number) (auth_roles m u.number)
ask m room (RolePerms r) = review m room (role_beyond r.number) (role_missing m r.number) (role_perms m r.number)
ask m room (UserPerms u) = review m room (user_beyond u.number) (user_missing m u.number) (user_perms m u.number)
ask m room (SessionRoles s) = review m room (session_beyond s.number) (session_missing m s.number) (session_roles m s.number)
ask m room (SessionPerms s) = review m room (session_beyond s.number) (session_missing m s.number) (session_perms m s.number)
ask m room (RoleOps r obj) = review m room (role_beyond r.number || leb objects obj) (role_missing m r.number) (role_ops m r.number obj)
ask m room (UserOps u obj) = review m room (user_beyond u.number || leb objects obj) (user_missing m u.number) (user_ops m u.number obj)
ask m room (Sets kind) = review m room never never (set_names kind m)
ask m room (SetRoles kind name) = review m room (set_beyond name.number) (set_missing kind m name.number) (set_roles kind m name.number)
ask m room (SetCount kind name) = review m room (set_beyond name.number) (set_missing kind m name.number) (set_count kind m name.number)
