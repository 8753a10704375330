-- `user`, `role`, `norole`; `end-all` and `nouser` as request 4 has them. Assumes nothing.
use Rattle.std.specs.Prelude.{Bool, true, false, ◌&&◌, ◌||◌, [], ◌∷◌, ℕ, ◌+◌, ◌-◌, eqb}
use Rattle.roleset.specs.Bounded.{some, tally}
use Rattle.roleset.specs.Roles.{has, with, without, none, count}
use Rattle.model.specs.Model.{Model, RoleSet, Session, put, with_users, with_roles, with_assignments, with_sessions}
use Rattle.model.specs.Model as model
use Rattle.model.specs.Sheet.{Told, ◌when◌, settle}
use Rattle.model.specs.Words.{shed}
use Rattle.model.specs.commands.Naming.{user_beyond, role_beyond, user_missing, role_missing}

-- "`user u`, `role r` add; 1, 4."
unfoldable pub user : Model → ℕ → Told
user m u = settle (1 when user_beyond u ∷ 4 when m.users u ∷ []) m [] (with_users m (put m.users u true))

unfoldable pub role : Model → ℕ → Told
role m r = settle (1 when role_beyond r ∷ 4 when has m.roles r ∷ []) m [] (with_roles m (with m.roles r))

-- the session is open, and the user's. (The owner of a closed one is 0, so the owner alone does not tell.)
abbrev pub open_of : ℕ → Session → Bool
open_of u s = s.live && eqb s.owner u

-- the session of the user u ends; another's stays
unfoldable pub ended_of : ℕ → Session → Session
ended_of u s = elim (open_of u s) [ true ↦ model.closed_session | false ↦ s ]

unfoldable pub all_ended : Model → ℕ → Model
all_ended m u = with_sessions m (λ k. ended_of u (m.sessions k))

-- "a new `end-all u` ends the user's sessions .. `end-all` with no session open is done and changes nothing .. `end-all` answers 1 or 2."
unfoldable pub end_all : Model → ℕ → Told
end_all m u = settle (1 when user_beyond u ∷ 2 when user_missing m u ∷ []) m [] (all_ended m u)

-- "the user has open sessions"
unfoldable pub has_open : Model → ℕ → Bool
has_open m u = some 64 (λ k. open_of u (m.sessions k))

-- the user and its assignments are gone; no session is touched
unfoldable pub without_user : Model → ℕ → Model
without_user m u = with_users (with_assignments m (put m.assigned u none) (m.assignment_count - count (m.assigned u))) (put m.users u false)

-- "`nouser` works only when none is open": 1, 2, and "16, the user has open sessions, last in the order for `nouser`"
unfoldable pub nouser : Model → ℕ → Told
nouser m u = settle (1 when user_beyond u ∷ 2 when user_missing m u ∷ 16 when has_open m u ∷ []) m [] (without_user m u)

-- "the role to be deleted stands in an SSD or DSD set"
unfoldable pub in_set : (ℕ → RoleSet) → ℕ → Bool
in_set sets r = some 16 (λ n. has (sets n).roles r)

-- how many of the first n sets of a table have the role
abbrev pub holding : ℕ → (ℕ → ℕ) → ℕ → ℕ
holding n table r = tally n (λ k. has (table k) r)

-- how many lines go with the role: those to it from above, and then those from it
abbrev pub lines_with : Model → ℕ → ℕ
lines_with m r = holding 64 m.juniors r + count (without (m.juniors r) r)

-- the role's "assignments, grants and direct lines at either end" are gone, and the role itself
unfoldable pub without_role : Model → ℕ → Model
without_role m r = record { users = m.users; roles = without m.roles r; juniors = put (λ s. without (m.juniors s) r) r none; assigned = λ u. without (m.assigned u) r; holders = λ p. without (m.holders p) r; ssd = m.ssd; dsd = m.dsd; sessions = m.sessions; assignment_count = m.assignment_count - holding 256 m.assigned r; grant_count = m.grant_count - holding 4096 m.holders r; line_count = m.line_count - lines_with m r }

-- "`norole r`: removes its assignments, grants and direct lines at either end, then sheds; 1, 2, 8. Roles above and below it are not joined up."
unfoldable pub norole : Model → ℕ → Told
norole m r = settle (1 when role_beyond r ∷ 2 when role_missing m r ∷ 8 when (in_set m.ssd r || in_set m.dsd r) ∷ []) m [] (shed (without_role m r))
