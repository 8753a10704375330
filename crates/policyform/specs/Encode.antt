-- The policy file of a model. "Sixteen-bit numbers, low byte first. Eight sections in this order, each after its count: users; roles; lines
-- (senior, junior); assignments (user, role); grants (role, operation, object); SSD sets (name, cardinality, member count, members); DSD sets
-- alike; sessions (number, owner, active count, roles). Each section and inner list is strictly ascending": an entry of two or three numbers
-- is numbered so that the order of the numbers is that of its leading numbers, and `members` lists what passes a test in that order.
-- Assumes nothing.
use Rattle.std.specs.Prelude.{Bool, List, ◌++◌, ℕ, ◌/◌, ◌%◌}
use Rattle.roleset.specs.Bounded.{members}
use Rattle.roleset.specs.Roles.{has}
use Rattle.model.specs.Model.{Model, RoleSet, Session}
use Rattle.text.specs.Bytes.{two, section}

-- the roles of a set, after their count
abbrev pub role_list : ℕ → List ℕ
role_list set = section two (members 64 (has set))

-- the line (s, j) and the assignment (s, j) are number 64 * s + j
abbrev pub pair_entry : ℕ → List ℕ
pair_entry k = two (k / 64) ++ two (k % 64)

abbrev pub pair_in : (ℕ → ℕ) → ℕ → Bool
pair_in table k = has (table (k / 64)) (k % 64)

-- the grant of the permission p to the role r is number 4096 * r + p; the permission is operation * 256 + object
abbrev pub grant_entry : ℕ → List ℕ
grant_entry k = two (k / 4096) ++ (two (k % 4096 / 256) ++ two (k % 256))

abbrev pub grant_in : (ℕ → ℕ) → ℕ → Bool
grant_in holders k = has (holders (k % 4096)) (k / 4096)

-- a set by its name; a session by its number
abbrev pub set_entry : (ℕ → RoleSet) → ℕ → List ℕ
set_entry sets n = two n ++ (two (sets n).card ++ role_list (sets n).roles)

abbrev pub session_entry : (ℕ → Session) → ℕ → List ℕ
session_entry sessions s = two s ++ (two (sessions s).owner ++ role_list (sessions s).active)

-- the eight sections
abbrev pub users_part : (ℕ → Bool) → List ℕ
users_part users = section two (members 256 users)

abbrev pub lines_part : (ℕ → ℕ) → List ℕ
lines_part juniors = section pair_entry (members 4096 (pair_in juniors))

abbrev pub assigned_part : (ℕ → ℕ) → List ℕ
assigned_part assigned = section pair_entry (members 16384 (pair_in assigned))

abbrev pub grants_part : (ℕ → ℕ) → List ℕ
grants_part holders = section grant_entry (members 262144 (grant_in holders))

abbrev pub sets_part : (ℕ → RoleSet) → List ℕ
sets_part sets = section (set_entry sets) (members 16 (λ n. (sets n).there))

abbrev pub sessions_part : (ℕ → Session) → List ℕ
sessions_part sessions = section (session_entry sessions) (members 64 (λ s. (sessions s).live))

unfoldable pub encode : Model → List ℕ
encode m =
    users_part m.users
    ++ (role_list m.roles
    ++ (lines_part m.juniors
    ++ (assigned_part m.assigned
    ++ (grants_part m.holders
    ++ (sets_part m.ssd
    ++ (sets_part m.dsd
    ++ sessions_part m.sessions))))))
