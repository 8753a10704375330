-- Refusals 1 and 2: "a number is beyond its range" and "a named user, role, session or set does not exist". Assumes nothing.
use Rattle.std.specs.Prelude.{Bool, not, ◌||◌, ℕ, leb}
use Rattle.roleset.specs.Roles.{has}
use Rattle.numbers.specs.Ranges.{users, roles, sessions, sets, operations, objects}
use Rattle.model.specs.Model.{Model}

-- beyond its range
abbrev pub user_beyond : ℕ → Bool
user_beyond u = leb users u

abbrev pub role_beyond : ℕ → Bool
role_beyond r = leb roles r

abbrev pub session_beyond : ℕ → Bool
session_beyond s = leb sessions s

abbrev pub set_beyond : ℕ → Bool
set_beyond n = leb sets n

abbrev pub permission_beyond : ℕ → ℕ → Bool
permission_beyond op obj = leb operations op || leb objects obj

-- does not exist
abbrev pub user_missing : Model → ℕ → Bool
user_missing m u = not (m.users u)

abbrev pub role_missing : Model → ℕ → Bool
role_missing m r = not (has m.roles r)

abbrev pub session_missing : Model → ℕ → Bool
session_missing m s = not (m.sessions s).live
