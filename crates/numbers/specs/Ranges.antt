-- How many of each thing there are, and how many of each may stand at once. A number is beyond its range when it is as large as the count, or larger.
-- Assumes nothing.
use Rattle.std.specs.Prelude.{Bool, ◌||◌, ℕ, leb}
use Rattle.numbers.specs.declared.User.{User}
use Rattle.numbers.specs.declared.Session.{Session}
use Rattle.numbers.specs.declared.Role.{Role}

-- "Users are 0 to 255"
abbrev pub users : ℕ
users = 256

-- "roles 0 to 63"
abbrev pub roles : ℕ
roles = 64

-- "sessions 0 to 63"
abbrev pub sessions : ℕ
sessions = 64

-- "SSD sets 0 to 15, DSD sets 0 to 15"
abbrev pub sets : ℕ
sets = 16

-- "Operations 0 to 15 .. always exist"
abbrev pub operations : ℕ
operations = 16

-- "objects 0 to 255 always exist"
abbrev pub objects : ℕ
objects = 256

-- "Permission: an operation on an object, written as operation * 256 + object, so 0 to 4,095."
abbrev pub permissions : ℕ
permissions = 4096

-- "At most 2,048 assignments .. stand at once."
abbrev pub most_assignments : ℕ
most_assignments = 2048

-- "At most .. 2,048 grants .. stand at once."
abbrev pub most_grants : ℕ
most_grants = 2048

-- "At most .. 512 direct lines .. stand at once." (The 64 open sessions are `sessions`.)
abbrev pub most_lines : ℕ
most_lines = 512

-- "a number is beyond its range", of the three that `activate u s r` and `drop u s r` name
abbrev pub activation_beyond : User → Session → Role → Bool
activation_beyond u s r = leb users u.number || (leb sessions s.number || leb roles r.number)
