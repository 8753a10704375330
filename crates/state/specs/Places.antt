-- Where each part of a state stands: the one place in the definitions that says so. A part that comes later is appended, and moves no other; there
-- are no spare numbers. Assumes nothing.
--
--     from      numbers  what
--        0         4096  holders: for each permission, the roles that hold it
--     4096          256  assigned: for each user, the roles assigned to it
--     4352           64  juniors: for each role, the roles directly below it
--     4416      16 + 16  the static sets: one more than the cardinality (0: not there), and the roles
--     4448      16 + 16  the dynamic sets, alike
--     4480      64 + 64  the sessions: one more than the owner's number (0: closed), and the active roles
--     4608            4  users: a bit for each, 64 to a number
--     4612            1  roles: a bit for each
--     4613            3  how many assignments, grants and lines stand
use Rattle.std.specs.Prelude.{ℕ}
use Rattle.model.specs.declared.Kind.{Kind}
use Rattle.model.specs.declared.Kind.TheVariants.{Static, Dynamic}

abbrev pub holders_at : ℕ
holders_at = 0

abbrev pub assigned_at : ℕ
assigned_at = 4096

abbrev pub juniors_at : ℕ
juniors_at = 4352

abbrev pub ssd_cards_at : ℕ
ssd_cards_at = 4416

abbrev pub ssd_roles_at : ℕ
ssd_roles_at = 4432

abbrev pub dsd_cards_at : ℕ
dsd_cards_at = 4448

abbrev pub dsd_roles_at : ℕ
dsd_roles_at = 4464

-- where the sets of a kind stand
abbrev pub sets_at : Kind → ℕ
sets_at Static = ssd_cards_at
sets_at Dynamic = dsd_cards_at

abbrev pub owners_at : ℕ
owners_at = 4480

abbrev pub active_at : ℕ
active_at = 4544

abbrev pub users_at : ℕ
users_at = 4608

abbrev pub roles_at : ℕ
roles_at = 4612

abbrev pub assignment_count_at : ℕ
assignment_count_at = 4613

abbrev pub grant_count_at : ℕ
grant_count_at = 4614

abbrev pub line_count_at : ℕ
line_count_at = 4615

-- how many numbers a state has
abbrev pub places : ℕ
places = 4616
