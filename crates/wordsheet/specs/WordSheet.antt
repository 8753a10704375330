-- "Each is given as its word in a script": every word of a script in lines of text, each beside what it prints. The numbers are so chosen that the
-- table is false of an engine in which two words have exchanged their meanings, in which one is spelt otherwise or means what another does, or in
-- which a word takes its numbers in another order. Assumes nothing.
use Rattle.std.specs.Prelude.{List, [], ◌∷◌, ◌++◌}
use Rattle.transcripts.specs.Rows.{Row, ◌⇒◌, Prints}

-- `user`, `role`, `nouser`, `norole`, `assign`, `deassign`, `inherit`, `disinherit`; `assigned-users`, `assigned-roles`, `auth-users`, `auth-roles`
abbrev pub people : List Row
people =
    "user 3" ⇒ "0" ∷
    "user 5" ⇒ "0" ∷
    "role 1" ⇒ "0" ∷
    "role 2" ⇒ "0" ∷
    "role 4" ⇒ "0" ∷
    "role 6" ⇒ "0" ∷
    -- 2 and 4 stand over 1
    "inherit 2 1" ⇒ "0" ∷
    "inherit 4 1" ⇒ "0" ∷
    "assign 3 2" ⇒ "0" ∷
    "assign 5 4" ⇒ "0" ∷
    "assign 5 6" ⇒ "0" ∷
    -- user 5 is assigned to role 4, and nobody to role 1
    "assigned-users 4" ⇒ "0 5" ∷
    "assigned-users 1" ⇒ "0" ∷
    -- both users are authorised for role 1
    "auth-users 1" ⇒ "0 3 5" ∷
    "assigned-roles 5" ⇒ "0 4 6" ∷
    "auth-roles 5" ⇒ "0 1 4 6" ∷
    -- without the line from 4 to 1 user 5 loses role 1
    "disinherit 4 1" ⇒ "0" ∷
    "auth-roles 5" ⇒ "0 4 6" ∷
    -- user 3 loses its role, and is a user still
    "deassign 3 2" ⇒ "0" ∷
    "assigned-roles 3" ⇒ "0" ∷
    -- role 6 goes, and user 5 keeps role 4
    "norole 6" ⇒ "0" ∷
    "assigned-roles 5" ⇒ "0 4" ∷
    -- user 5 goes
    "nouser 5" ⇒ "0" ∷
    "assigned-users 4" ⇒ "0" ∷
    "assigned-roles 5" ⇒ "2" ∷
    []

-- `session`, `activate`, `drop`, `end`, `end-all`; `session-roles`; and `nouser` with sessions open
abbrev pub sessions : List Row
sessions =
    "user 3" ⇒ "0" ∷
    "user 5" ⇒ "0" ∷
    "role 1" ⇒ "0" ∷
    "role 2" ⇒ "0" ∷
    "role 4" ⇒ "0" ∷
    "inherit 2 1" ⇒ "0" ∷
    "assign 5 2" ⇒ "0" ∷
    "assign 5 4" ⇒ "0" ∷
    -- user 3 opens session 0 with no role, user 5 opens session 1 with 1 and 4
    "session 3" ⇒ "0 0" ∷
    "session 5 1 4" ⇒ "0 1" ∷
    "session-roles 1" ⇒ "0 1 4" ∷
    -- user, session, role
    "activate 5 1 2" ⇒ "0" ∷
    "session-roles 1" ⇒ "0 1 2 4" ∷
    "drop 5 1 4" ⇒ "0" ∷
    "session-roles 1" ⇒ "0 1 2" ∷
    -- session 1 ends; its user stays, and so does session 0
    "end 5 1" ⇒ "0" ∷
    "assigned-roles 5" ⇒ "0 2 4" ∷
    "session-roles 1" ⇒ "2" ∷
    "session-roles 0" ⇒ "0" ∷
    -- user 5 opens a session, which gets the free number 1, and user 3 a second one
    "session 5 4" ⇒ "0 1" ∷
    "session 3" ⇒ "0 2" ∷
    -- a user with open sessions is not deleted
    "nouser 3" ⇒ "16" ∷
    "session-roles 2" ⇒ "0" ∷
    -- all sessions of user 3 end, and no other; the user stays
    "end-all 3" ⇒ "0" ∷
    "session-roles 0" ⇒ "2" ∷
    "session-roles 2" ⇒ "2" ∷
    "session-roles 1" ⇒ "0 4" ∷
    "assigned-roles 3" ⇒ "0" ∷
    -- with none open that is done too
    "end-all 3" ⇒ "0" ∷
    -- and then the user goes
    "nouser 3" ⇒ "0" ∷
    "end-all 3" ⇒ "2" ∷
    "session-roles 1" ⇒ "0 4" ∷
    -- a user whose sessions end keeps its roles
    "end-all 5" ⇒ "0" ∷
    "session-roles 1" ⇒ "2" ∷
    "assigned-roles 5" ⇒ "0 2 4" ∷
    []

-- `grant`; `role-ops`, `user-ops`, `check`
abbrev pub granting : List Row
granting =
    "user 255" ⇒ "0" ∷
    "role 1" ⇒ "0" ∷
    "role 63" ⇒ "0" ∷
    "role 4" ⇒ "0" ∷
    "inherit 63 1" ⇒ "0" ∷
    "assign 255 63" ⇒ "0" ∷
    "assign 255 4" ⇒ "0" ∷
    -- session 0 has role 63 active, and so role 1 in effect
    "session 255 63" ⇒ "0 0" ∷
    -- operation, object, role
    "grant 7 30 1" ⇒ "0" ∷
    "grant 15 255 63" ⇒ "0" ∷
    "grant 9 30 4" ⇒ "0" ∷
    -- role 63 has operation 7 from role 1, which it inherits
    "role-ops 63 30" ⇒ "0 7" ∷
    -- and user 255 is assigned to role 4 besides
    "user-ops 255 30" ⇒ "0 7 9" ∷
    -- "1 for yes or 0 for no", and how many roles were looked at: role 1 holds operation 7; 63 holds 15 on 255, after 1; neither holds 9
    "check 0 7 30" ⇒ "0 1 1" ∷
    "check 0 15 255" ⇒ "0 1 2" ∷
    "check 0 9 30" ⇒ "0 0 2" ∷
    []

-- `role-perms`, `user-perms`, `session-perms`, after those lines: "operation * 256 + object", and 7 * 256 + 30 is 1822
abbrev pub permissions : List Row
permissions =
    "role-perms 63" ⇒ "0 1822 4095" ∷
    "user-perms 255" ⇒ "0 1822 2334 4095" ∷
    "session-perms 0" ⇒ "0 1822 4095" ∷
    []

-- `revoke`, after those; and a role that was deleted and is there again holds nothing
abbrev pub revoking : List Row
revoking =
    "revoke 7 30 1" ⇒ "0" ∷
    "check 0 7 30" ⇒ "0 0 2" ∷
    "norole 4" ⇒ "0" ∷
    "role 4" ⇒ "0" ∷
    "role-ops 4 30" ⇒ "0" ∷
    []

-- the five `ssd` and the five `dsd` commands, and the three questions for each kind
abbrev pub sets : List Row
sets =
    "user 3" ⇒ "0" ∷
    "role 1" ⇒ "0" ∷
    "role 2" ⇒ "0" ∷
    "role 4" ⇒ "0" ∷
    "role 5" ⇒ "0" ∷
    "role 6" ⇒ "0" ∷
    "assign 3 1" ⇒ "0" ∷
    "assign 3 6" ⇒ "0" ∷
    -- name, cardinality, roles: set 9 is static, set 5 dynamic
    "ssd 9 2 1 2 4" ⇒ "0" ∷
    "dsd 5 3 1 2 6" ⇒ "0" ∷
    "ssd-sets" ⇒ "0 9" ∷
    "dsd-sets" ⇒ "0 5" ∷
    "ssd-roles 9" ⇒ "0 1 2 4" ∷
    "dsd-roles 5" ⇒ "0 1 2 6" ∷
    "ssd-count 9" ⇒ "0 2" ∷
    "dsd-count 5" ⇒ "0 3" ∷
    -- another cardinality
    "ssd-card 9 3" ⇒ "0" ∷
    "ssd-count 9" ⇒ "0 3" ∷
    "dsd-card 5 2" ⇒ "0" ∷
    "dsd-count 5" ⇒ "0 2" ∷
    -- a role more, and one less
    "ssd-add 9 5" ⇒ "0" ∷
    "ssd-roles 9" ⇒ "0 1 2 4 5" ∷
    "dsd-add 5 4" ⇒ "0" ∷
    "dsd-roles 5" ⇒ "0 1 2 4 6" ∷
    "ssd-drop 9 4" ⇒ "0" ∷
    "ssd-roles 9" ⇒ "0 1 2 5" ∷
    "dsd-drop 5 2" ⇒ "0" ∷
    "dsd-roles 5" ⇒ "0 1 4 6" ∷
    -- user 3 is authorised for 1 and 6, and may not have both effective in one session
    "session 3 1 6" ⇒ "11" ∷
    -- set 5 is no static one, nor set 9 a dynamic one
    "nossd 5" ⇒ "2" ∷
    "nodsd 9" ⇒ "2" ∷
    "nossd 9" ⇒ "0" ∷
    "nodsd 5" ⇒ "0" ∷
    "ssd-sets" ⇒ "0" ∷
    "dsd-sets" ⇒ "0" ∷
    []

-- "a wrong number of numbers": each word with one too few
abbrev pub one_too_few : List Row
one_too_few =
    "user" ⇒ "14" ∷
    "role" ⇒ "14" ∷
    "nouser" ⇒ "14" ∷
    "norole" ⇒ "14" ∷
    "assign 1" ⇒ "14" ∷
    "deassign 1" ⇒ "14" ∷
    "grant 1 2" ⇒ "14" ∷
    "revoke 1 2" ⇒ "14" ∷
    "inherit 1" ⇒ "14" ∷
    "disinherit 1" ⇒ "14" ∷
    "session" ⇒ "14" ∷
    "activate 1 2" ⇒ "14" ∷
    "drop 1 2" ⇒ "14" ∷
    "end 1" ⇒ "14" ∷
    "ssd 1" ⇒ "14" ∷
    "nossd" ⇒ "14" ∷
    "ssd-add 1" ⇒ "14" ∷
    "ssd-drop 1" ⇒ "14" ∷
    "ssd-card 1" ⇒ "14" ∷
    "dsd 1" ⇒ "14" ∷
    "nodsd" ⇒ "14" ∷
    "dsd-add 1" ⇒ "14" ∷
    "dsd-drop 1" ⇒ "14" ∷
    "dsd-card 1" ⇒ "14" ∷
    "check 1 2" ⇒ "14" ∷
    "assigned-users" ⇒ "14" ∷
    "assigned-roles" ⇒ "14" ∷
    "auth-users" ⇒ "14" ∷
    "auth-roles" ⇒ "14" ∷
    "role-perms" ⇒ "14" ∷
    "user-perms" ⇒ "14" ∷
    "session-roles" ⇒ "14" ∷
    "session-perms" ⇒ "14" ∷
    "role-ops 1" ⇒ "14" ∷
    "user-ops 1" ⇒ "14" ∷
    "ssd-roles" ⇒ "14" ∷
    "ssd-count" ⇒ "14" ∷
    "dsd-roles" ⇒ "14" ∷
    "dsd-count" ⇒ "14" ∷
    "end-all" ⇒ "14" ∷
    []

-- and each with one too many, but for `session`, `ssd` and `dsd`, which a list follows
abbrev pub one_too_many : List Row
one_too_many =
    "user 1 2" ⇒ "14" ∷
    "role 1 2" ⇒ "14" ∷
    "nouser 1 2" ⇒ "14" ∷
    "norole 1 2" ⇒ "14" ∷
    "assign 1 2 3" ⇒ "14" ∷
    "deassign 1 2 3" ⇒ "14" ∷
    "grant 1 2 3 4" ⇒ "14" ∷
    "revoke 1 2 3 4" ⇒ "14" ∷
    "inherit 1 2 3" ⇒ "14" ∷
    "disinherit 1 2 3" ⇒ "14" ∷
    "activate 1 2 3 4" ⇒ "14" ∷
    "drop 1 2 3 4" ⇒ "14" ∷
    "end 1 2 3" ⇒ "14" ∷
    "nossd 1 2" ⇒ "14" ∷
    "ssd-add 1 2 3" ⇒ "14" ∷
    "ssd-drop 1 2 3" ⇒ "14" ∷
    "ssd-card 1 2 3" ⇒ "14" ∷
    "nodsd 1 2" ⇒ "14" ∷
    "dsd-add 1 2 3" ⇒ "14" ∷
    "dsd-drop 1 2 3" ⇒ "14" ∷
    "dsd-card 1 2 3" ⇒ "14" ∷
    "check 1 2 3 4" ⇒ "14" ∷
    "assigned-users 1 2" ⇒ "14" ∷
    "assigned-roles 1 2" ⇒ "14" ∷
    "auth-users 1 2" ⇒ "14" ∷
    "auth-roles 1 2" ⇒ "14" ∷
    "role-perms 1 2" ⇒ "14" ∷
    "user-perms 1 2" ⇒ "14" ∷
    "session-roles 1 2" ⇒ "14" ∷
    "session-perms 1 2" ⇒ "14" ∷
    "role-ops 1 2 3" ⇒ "14" ∷
    "user-ops 1 2 3" ⇒ "14" ∷
    "ssd-sets 1" ⇒ "14" ∷
    "ssd-roles 1 2" ⇒ "14" ∷
    "ssd-count 1 2" ⇒ "14" ∷
    "dsd-sets 1" ⇒ "14" ∷
    "dsd-roles 1 2" ⇒ "14" ∷
    "dsd-count 1 2" ⇒ "14" ∷
    "end-all 1 2" ⇒ "14" ∷
    []

-- Each script prints what stands beside its lines, and the total.
pub record WordSheet : Type 0 where
  pub people : Prints people "total 24 1"
  pub sessions : Prints sessions "total 29 6"
  pub permissions : Prints (granting ++ (permissions ++ revoking)) "total 24 0"
  pub sets : Prints sets "total 32 3"
  pub one_too_few : Prints one_too_few "total 0 40"
  pub one_too_many : Prints one_too_many "total 0 39"
