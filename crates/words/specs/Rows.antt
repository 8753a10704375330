-- The words of the code: their numbers, and what a row of its table says of a word. Assumes nothing.
use Rattle.std.specs.Prelude.{Bool, true, false, List, [], ◌∷◌, ℕ, Option}
use Rattle.std.specs.List.{slice_get}
use Rattle.words.specs.ScriptWords.{Word}
use Rattle.words.specs.declared.Word.{Word as Named}
use Rattle.words.specs.declared.Word.TheVariants.{User, Role, NoUser, NoRole, Assign, Deassign, Grant, Revoke, Inherit, Disinherit, Session, Activate, Drop, End, Ssd, NoSsd, SsdAdd, SsdDrop, SsdCard, Dsd, NoDsd, DsdAdd, DsdDrop, DsdCard, Check, AssignedUsers, AssignedRoles, AuthUsers, AuthRoles, RolePerms, UserPerms, SessionRoles, SessionPerms, RoleOps, UserOps, SsdSets, SsdRoles, SsdCount, DsdSets, DsdRoles, DsdCount, EndAll}
use Rattle.words.specs.declared.Follows.{Follows}
use Rattle.words.specs.declared.Follows.TheVariants.{Exactly, ThenRoles}
use Rattle.words.specs.declared.Row.{Row}

-- the number of a word: its place among the words of the definition
abbrev pub number : Named → ℕ
number User = 0
number Role = 1
number NoUser = 2
number NoRole = 3
number Assign = 4
number Deassign = 5
number Grant = 6
number Revoke = 7
number Inherit = 8
number Disinherit = 9
number Session = 10
number Activate = 11
number Drop = 12
number End = 13
number Ssd = 14
number NoSsd = 15
number SsdAdd = 16
number SsdDrop = 17
number SsdCard = 18
number Dsd = 19
number NoDsd = 20
number DsdAdd = 21
number DsdDrop = 22
number DsdCard = 23
number Check = 24
number AssignedUsers = 25
number AssignedRoles = 26
number AuthUsers = 27
number AuthRoles = 28
number RolePerms = 29
number UserPerms = 30
number SessionRoles = 31
number SessionPerms = 32
number RoleOps = 33
number UserOps = 34
number SsdSets = 35
number SsdRoles = 36
number SsdCount = 37
number DsdSets = 38
number DsdRoles = 39
number DsdCount = 40
number EndAll = 41

-- the words in the order of their numbers
abbrev pub in_order : List Named
in_order =
    User ∷ Role ∷ NoUser ∷ NoRole ∷ Assign ∷ Deassign ∷ Grant ∷ Revoke ∷ Inherit ∷ Disinherit ∷ Session ∷ Activate ∷ Drop ∷ End ∷ Ssd ∷ NoSsd ∷ SsdAdd ∷ SsdDrop ∷ SsdCard ∷ Dsd ∷ NoDsd ∷ DsdAdd ∷ DsdDrop ∷ DsdCard ∷ Check ∷ AssignedUsers ∷ AssignedRoles ∷ AuthUsers ∷ AuthRoles ∷ RolePerms ∷ UserPerms ∷ SessionRoles ∷ SessionPerms ∷ RoleOps ∷ UserOps ∷ SsdSets ∷ SsdRoles ∷ SsdCount ∷ DsdSets ∷ DsdRoles ∷ DsdCount ∷ EndAll ∷ []

-- the word with a number; there is none past the last
abbrev pub named : ℕ → Option Named
named k = slice_get in_order k

-- how many numbers follow a word, and whether a list of roles follows them
abbrev pub how_many : Follows → ℕ
how_many (Exactly n) = n
how_many (ThenRoles n) = n

abbrev pub with_list : Follows → Bool
with_list (Exactly n) = false
with_list (ThenRoles n) = true

-- what a row says of its word
abbrev pub described : Row → Word
described r = record { spelling = r.1.now; numbers = how_many r.2; listed = with_list r.2 }
