-- The edges: a line of text at each limit of the paper and one just past it, each beside what it prints. Assumes nothing.
use Rattle.std.specs.Prelude.{List, [], ◌∷◌, ◌++◌, ◌≡◌, length}
use Prim.Native.String.{String}
use Rattle.words.specs.Bytes.{bytes}
use Rattle.script.specs.Script.{run_script}
use Rattle.transcripts.specs.Rows.{Row, ◌⇒◌, line_of, Prints}

-- "Users are 0 to 255, roles 0 to 63, sessions 0 to 63 .. Operations 0 to 15 and objects 0 to 255": beyond that a number is answered 1, in every
-- command and in every question
abbrev pub numbers : List Row
numbers =
    -- users 0 to 255
    "user 255" ⇒ "0" ∷
    "user 256" ⇒ "1" ∷
    -- roles 0 to 63
    "role 62" ⇒ "0" ∷
    "role 63" ⇒ "0" ∷
    "role 64" ⇒ "1" ∷
    "nouser 254" ⇒ "2" ∷
    "nouser 256" ⇒ "1" ∷
    "end-all 254" ⇒ "2" ∷
    "end-all 256" ⇒ "1" ∷
    "norole 61" ⇒ "2" ∷
    "norole 64" ⇒ "1" ∷
    "assign 255 63" ⇒ "0" ∷
    "assign 256 63" ⇒ "1" ∷
    "assign 255 64" ⇒ "1" ∷
    "deassign 256 63" ⇒ "1" ∷
    "deassign 255 64" ⇒ "1" ∷
    "inherit 63 62" ⇒ "0" ∷
    "inherit 64 62" ⇒ "1" ∷
    "inherit 63 64" ⇒ "1" ∷
    "inherit 62 63" ⇒ "6" ∷
    "disinherit 64 62" ⇒ "1" ∷
    "disinherit 63 64" ⇒ "1" ∷
    "disinherit 62 63" ⇒ "5" ∷
    -- operations 0 to 15 and objects 0 to 255
    "grant 15 255 62" ⇒ "0" ∷
    "grant 16 255 62" ⇒ "1" ∷
    "grant 15 256 62" ⇒ "1" ∷
    "grant 15 255 64" ⇒ "1" ∷
    "grant 15 255 63" ⇒ "0" ∷
    "revoke 16 255 62" ⇒ "1" ∷
    "revoke 15 256 62" ⇒ "1" ∷
    "revoke 15 255 64" ⇒ "1" ∷
    -- sessions 0 to 63: 63 is a session's number that is not open, and 64 none
    "session 255 63" ⇒ "0 0" ∷
    "session 256 63" ⇒ "1" ∷
    "session 255 64" ⇒ "1" ∷
    "activate 256 0 62" ⇒ "1" ∷
    "activate 255 64 62" ⇒ "1" ∷
    "activate 255 63 62" ⇒ "2" ∷
    "activate 255 0 64" ⇒ "1" ∷
    "activate 255 0 62" ⇒ "0" ∷
    "activate 255 0 63" ⇒ "4" ∷
    "drop 256 0 62" ⇒ "1" ∷
    "drop 255 64 62" ⇒ "1" ∷
    "drop 255 63 62" ⇒ "2" ∷
    "drop 255 0 64" ⇒ "1" ∷
    "end 256 0" ⇒ "1" ∷
    "end 255 64" ⇒ "1" ∷
    "end 255 63" ⇒ "2" ∷
    -- session 0 is open
    "nouser 255" ⇒ "16" ∷
    -- the same in questions
    "check 0 15 255" ⇒ "0 1 1" ∷
    "check 0 16 255" ⇒ "1" ∷
    "check 0 15 256" ⇒ "1" ∷
    "check 64 15 255" ⇒ "1" ∷
    "check 63 15 255" ⇒ "2" ∷
    "assigned-users 63" ⇒ "0 255" ∷
    "assigned-users 64" ⇒ "1" ∷
    "assigned-roles 255" ⇒ "0 63" ∷
    "assigned-roles 256" ⇒ "1" ∷
    "auth-users 63" ⇒ "0 255" ∷
    "auth-users 64" ⇒ "1" ∷
    "auth-roles 255" ⇒ "0 62 63" ∷
    "auth-roles 256" ⇒ "1" ∷
    "session-roles 0" ⇒ "0 62 63" ∷
    "session-roles 63" ⇒ "2" ∷
    "session-roles 64" ⇒ "1" ∷
    "role-ops 63 255" ⇒ "0 15" ∷
    "role-ops 63 256" ⇒ "1" ∷
    "role-ops 64 255" ⇒ "1" ∷
    "user-ops 255 255" ⇒ "0 15" ∷
    "user-ops 255 256" ⇒ "1" ∷
    "user-ops 256 255" ⇒ "1" ∷
    "role-perms 64" ⇒ "1" ∷
    "user-perms 256" ⇒ "1" ∷
    "session-perms 63" ⇒ "2" ∷
    "session-perms 64" ⇒ "1" ∷
    []

-- after those lines: what stands at the edge can be removed
abbrev pub removals : List Row
removals =
    "drop 255 0 62" ⇒ "0" ∷
    "drop 255 0 63" ⇒ "0" ∷
    "end 255 0" ⇒ "0" ∷
    "revoke 15 255 62" ⇒ "0" ∷
    "revoke 15 255 63" ⇒ "0" ∷
    "disinherit 63 62" ⇒ "0" ∷
    "deassign 255 63" ⇒ "0" ∷
    "norole 63" ⇒ "0" ∷
    "nouser 255" ⇒ "0" ∷
    []

-- "SSD sets 0 to 15, DSD sets 0 to 15"; "2 <= n <= number of its roles"; a cardinality is never beyond its range
abbrev pub sets : List Row
sets =
    "role 61" ⇒ "0" ∷
    "role 62" ⇒ "0" ∷
    "role 63" ⇒ "0" ∷
    -- SSD sets 0 to 15
    "ssd 15 2 61 62" ⇒ "0" ∷
    "ssd 16 2 61 62" ⇒ "1" ∷
    -- and their roles 0 to 63
    "ssd 14 2 62 64" ⇒ "1" ∷
    "ssd-add 15 63" ⇒ "0" ∷
    "ssd-add 16 63" ⇒ "1" ∷
    "ssd-add 15 64" ⇒ "1" ∷
    "ssd-drop 16 63" ⇒ "1" ∷
    "ssd-drop 15 64" ⇒ "1" ∷
    -- a cardinality is 2 or more, and at most the set's size; it is never beyond its range
    "ssd 14 1 61 63" ⇒ "7" ∷
    "ssd 14 3 61 62" ⇒ "7" ∷
    "ssd 14 65535 61 62" ⇒ "7" ∷
    "ssd-card 15 1" ⇒ "7" ∷
    "ssd-card 15 3" ⇒ "0" ∷
    "ssd-card 15 4" ⇒ "7" ∷
    "ssd-card 15 65535" ⇒ "7" ∷
    "ssd-card 16 2" ⇒ "1" ∷
    "ssd-roles 15" ⇒ "0 61 62 63" ∷
    "ssd-roles 16" ⇒ "1" ∷
    "ssd-count 15" ⇒ "0 3" ∷
    "ssd-count 16" ⇒ "1" ∷
    -- at that size no role can go
    "ssd-drop 15 63" ⇒ "7" ∷
    "nossd 14" ⇒ "2" ∷
    "nossd 16" ⇒ "1" ∷
    "nossd 15" ⇒ "0" ∷
    -- DSD sets alike
    "dsd 15 2 61 62" ⇒ "0" ∷
    "dsd 16 2 61 62" ⇒ "1" ∷
    "dsd 14 2 62 64" ⇒ "1" ∷
    "dsd-add 15 63" ⇒ "0" ∷
    "dsd-add 16 63" ⇒ "1" ∷
    "dsd-add 15 64" ⇒ "1" ∷
    "dsd-drop 16 63" ⇒ "1" ∷
    "dsd-drop 15 64" ⇒ "1" ∷
    "dsd 14 1 61 63" ⇒ "7" ∷
    "dsd 14 3 61 62" ⇒ "7" ∷
    "dsd 14 65535 61 62" ⇒ "7" ∷
    "dsd-card 15 1" ⇒ "7" ∷
    "dsd-card 15 3" ⇒ "0" ∷
    "dsd-card 15 4" ⇒ "7" ∷
    "dsd-card 15 65535" ⇒ "7" ∷
    "dsd-card 16 2" ⇒ "1" ∷
    "dsd-roles 15" ⇒ "0 61 62 63" ∷
    "dsd-roles 16" ⇒ "1" ∷
    "dsd-count 15" ⇒ "0 3" ∷
    "dsd-count 16" ⇒ "1" ∷
    "dsd-drop 15 63" ⇒ "7" ∷
    "nodsd 14" ⇒ "2" ∷
    "nodsd 16" ⇒ "1" ∷
    "nodsd 15" ⇒ "0" ∷
    []

-- "A list of roles may be empty and must be strictly ascending, else 14."
abbrev pub lists : List Row
lists =
    "user 0" ⇒ "0" ∷
    "role 1" ⇒ "0" ∷
    "role 2" ⇒ "0" ∷
    "role 3" ⇒ "0" ∷
    "assign 0 1" ⇒ "0" ∷
    -- an empty list
    "session 0" ⇒ "0 0" ∷
    -- equal neighbours, and falling ones
    "session 0 1 1" ⇒ "14" ∷
    "session 0 2 1" ⇒ "14" ∷
    "session 0 1" ⇒ "0 1" ∷
    "ssd 0 2 1 1" ⇒ "14" ∷
    "ssd 0 2 2 1" ⇒ "14" ∷
    -- at the end of a list too
    "ssd 0 2 1 2 2" ⇒ "14" ∷
    "ssd 0 2 1 3 2" ⇒ "14" ∷
    "ssd 0 2 1 2" ⇒ "0" ∷
    "dsd 0 2 1 1" ⇒ "14" ∷
    "dsd 0 2 2 1" ⇒ "14" ∷
    "dsd 0 2 1 2 2" ⇒ "14" ∷
    "dsd 0 2 1 3 2" ⇒ "14" ∷
    "dsd 0 2 1 2" ⇒ "0" ∷
    -- "14 comes first"
    "ssd 16 1 64 64" ⇒ "14" ∷
    "session 256 64 64" ⇒ "14" ∷
    []

-- "A number is 1 to 5 digits, at most 65,535, with no leading zero except 0 itself. An unknown word, a wrong number of numbers, a number written
-- otherwise, a stray space or other byte, an empty line .. answers 14."
abbrev pub forms : List Row
forms =
    -- "at most 65,535"
    "user 65535" ⇒ "1" ∷
    "user 65536" ⇒ "14" ∷
    "user 99999" ⇒ "14" ∷
    -- a cardinality too
    "ssd 0 65535" ⇒ "7" ∷
    "ssd 0 65536" ⇒ "14" ∷
    -- "1 to 5 digits"
    "user 100000" ⇒ "14" ∷
    "user " ⇒ "14" ∷
    "user" ⇒ "14" ∷
    -- "with no leading zero except 0 itself"
    "user 0" ⇒ "0" ∷
    "user 00" ⇒ "14" ∷
    "user 07" ⇒ "14" ∷
    "user 7" ⇒ "0" ∷
    -- "a wrong number of numbers"
    "user 8 9" ⇒ "14" ∷
    "ssd-sets 0" ⇒ "14" ∷
    -- "a stray space"
    " user 8" ⇒ "14" ∷
    "user  8" ⇒ "14" ∷
    "user 8 " ⇒ "14" ∷
    -- "or other byte": `/` stands before the digits, and `:` after them
    "user /" ⇒ "14" ∷
    "user :" ⇒ "14" ∷
    "user +8" ⇒ "14" ∷
    "user -8" ⇒ "14" ∷
    "user 8." ⇒ "14" ∷
    -- "an unknown word"
    "users 8" ⇒ "14" ∷
    "use 8" ⇒ "14" ∷
    "User 8" ⇒ "14" ∷
    -- "an empty line"
    "" ⇒ "14" ∷
    -- saving and loading: "Neither is a word of the script."
    "save" ⇒ "14" ∷
    "load" ⇒ "14" ∷
    []

-- "a line over 512 bytes answers 14": a list of numbers beyond their range, which is answered 1, and the same with a digit more
abbrev pub bytes512 : String
bytes512 = "session 0 1000 10000 10001 10002 10003 10004 10005 10006 10007 10008 10009 10010 10011 10012 10013 10014 10015 10016 10017 10018 10019 10020 10021 10022 10023 10024 10025 10026 10027 10028 10029 10030 10031 10032 10033 10034 10035 10036 10037 10038 10039 10040 10041 10042 10043 10044 10045 10046 10047 10048 10049 10050 10051 10052 10053 10054 10055 10056 10057 10058 10059 10060 10061 10062 10063 10064 10065 10066 10067 10068 10069 10070 10071 10072 10073 10074 10075 10076 10077 10078 10079 10080 10081 10082"

abbrev pub bytes513 : String
bytes513 = "session 10 1000 10000 10001 10002 10003 10004 10005 10006 10007 10008 10009 10010 10011 10012 10013 10014 10015 10016 10017 10018 10019 10020 10021 10022 10023 10024 10025 10026 10027 10028 10029 10030 10031 10032 10033 10034 10035 10036 10037 10038 10039 10040 10041 10042 10043 10044 10045 10046 10047 10048 10049 10050 10051 10052 10053 10054 10055 10056 10057 10058 10059 10060 10061 10062 10063 10064 10065 10066 10067 10068 10069 10070 10071 10072 10073 10074 10075 10076 10077 10078 10079 10080 10081 10082"

abbrev pub long_lines : List Row
long_lines =
    bytes512 ⇒ "1" ∷
    bytes513 ⇒ "14" ∷
    []

-- "At most .. 64 open sessions stand at once. Room freed by a removal is used again."
abbrev pub open_sessions : List Row
open_sessions =
    "user 7" ⇒ "0" ∷
    "session 7" ⇒ "0 0" ∷
    "session 7" ⇒ "0 1" ∷
    "session 7" ⇒ "0 2" ∷
    "session 7" ⇒ "0 3" ∷
    "session 7" ⇒ "0 4" ∷
    "session 7" ⇒ "0 5" ∷
    "session 7" ⇒ "0 6" ∷
    "session 7" ⇒ "0 7" ∷
    "session 7" ⇒ "0 8" ∷
    "session 7" ⇒ "0 9" ∷
    "session 7" ⇒ "0 10" ∷
    "session 7" ⇒ "0 11" ∷
    "session 7" ⇒ "0 12" ∷
    "session 7" ⇒ "0 13" ∷
    "session 7" ⇒ "0 14" ∷
    "session 7" ⇒ "0 15" ∷
    "session 7" ⇒ "0 16" ∷
    "session 7" ⇒ "0 17" ∷
    "session 7" ⇒ "0 18" ∷
    "session 7" ⇒ "0 19" ∷
    "session 7" ⇒ "0 20" ∷
    "session 7" ⇒ "0 21" ∷
    "session 7" ⇒ "0 22" ∷
    "session 7" ⇒ "0 23" ∷
    "session 7" ⇒ "0 24" ∷
    "session 7" ⇒ "0 25" ∷
    "session 7" ⇒ "0 26" ∷
    "session 7" ⇒ "0 27" ∷
    "session 7" ⇒ "0 28" ∷
    "session 7" ⇒ "0 29" ∷
    "session 7" ⇒ "0 30" ∷
    "session 7" ⇒ "0 31" ∷
    "session 7" ⇒ "0 32" ∷
    "session 7" ⇒ "0 33" ∷
    "session 7" ⇒ "0 34" ∷
    "session 7" ⇒ "0 35" ∷
    "session 7" ⇒ "0 36" ∷
    "session 7" ⇒ "0 37" ∷
    "session 7" ⇒ "0 38" ∷
    "session 7" ⇒ "0 39" ∷
    "session 7" ⇒ "0 40" ∷
    "session 7" ⇒ "0 41" ∷
    "session 7" ⇒ "0 42" ∷
    "session 7" ⇒ "0 43" ∷
    "session 7" ⇒ "0 44" ∷
    "session 7" ⇒ "0 45" ∷
    "session 7" ⇒ "0 46" ∷
    "session 7" ⇒ "0 47" ∷
    "session 7" ⇒ "0 48" ∷
    "session 7" ⇒ "0 49" ∷
    "session 7" ⇒ "0 50" ∷
    "session 7" ⇒ "0 51" ∷
    "session 7" ⇒ "0 52" ∷
    "session 7" ⇒ "0 53" ∷
    "session 7" ⇒ "0 54" ∷
    "session 7" ⇒ "0 55" ∷
    "session 7" ⇒ "0 56" ∷
    "session 7" ⇒ "0 57" ∷
    "session 7" ⇒ "0 58" ∷
    "session 7" ⇒ "0 59" ∷
    "session 7" ⇒ "0 60" ∷
    "session 7" ⇒ "0 61" ∷
    "session 7" ⇒ "0 62" ∷
    "session 7" ⇒ "0 63" ∷
    -- the 65th
    "session 7" ⇒ "12" ∷
    -- all 64 are open, the last one too
    "session-roles 63" ⇒ "0" ∷
    "session-roles 64" ⇒ "1" ∷
    -- "Room freed by a removal is used again."
    "end 7 5" ⇒ "0" ∷
    "session 7" ⇒ "0 5" ∷
    "session 7" ⇒ "12" ∷
    "end 7 63" ⇒ "0" ∷
    "session 7" ⇒ "0 63" ∷
    "session 7" ⇒ "12" ∷
    -- 11 comes before 12: with all 64 open, roles 0 and 2, which have both roles of a dynamic set in effect, are 11, and role 2 alone is 12
    "role 0" ⇒ "0" ∷
    "role 1" ⇒ "0" ∷
    "role 2" ⇒ "0" ∷
    "inherit 2 1" ⇒ "0" ∷
    "assign 7 0" ⇒ "0" ∷
    "assign 7 2" ⇒ "0" ∷
    "dsd 0 2 0 1" ⇒ "0" ∷
    "session 7 0 2" ⇒ "11" ∷
    "session 7 2" ⇒ "12" ∷
    -- session 63 is closed, and that its owner is 0 does not make it user 0's: user 0 has none open
    "end 7 63" ⇒ "0" ∷
    "user 0" ⇒ "0" ∷
    "nouser 0" ⇒ "0" ∷
    -- session 63 alone is enough for 16
    "user 0" ⇒ "0" ∷
    "session 0" ⇒ "0 63" ∷
    "nouser 0" ⇒ "16" ∷
    -- the sessions of user 0 end, and those of user 7 stay
    "end-all 0" ⇒ "0" ∷
    "session-roles 63" ⇒ "2" ∷
    "session-roles 0" ⇒ "0" ∷
    "session-roles 62" ⇒ "0" ∷
    "nouser 0" ⇒ "0" ∷
    -- 63 sessions end at once
    "nouser 7" ⇒ "16" ∷
    "end-all 7" ⇒ "0" ∷
    "session-roles 0" ⇒ "2" ∷
    "session-roles 62" ⇒ "2" ∷
    "nouser 7" ⇒ "0" ∷
    []

-- Each script prints what stands beside its lines, and the total.
pub record Edges : Type 0 where
  pub numbers : Prints (numbers ++ removals) "total 26 57"
  pub sets : Prints sets "total 15 36"
  pub lists : Prints lists "total 9 12"
  pub forms : Prints forms "total 2 26"
  pub long_lines : Prints long_lines "total 0 2"
  pub lengths : (length (bytes bytes512) ≡ 512) × (length (bytes bytes513) ≡ 513)
  pub open_sessions : Prints open_sessions "total 88 11"
  -- "A line ends at LF; the last may lack it, and nothing after the last LF is no line.": the only line, and the second of two, without LF
  pub only_line : run_script (bytes "user 7") ≡ line_of "0" ++ line_of "total 1 0"
  pub last_line : run_script (line_of "user 7" ++ bytes "role 3") ≡ line_of "0" ++ (line_of "0" ++ line_of "total 2 0")
