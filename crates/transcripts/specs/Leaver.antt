-- A student leaves: "A teacher deleted a leaver and lost the review another teacher was watching in that session." Here it is a script, line by line
-- with its answers, and that the engine answers so is proved. Assumes nothing.
use Rattle.std.specs.Prelude.{List, [], ◌∷◌}
use Rattle.transcripts.specs.Rows.{Row, ◌⇒◌, Prints}

abbrev pub leaver : List Row
leaver =
    -- two students
    "user 7" ⇒ "0" ∷
    "user 8" ⇒ "0" ∷
    -- review
    "role 3" ⇒ "0" ∷
    -- to review is operation 1 on object 30, a pressure map
    "grant 1 30 3" ⇒ "0" ∷
    "assign 7 3" ⇒ "0" ∷
    "assign 8 3" ⇒ "0" ∷
    -- 7 opens session 0; another teacher is watching its review
    "session 7 3" ⇒ "0 0" ∷
    -- 8 opens session 1
    "session 8 3" ⇒ "0 1" ∷
    -- 7 is leaving. Refused: 7 has an open session
    "nouser 7" ⇒ "16" ∷
    -- nothing has changed: 7 has the role still,
    "assigned-roles 7" ⇒ "0 3" ∷
    -- and the review goes on
    "check 0 1 30" ⇒ "0 1 1" ∷
    -- the teacher has seen enough: the sessions of 7 end, and nothing else:
    "end-all 7" ⇒ "0" ∷
    -- 7 has the role still
    "assigned-roles 7" ⇒ "0 3" ∷
    -- session 0 is gone;
    "check 0 1 30" ⇒ "2" ∷
    -- session 1, of another user, goes on
    "check 1 1 30" ⇒ "0 1 1" ∷
    -- now 7 can go, and the assignments with 7
    "nouser 7" ⇒ "0" ∷
    "assigned-users 3" ⇒ "0 8" ∷
    "end-all 8" ⇒ "0" ∷
    -- none is open any more: done, and nothing changes
    "end-all 8" ⇒ "0" ∷
    []

pub record Leaver : Type 0 where
  pub told : Prints leaver "total 17 2"
