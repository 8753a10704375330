-- "A student activated two senior roles and used capture and release together, though a dynamic set forbade it." Here it is a script, line by line
-- with its answers, and that the engine answers so is proved. Assumes nothing.
use Rattle.std.specs.Prelude.{List, [], ◌∷◌}
use Rattle.transcripts.specs.Rows.{Row, ◌⇒◌, Prints}

abbrev pub student : List Row
student =
    -- a student
    "user 7" ⇒ "0" ∷
    -- capture, and release
    "role 0" ⇒ "0" ∷
    "role 1" ⇒ "0" ∷
    -- to capture is operation 0 on object 30, a pressure map, and to release is operation 2
    "grant 0 30 0" ⇒ "0" ∷
    "grant 2 30 1" ⇒ "0" ∷
    -- a senior over each
    "role 2" ⇒ "0" ∷
    "role 3" ⇒ "0" ∷
    "inherit 2 0" ⇒ "0" ∷
    "inherit 3 1" ⇒ "0" ∷
    -- nobody captures and releases in one session
    "dsd 0 2 0 1" ⇒ "0" ∷
    "assign 7 2" ⇒ "0" ∷
    "assign 7 3" ⇒ "0" ∷
    -- both seniors in one session. Refused: capture and release would both be effective
    "session 7 2 3" ⇒ "11" ∷
    -- one senior: session 0
    "session 7 2" ⇒ "0 0" ∷
    "check 0 0 30" ⇒ "0 1 1" ∷
    -- the other one too. Refused
    "activate 7 0 3" ⇒ "11" ∷
    "check 0 2 30" ⇒ "0 0 2" ∷
    -- in a session of its own it may release
    "session 7 3" ⇒ "0 1" ∷
    "check 1 2 30" ⇒ "0 1 1" ∷
    -- another role, under the first senior
    "role 4" ⇒ "0" ∷
    "inherit 2 4" ⇒ "0" ∷
    -- release under that one. Refused: in session 0, where the senior is active, release would be effective besides capture
    "inherit 4 1" ⇒ "11" ∷
    -- with that session ended the line may stand,
    "end 7 0" ⇒ "0" ∷
    "inherit 4 1" ⇒ "0" ∷
    -- but then the senior inherits both, and can be active in no session
    "session 7 2" ⇒ "11" ∷
    []

pub record Student : Type 0 where
  pub told : Prints student "total 21 4"
