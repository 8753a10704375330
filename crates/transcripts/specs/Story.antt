-- The user's story: "one person both recorded the map and released it for cutting. A bench lead had reached the release through two roles in
-- between, while the separation rule looked at direct roles only. A session went on releasing all afternoon after its role was taken away."
-- Here it is a script, line by line with its answers, and that the engine answers so is proved. Assumes nothing.
use Rattle.std.specs.Prelude.{List, [], ◌∷◌, ◌≡◌}
use Rattle.script.specs.Script.{run_script}
use Rattle.transcripts.specs.Rows.{Row, ◌⇒◌, script_of, printed_for}

abbrev pub story : List Row
story =
    "user 1" ⇒ "0" ∷
    -- two people of the workshop
    "user 2" ⇒ "0" ∷
    -- record a pressure map
    "role 0" ⇒ "0" ∷
    -- release a map for cutting
    "role 1" ⇒ "0" ∷
    -- cutter
    "role 2" ⇒ "0" ∷
    -- deputy
    "role 3" ⇒ "0" ∷
    -- bench lead
    "role 4" ⇒ "0" ∷
    "inherit 2 1" ⇒ "0" ∷
    "inherit 3 2" ⇒ "0" ∷
    -- the lead reaches the release through two roles in between
    "inherit 4 3" ⇒ "0" ∷
    -- to record is operation 0 on object 9, the map
    "grant 0 9 0" ⇒ "0" ∷
    -- to release is operation 1 on it
    "grant 1 9 1" ⇒ "0" ∷
    -- nobody may both record and release
    "ssd 0 2 0 1" ⇒ "0" ∷
    -- user 1 records
    "assign 1 0" ⇒ "0" ∷
    -- and cannot be the lead, who releases: inheritance is counted
    "assign 1 4" ⇒ "10" ∷
    -- user 2 is the lead
    "assign 2 4" ⇒ "0" ∷
    -- and cannot record
    "assign 2 0" ⇒ "10" ∷
    -- role lines do not run in a circle
    "inherit 1 4" ⇒ "6" ∷
    -- user 2 opens session 0 as the lead
    "session 2 4" ⇒ "0 0" ∷
    -- it may release, through the two roles in between
    "check 0 1 9" ⇒ "0 1 1" ∷
    -- it may not record: none of its four roles holds that
    "check 0 0 9" ⇒ "0 0 4" ∷
    -- the role is taken away while the session is open
    "deassign 2 4" ⇒ "0" ∷
    -- the session has no role any more
    "session-roles 0" ⇒ "0" ∷
    -- and releases nothing
    "check 0 1 9" ⇒ "0 0 0" ∷
    "end 2 0" ⇒ "0" ∷
    []

pub record Story : Type 0 where
  pub told : run_script (script_of story) ≡ printed_for story "total 22 3"
