-- "Readings that look right": short examples, each of which a wrong reading of the paper would answer otherwise. Assumes nothing.
use Rattle.std.specs.Prelude.{Bool, true, false, ◌&&◌, ◌||◌, List, [], ◌∷◌, ◌≡◌, ℕ}
use Rattle.roleset.specs.Bounded.{some}
use Rattle.roleset.specs.Roles.{has}
use Rattle.model.specs.Model.{Model, empty}
use Rattle.model.specs.Words.{breaks_some, static_broken}
use Rattle.model.specs.commands.Inheriting.{lined}
use Rattle.model.specs.declared.Command.TheVariants.{AddUser, AddRole, Assign, Deassign, Inherit, Disinherit, MakeSet, OpenSession, EndSession}
use Rattle.model.specs.declared.Kind.TheVariants.{Static}
use Rattle.model.specs.declared.Question.TheVariants.{Check, SessionRoles}
use Rattle.benchsheet.specs.Lines.{Line, command, question, Answers, answers, afterwards, u, r, s, set, at_the_bench}
use Rattle.demands.specs.Demand2.{would_break}

-- an example: a policy made from the empty one, the lines tried on it, and what these answer
pub record Example : Type 0 where
  pub made : List Line
  pub lines : List Line
  pub expected : Answers

-- "Deleting a line by the derived order: with lines 2 over 0, 2 over 1 and 0 over 1, deleting 0 over 1 must keep 2 over 1 (document 001's
-- example)." It still stands, answer 4; the one deleted may be added again
abbrev pub deleting_one_line : Example
deleting_one_line =
    record {
      made = command (AddRole (r 0)) [] ∷ command (AddRole (r 1)) [] ∷ command (AddRole (r 2)) [] ∷ command (Inherit (r 2) (r 0)) [] ∷ command (Inherit (r 2) (r 1)) [] ∷ command (Inherit (r 0) (r 1)) [] ∷ [];
      lines = command (Disinherit (r 0) (r 1)) [] ∷ command (Inherit (r 2) (r 1)) [] ∷ command (Inherit (r 0) (r 1)) [] ∷ [];
      expected = (0 ∷ []) ∷ (4 ∷ []) ∷ (0 ∷ []) ∷ [];
    }

-- "Shedding on `deassign` by dropping the role named: an owner who still reaches it from another assigned role keeps it active." User 7 is
-- assigned to 0 and to 2 over 0, and has 0 active; without the assignment to 0 it stays active, without that to 2 it goes
abbrev pub shedding_what_is_lost : Example
shedding_what_is_lost =
    record {
      made = command (AddUser (u 7)) [] ∷ command (AddRole (r 0)) [] ∷ command (AddRole (r 2)) [] ∷ command (Inherit (r 2) (r 0)) [] ∷ command (Assign (u 7) (r 2)) [] ∷ command (Assign (u 7) (r 0)) [] ∷ command (OpenSession (u 7)) (0 ∷ []) ∷ [];
      lines = command (Deassign (u 7) (r 0)) [] ∷ question (SessionRoles (s 0)) ∷ command (Deassign (u 7) (r 2)) [] ∷ question (SessionRoles (s 0)) ∷ [];
      expected = (0 ∷ []) ∷ (0 ∷ 0 ∷ []) ∷ (0 ∷ []) ∷ (0 ∷ []) ∷ [];
    }

-- "Testing the new line's two roles only on `inherit`: users of every senior above gain roles too." User 7 is assigned to 4 over 3 over 2 and
-- to 1; a new line 2 over 0 would give it 0 besides 1
abbrev pub two_seniors_above : List Line
two_seniors_above =
    command (AddUser (u 7)) []
    ∷ command (AddRole (r 0)) []
    ∷ command (AddRole (r 1)) []
    ∷ command (AddRole (r 2)) []
    ∷ command (AddRole (r 3)) []
    ∷ command (AddRole (r 4)) []
    ∷ command (Inherit (r 4) (r 3)) []
    ∷ command (Inherit (r 3) (r 2)) []
    ∷ command (MakeSet Static (set 0) 2) (0 ∷ 1 ∷ [])
    ∷ command (Assign (u 7) (r 4)) []
    ∷ command (Assign (u 7) (r 1)) []
    ∷ []

abbrev pub every_senior_above : Example
every_senior_above = record { made = two_seniors_above; lines = command (Inherit (r 2) (r 0)) [] ∷ []; expected = (10 ∷ []) ∷ [] }

-- "A line that a longer chain already implies is recorded all the same."
abbrev pub implied_line : Example
implied_line =
    record {
      made = command (AddRole (r 0)) [] ∷ command (AddRole (r 1)) [] ∷ command (AddRole (r 2)) [] ∷ command (Inherit (r 2) (r 0)) [] ∷ command (Inherit (r 0) (r 1)) [] ∷ [];
      lines = command (Inherit (r 2) (r 1)) [] ∷ command (Inherit (r 2) (r 1)) [] ∷ [];
      expected = (0 ∷ []) ∷ (4 ∷ []) ∷ [];
    }

-- "Room freed by a removal is used again", and "the lowest free session number"
abbrev pub room_used_again : Example
room_used_again =
    record {
      made = command (AddUser (u 7)) [] ∷ [];
      lines = command (OpenSession (u 7)) [] ∷ command (OpenSession (u 7)) [] ∷ command (EndSession (u 7) (s 0)) [] ∷ command (OpenSession (u 7)) [] ∷ [];
      expected = (0 ∷ 0 ∷ []) ∷ (0 ∷ 1 ∷ []) ∷ (0 ∷ []) ∷ (0 ∷ 0 ∷ []) ∷ [];
    }

abbrev pub examples : List Example
examples = deleting_one_line ∷ shedding_what_is_lost ∷ every_senior_above ∷ implied_line ∷ room_used_again ∷ []

-- every example answers what is said above
unfoldable pub answered : List Example → List Answers
answered [] = []
answered (x ∷ rest) = answers (afterwards empty x.made) x.lines ∷ answered rest

unfoldable pub expected : List Example → List Answers
expected [] = []
expected (x ∷ rest) = x.expected ∷ expected rest

-- "Document 004's permitted action for hierarchies decides, not the core schema read as direct grants only." At the bench role 2 is active, and
-- 0, which it inherits, holds the permission
abbrev pub access_at_the_bench : List Line
access_at_the_bench = question (SessionRoles (s 0)) ∷ question (Check (s 0) 4 30) ∷ question (Check (s 0) 4 31) ∷ []

abbrev pub InheritedGrant : Type 0
InheritedGrant = answers at_the_bench access_at_the_bench ≡ (0 ∷ 2 ∷ []) ∷ (0 ∷ 1 ∷ 1 ∷ []) ∷ (0 ∷ 0 ∷ 2 ∷ []) ∷ []

-- ---- two wrong rules, and where they would pass what the paper refuses

-- "Testing SSD over assigned roles"
unfoldable pub broken_by_assigned : Model → Bool
broken_by_assigned after = some 256 (λ v. breaks_some after.ssd (after.assigned v))

-- "Testing the new line's two roles only": of the users that are assigned to one of the two
unfoldable pub broken_by_two : Model → ℕ → ℕ → Bool
broken_by_two after senior junior = some 256 (λ v. (has (after.assigned v) senior || has (after.assigned v) junior) && static_broken after v)

pub record WrongRules : Type 0 where
  -- "P5 would pass": the rule over assigned roles sees nothing in `inherit 2 1` at the bench, and the paper's rule is broken
  pub assigned_only : (broken_by_assigned (lined at_the_bench 2 1) ≡ false) × (would_break Static (lined at_the_bench 2 1) ≡ true)
  -- nor does the rule over the new line's two roles, in `inherit 2 0` two roles below user 7's
  pub two_only : (broken_by_two (lined (afterwards empty two_seniors_above) 2 0) 2 0 ≡ false) × (would_break Static (lined (afterwards empty two_seniors_above) 2 0) ≡ true)
