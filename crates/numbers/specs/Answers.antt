-- The answer sheet: the paper's number of each answer, with the paper's sentence beside it (of 16 those of request 4), and the answer of a number, if
-- it has one.
-- Assumes nothing.
use Rattle.std.specs.Prelude.{true, false, List, [], ◌∷◌, ℕ, eqb, Option, Some, None, Result, Ok, Err}
use Rattle.numbers.specs.declared.Refusal.{Refusal}
use Rattle.numbers.specs.declared.Refusal.TheVariants.{
  BeyondRange,
  Missing,
  OtherOwner,
  AlreadyThere,
  NotThere,
  InheritsItself,
  BadCardinality,
  StandsInSet,
  NotAuthorised,
  BreaksStatic,
  BreaksDynamic,
  TableFull,
  NotOfForm,
  BufferShort,
  HasOpenSessions,
}

-- an answer: done, or refused
abbrev pub Answer : Type 0
Answer = Result (Unit {0}) Refusal

-- the paper's number of a refusal
abbrev pub refusal_number : Refusal → ℕ
refusal_number BeyondRange = 1  -- a number is beyond its range (a cardinality never is)
refusal_number Missing = 2  -- a named user, role, session or set does not exist
refusal_number OtherOwner = 3  -- the session belongs to another user
refusal_number AlreadyThere = 4  -- the thing to be added is there already
refusal_number NotThere = 5  -- the line, assignment, grant, active role or member to be removed is not there
refusal_number InheritsItself = 6  -- a role would inherit itself
refusal_number BadCardinality = 7  -- a cardinality would be below 2 or above its set's size
refusal_number StandsInSet = 8  -- the role to be deleted stands in an SSD or DSD set
refusal_number NotAuthorised = 9  -- the owner is not authorised for an asked role
refusal_number BreaksStatic = 10  -- an SSD rule would be broken for some user
refusal_number BreaksDynamic = 11  -- a DSD rule would be broken in some session
refusal_number TableFull = 12  -- the table that would grow is full
refusal_number NotOfForm = 14  -- the text, list or file is not of the form
refusal_number BufferShort = 15  -- the lent output buffer is shorter than the whole result
refusal_number HasOpenSessions = 16  -- the user has open sessions

-- the paper's number of an answer, whatever is given where it is done
abbrev pub number_of : {A : Type 0} → Result A Refusal → ℕ
number_of (Ok _) = 0  -- done
number_of (Err refusal) = refusal_number refusal

-- all the answers
abbrev pub sheet : List Answer
sheet =
    Ok tt ∷
    Err BeyondRange ∷
    Err Missing ∷
    Err OtherOwner ∷
    Err AlreadyThere ∷
    Err NotThere ∷
    Err InheritsItself ∷
    Err BadCardinality ∷
    Err StandsInSet ∷
    Err NotAuthorised ∷
    Err BreaksStatic ∷
    Err BreaksDynamic ∷
    Err TableFull ∷
    Err NotOfForm ∷
    Err BufferShort ∷
    Err HasOpenSessions ∷
    []

-- the one of these answers that has the number, or none
unfoldable pub with_number : ℕ → List Answer → Option Answer
with_number n [] = None
with_number n (a ∷ rest) = elim (eqb (number_of a) n) [ true ↦ Some a | false ↦ with_number n rest ]

-- the answer with this number, if there is one
abbrev pub answer_of : ℕ → Option Answer
answer_of n = with_number n sheet
