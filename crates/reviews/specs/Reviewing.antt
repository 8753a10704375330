-- What a review hands back, and what the functions that list promise. Assumes nothing.
use Rattle.std.specs.Prelude.{Bool, true, false, not, List, [], ◌∷◌, ◌++◌, ◌≡◌, ℕ, ltb, length, drop, Result}
use Rattle.roleset.specs.Bounded.{members}
use Rattle.roleset.specs.Roles.{common, is_empty}
use Rattle.hierarchy.specs.Lines.{table_of}
use Rattle.numbers.specs.Answers.{number_of}
use Rattle.numbers.specs.declared.Refusal.{Refusal}
use Rattle.model.specs.Model.{Model}
use Rattle.model.specs.Sheet as sheet
use Rattle.model.specs.Sheet.{Told, ◌when◌, refused}
use Rattle.model.specs.Questions.{review, ask}
use Rattle.model.specs.declared.Question.{Question}
use Rattle.state.specs.Results.{given_number}

-- What was told, in a lent buffer: the answer's number; how many results there are; the results at the front of the buffer, and every place past
-- them as before. A refusal has no results, so that it leaves the whole buffer as it was.
pub record Reviewed (told : Told) (before after : List ℕ) (x : Result ℕ Refusal) : Type 0 where
  pub answer : number_of x ≡ told.answer
  pub count : given_number x ≡ length told.results
  pub buffer : after ≡ told.results ++ drop (length told.results) before

-- the question, asked with the buffer's length as the room for its results
abbrev pub Asked : Model → Question → List ℕ → List ℕ → Result ℕ Refusal → Type 0
Asked m q before after x = Reviewed (ask m (length before) q) before after x

-- What was told, where it is to stand in a buffer with so much room: "15: the lent output buffer is shorter than the whole result". A review asks that
-- itself; `check`, whose two results stand in the buffer too where it is asked like a review, does not.
unfoldable pub fitted : ℕ → Told → Told
fitted room told = elim (ltb room (length told.results)) [ true ↦ refused 15 told.after | false ↦ told ]

-- any question, `check` too
abbrev pub AskedAny : Model → Question → List ℕ → List ℕ → Result ℕ Refusal → Type 0
AskedAny m q before after x = Reviewed (fitted (length before) (ask m (length before) q)) before after x

-- ---- the parts that all reviews share

-- the refusals of a review that would give so many results: 1, 2, 15
abbrev pub refusals : Bool → Bool → ℕ → ℕ → List sheet.Refusal
refusals beyond missing room results = 1 when beyond ∷ 2 when missing ∷ 15 when ltb room results ∷ []

-- whatever the model, the review of this list with these refusals
abbrev pub Lists : Bool → Bool → List ℕ → List ℕ → List ℕ → Result ℕ Refusal → Type 0
Lists beyond missing list before after x = (m : Model) → Reviewed (review m (length before) beyond missing list) before after x

-- some role is in both sets
abbrev pub meets : ℕ → ℕ → Bool
meets roles set = not (is_empty (common roles set))

-- place k of the table has one of the roles
abbrev pub touched : ℕ → List ℕ → ℕ → Bool
touched roles table k = meets roles (table_of table k)

-- the places of a table that have one of the roles, in ascending order
unfoldable pub meeting : ℕ → List ℕ → List ℕ
meeting roles table = members (length table) (touched roles table)
