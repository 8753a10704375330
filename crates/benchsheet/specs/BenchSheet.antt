-- "Bench sheet to prove": P1 to P11, each from the policy after the first ten lines of the paper's example, and P12 from the empty one. A row is a
-- line of text and the line that it prints. Assumes nothing.
use Rattle.std.specs.Prelude.{List, [], ◌∷◌, ◌++◌, ◌≡◌, ℕ, ◌≤◌, length, drop}
use Rattle.model.specs.Model.{Model, empty}
use Rattle.policyform.specs.Promises.{Saves}
use Rattle.transcripts.specs.Rows.{Row, ◌⇒◌, after_rows, Answered}
use Rattle.benchsheet.specs.Lines.{at_the_bench}

-- "the first ten lines" of the example, and what they print
abbrev pub first_ten_lines : List Row
first_ten_lines =
    "user 7" ⇒ "0" ∷
    "role 0" ⇒ "0" ∷
    "role 1" ⇒ "0" ∷
    "role 2" ⇒ "0" ∷
    "inherit 2 0" ⇒ "0" ∷
    "ssd 0 2 0 1" ⇒ "0" ∷
    "assign 7 2" ⇒ "0" ∷
    "assign 7 1" ⇒ "10" ∷
    "grant 4 30 0" ⇒ "0" ∷
    "session 7 2" ⇒ "0 0" ∷
    []

-- a row of the sheet: its number, its lines and what they print, one after another
pub data Labelled : Type 0 where
  P : ℕ → List Row → Labelled

-- What the sheet says beside a number stands as questions after the line.
abbrev pub sheet : List Labelled
sheet =
    P 1 ("assign 7 1" ⇒ "10" ∷ []) ∷
    P 2 ("inherit 0 2" ⇒ "6" ∷ []) ∷
    P 3 ("inherit 0 0" ⇒ "6" ∷ []) ∷
    P 4 ("inherit 2 0" ⇒ "4" ∷ []) ∷
    P 5 ("inherit 2 1" ⇒ "10" ∷ []) ∷
    -- "0, authorised through 2": user 7 is assigned to 2 alone, and authorised for 0 and 2
    P 6 ("activate 7 0 0" ⇒ "0" ∷ "assigned-roles 7" ⇒ "0 2" ∷ "auth-roles 7" ⇒ "0 0 2" ∷ []) ∷
    -- "0, session 0 open, none active"
    P 7 ("deassign 7 2" ⇒ "0" ∷ "session-roles 0" ⇒ "0" ∷ []) ∷
    -- "0, then 0 0 1 with role 2 active" (request 10)
    P 8 ("disinherit 2 0" ⇒ "0" ∷ "check 0 4 30" ⇒ "0 0 1" ∷ "session-roles 0" ⇒ "0 2" ∷ []) ∷
    P 9 ("ssd-drop 0 1" ⇒ "7" ∷ []) ∷
    P 10 ("norole 1" ⇒ "8" ∷ []) ∷
    P 11 ("role 63" ⇒ "0" ∷ "role 64" ⇒ "1" ∷ []) ∷
    []

-- Every row, by itself, prints what stands beside it, from this policy on.
abbrev pub EachAnswered : Model → List Labelled → Type 0
EachAnswered m [] = Unit
EachAnswered m (P k rows ∷ rest) = Answered m rows × EachAnswered m rest

-- "the empty policy saved" is "sixteen zero bytes"
abbrev pub sixteen_zero_bytes : List ℕ
sixteen_zero_bytes = 0 ∷ 0 ∷ 0 ∷ 0 ∷ 0 ∷ 0 ∷ 0 ∷ 0 ∷ 0 ∷ 0 ∷ 0 ∷ 0 ∷ 0 ∷ 0 ∷ 0 ∷ 0 ∷ []

pub record Bench : Type 0 where
  -- The first ten lines print what the example says.
  pub example : Answered empty first_ten_lines
  -- P1 to P11, "each from the policy after the first ten lines above"
  pub rows : EachAnswered (after_rows empty first_ten_lines) sheet
  -- P12, "from the empty one": where the lent buffer has room for them, what saving promises is the answer 0 with the length 16, the sixteen zero
  -- bytes in front, and past them the buffer as it was.
  pub saved : (out after : List ℕ) (answer size : ℕ) → 16 ≤ length out → Saves empty out after answer size → (answer ≡ 0) × (size ≡ 16) × (after ≡ sixteen_zero_bytes ++ drop 16 out)
  -- The policy after the first ten lines is the one that other statements look into.
  pub bench : after_rows empty first_ten_lines ≡ at_the_bench
