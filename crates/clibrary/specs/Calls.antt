-- What each function that a C program calls promises, beside the definitions of the paper that it goes by. Assumes nothing.
use Rattle.std.specs.Prelude.{List, [], ◌∷◌, ◌⊎◌, ◌≡◌, ℕ, ◌≤◌, ◌<◌, length, drop, Option, MatchOption}
use Rattle.std.proofs.lemmas.List.Edits.{sets}
use Rattle.model.specs.Model.{Model}
use Rattle.model.specs.Sheet.{Told}
use Rattle.policyform.specs.Promises.{SaveRefused, SaveDone}
use Rattle.script.specs.Script.{answer_text, obey}
use Rattle.state.specs.View.{view}

-- the answer line of what a line of the script tells: "the answer number and then the results, one space between", and LF
abbrev pub answer_line : Told → List ℕ
answer_line told = answer_text told.answer told.results

-- The answer line does not fit: "the lent output buffer is shorter than the whole result". Nothing is obeyed, nothing is written, and the length
-- is 0, which no answer line has. `out` is the lent buffer, and l the state after the call.
pub record NotObeyed (before : Model) (told : Told) (out after : List ℕ) (size : ℕ) (l : List ℕ) : Type 0 where
  pub short : length out < length (answer_line told)
  pub no_length : size ≡ 0
  pub untouched : after ≡ out
  pub unchanged : view l ≡ before

-- The answer line fits: it stands at the front of the buffer, bytes past it are as they were, and the policy and sessions are what the line tells.
pub record Obeyed (told : Told) (out after : List ℕ) (size : ℕ) (l : List ℕ) : Type 0 where
  pub fits : length (answer_line told) ≤ length out
  pub long : size ≡ length (answer_line told)
  pub stored : after ≡ sets out 0 (answer_line told)
  pub state : view l ≡ told.after

-- A line that is obeyed whatever the buffer: its answer line is put where it fits, and else the buffer is as it was.
abbrev pub Tries : Told → List ℕ → List ℕ → Option ℕ → List ℕ → Type 0
Tries told out after size l = MatchOption size ((length out < length (answer_line told)) × (after ≡ out) × (view l ≡ told.after)) (λ n. Obeyed told out after n l)

-- One line of the script, obeyed in a buffer of any length.
abbrev pub Obeys : Model → Told → List ℕ → List ℕ → ℕ → List ℕ → Type 0
Obeys before told out after size l = NotObeyed before told out after size l ⊎ Obeyed told out after size l

-- "Its buffers hold the longest result": with a room of 24,582 bytes every line is obeyed, whatever the policy and the sessions are.
pub record LongestAnswer : Type 0 where
  pub holds : (m : Model) (text : List ℕ) → length (answer_line (obey m text)) ≤ 24582
  -- a command's answer line has 12 bytes at most: a line with a longer one changes nothing
  pub commands : (m : Model) (text : List ℕ) → 12 < length (answer_line (obey m text)) → (obey m text).after ≡ m

-- the place of a result: it holds the first of the results, and is as it was where there is none
abbrev pub placed : List ℕ → ℕ → ℕ
placed [] before = before
placed (result ∷ rest) before = result

-- What `check` tells: the answer's number, and its two results where the caller says. "Every refusal changes nothing in .. lent buffers, and gives no
-- results."
pub record ChecksAt (told : Told) (before after looked_before looked_after answer : ℕ) : Type 0 where
  pub answered : answer ≡ told.answer
  pub result : after ≡ placed told.results before
  pub looked : looked_after ≡ placed (drop 1 told.results) looked_before

-- what a load tells that answers a and leaves the state l
abbrev pub loaded : ℕ → List ℕ → Told
loaded a l = record { answer = a; results = []; after = view l }

-- A refused save leaves the place of the length as it was.
pub record NotSaved (m : Model) (out after : List ℕ) (before size answer : ℕ) : Type 0 where
  pub refused : SaveRefused m out after answer 0
  pub kept : size ≡ before

-- "Saving answers 15 or 0 with the length, and bytes past that length are untouched."
abbrev pub SavesAt : Model → List ℕ → List ℕ → ℕ → ℕ → ℕ → Type 0
SavesAt m out after before size answer = NotSaved m out after before size answer ⊎ SaveDone m out after answer size
