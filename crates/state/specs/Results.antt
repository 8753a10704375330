-- Where a function gives results, or is refused: on a refusal there are none. Assumes nothing.
use Rattle.std.specs.Prelude.{Bool, true, false, List, [], ◌∷◌, ℕ, Result, Ok, Err}
use Rattle.numbers.specs.Answers.{refusal_number}
use Rattle.numbers.specs.declared.Refusal.{Refusal}
use Rattle.model.specs.Model.{Model}
use Rattle.model.specs.Sheet.{Told, done, refused}

-- what is told over m: where it is done, the results of what was given, and on a refusal its number and no results
unfoldable pub told_of : {A : Type 0} → (A → List ℕ) → Result A Refusal → Model → Told
told_of results (Ok x) m = done (results x) m
told_of results (Err refusal) m = refused (refusal_number refusal) m

-- the number that was given; 0 on a refusal
abbrev pub given_number : Result ℕ Refusal → ℕ
given_number (Ok n) = n
given_number (Err _) = 0

-- the one result where it is done, and no results on a refusal
abbrev pub given : Bool → ℕ → List ℕ
given true result = result ∷ []
given false result = []

-- the two results where it is done, and no results on a refusal
abbrev pub both_given : Bool → ℕ → ℕ → List ℕ
both_given true first second = first ∷ second ∷ []
both_given false first second = []
