-- What one step of the engine hands back and leaves, read as the model tells it. Assumes nothing.
use Rattle.std.specs.Prelude.{List, [], ◌∷◌, ℕ, Option, Some, None, Result}
use Rattle.numbers.specs.declared.Refusal.{Refusal}
use Rattle.numbers.specs.declared.Session.{Session}
use Rattle.model.specs.Sheet.{Told}
use Rattle.state.specs.View.{view}
use Rattle.state.specs.Results.{told_of}

-- the results of a command: the number of the session that it opened, if it opened one
abbrev pub opened : Option Session → List ℕ
opened None = []
opened (Some s) = s.number ∷ []

-- what a step tells that leaves the state l: the answer and the results, and the policy and sessions after it
abbrev pub told_stepped : Result (Option Session) Refusal → List ℕ → Told
told_stepped x l = told_of opened x (view l)
