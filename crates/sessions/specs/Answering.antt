-- What `session` hands back, read as the model tells it. On a refusal there are no results. Assumes nothing.
use Rattle.std.specs.Prelude.{List, [], ◌∷◌, ℕ, Result}
use Rattle.numbers.specs.declared.Refusal.{Refusal}
use Rattle.numbers.specs.declared.Session.{Session}
use Rattle.model.specs.Sheet.{Told}
use Rattle.state.specs.View.{view}
use Rattle.state.specs.Results.{told_of}

-- what `session` tells that leaves the state l: the number of the session that was opened, and the policy and sessions after it
abbrev pub told_opened : Result Session Refusal → List ℕ → Told
told_opened x l = told_of (λ s. s.number ∷ []) x (view l)
