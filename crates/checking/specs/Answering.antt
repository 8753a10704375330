-- What `check` and the question of an owner hand back, read as the model tells it. On a refusal there are no results. Assumes nothing.
use Rattle.std.specs.Prelude.{[], ◌∷◌, ℕ, Result}
use Rattle.roleset.specs.Bounded.{bit}
use Rattle.numbers.specs.declared.Refusal.{Refusal}
use Rattle.model.specs.Model.{Model}
use Rattle.model.specs.Sheet.{Told}
use Rattle.state.specs.Results.{told_of}
use Rattle.checking.specs.declared.Checked.{Checked}

-- what `check` tells over m: 1 for yes or 0 for no, and how many roles it looked at; nothing changes
abbrev pub told_checked : Model → Result Checked Refusal → Told
told_checked m x = told_of (λ c. bit c.yes ∷ c.looked ∷ []) x m

-- what the question of an owner tells over m: the owner's number, and nothing changes
abbrev pub told_owned : Model → Result ℕ Refusal → Told
told_owned m x = told_of (λ o. o ∷ []) x m
