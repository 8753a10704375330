-- "From the empty policy, after any commands, refused ones and accepted loads included." Assumes nothing.
use Rattle.std.specs.Prelude.{List, ℕ}
use Rattle.model.specs.Model.{Model, empty}
use Rattle.model.specs.Sheet.{Told}
use Rattle.model.specs.Step.{step}
use Rattle.model.specs.declared.Command.{Command}
use Rattle.policyform.specs.Promises.{Loads}

-- A policy can be reached if it is the empty one; if a command, done or refused, leaves it of one that can be reached; or if loading any bytes, accepted
-- or refused, leaves it of such a one.
pub data Reachable : Model → Type 0 where
  start : Reachable empty
  after : {m : Model} → Reachable m → (c : Command) (list : List ℕ) → Reachable (step m c list).after
  loaded : {m : Model} → Reachable m → (bytes : List ℕ) (told : Told) → Loads m bytes told → Reachable told.after
