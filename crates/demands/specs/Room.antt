-- "Its buffers hold the longest result, so it never prints 15." Assumes nothing.
use Rattle.std.specs.Prelude.{List, ◌≡◌, ℕ}
use Rattle.model.specs.Model.{Model}
use Rattle.model.specs.Questions.{ask}
use Rattle.model.specs.Step.{step}
use Rattle.model.specs.declared.Command.{Command}
use Rattle.model.specs.declared.Question.{Question}

-- No command is ever answered 15, and no question that is asked with room for 4,096 results, the number of permissions.
pub record NeverShort : Type 0 where
  pub commands : (m : Model) (c : Command) (list : List ℕ) → (step m c list).answer ≡ 15 → ⊥
  pub questions : (m : Model) (q : Question) → (ask m 4096 q).answer ≡ 15 → ⊥
