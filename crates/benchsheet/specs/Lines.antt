-- Lines as commands and questions of the model, what they answer and the policy that they leave: for statements that look into that policy.
-- Assumes nothing.
use Rattle.std.specs.Prelude.{List, [], ◌∷◌, ℕ}
use Rattle.numbers.specs.declared.Role.{Role}
use Rattle.numbers.specs.declared.Session.{Session}
use Rattle.numbers.specs.declared.SetName.{SetName}
use Rattle.numbers.specs.declared.User.{User}
use Rattle.model.specs.Model.{Model, empty}
use Rattle.model.specs.Questions.{ask}
use Rattle.model.specs.Step.{step}
use Rattle.model.specs.declared.Command.{Command}
use Rattle.model.specs.declared.Command.TheVariants.{AddUser, AddRole, Assign, Grant, Inherit, MakeSet, OpenSession}
use Rattle.model.specs.declared.Kind.TheVariants.{Static}
use Rattle.model.specs.declared.Question.{Question}

-- a line: a command with its list of roles, or a question
pub data Line : Type 0 where
  command : Command → List ℕ → Line
  question : Question → Line

-- answer lines: each the answer and then the results
abbrev pub Answers : Type 0
Answers = List (List ℕ)

-- what the lines answer in turn, from a policy
unfoldable pub answers : Model → List Line → Answers
answers m [] = []
answers m (command c list ∷ rest) = ((step m c list).answer ∷ (step m c list).results) ∷ answers (step m c list).after rest
answers m (question q ∷ rest) = ((ask m 4096 q).answer ∷ (ask m 4096 q).results) ∷ answers m rest

-- the policy after the lines
unfoldable pub afterwards : Model → List Line → Model
afterwards m [] = m
afterwards m (command c list ∷ rest) = afterwards (step m c list).after rest
afterwards m (question q ∷ rest) = afterwards m rest

abbrev pub u : ℕ → User
u n = record { number = n }

abbrev pub r : ℕ → Role
r n = record { number = n }

abbrev pub s : ℕ → Session
s n = record { number = n }

abbrev pub set : ℕ → SetName
set n = record { number = n }

-- the first ten lines of the paper's example, as commands
abbrev pub first_ten : List Line
first_ten =
    command (AddUser (u 7)) []
    ∷ command (AddRole (r 0)) []
    ∷ command (AddRole (r 1)) []
    ∷ command (AddRole (r 2)) []
    ∷ command (Inherit (r 2) (r 0)) []
    ∷ command (MakeSet Static (set 0) 2) (0 ∷ 1 ∷ [])
    ∷ command (Assign (u 7) (r 2)) []
    ∷ command (Assign (u 7) (r 1)) []
    ∷ command (Grant 4 30 (r 0)) []
    ∷ command (OpenSession (u 7)) (2 ∷ [])
    ∷ []

unfoldable pub at_the_bench : Model
at_the_bench = afterwards empty first_ten
