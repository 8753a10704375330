-- The answer sheet: how a command's refusals give its answer, and that a refusal changes nothing and gives no results. Assumes nothing.
use Rattle.std.specs.Prelude.{Bool, true, false, List, [], ◌∷◌, ℕ, eqb}
use Rattle.model.specs.Model.{Model}

-- a line of the answer sheet as one command asks it: the number, and whether its condition holds
pub record Refusal : Type 0 where
  pub number : ℕ
  pub holds : Bool

infixl 80 ◌when◌
abbrev pub ◌when◌ : ℕ → Bool → Refusal
n when b = record { number = n; holds = b }

-- "Where several apply, 14 comes first and then the lowest number." Each command lists its refusals in that order, and the first that
-- holds is the answer; where none holds, the answer is 0, done.
unfoldable pub verdict : List Refusal → ℕ
verdict [] = 0
verdict (r ∷ rest) = elim r.holds [ true ↦ r.number | false ↦ verdict rest ]

-- what a command or a question tells: the answer number, the results, and the policy and sessions after it
pub record Told : Type 0 where
  pub answer : ℕ
  pub results : List ℕ
  pub after : Model

-- done: these results, and the policy and sessions become `after`
abbrev pub done : List ℕ → Model → Told
done results after = record { answer = 0; results = results; after = after }

-- "Every refusal changes nothing in policy, sessions or lent buffers, and gives no results."
abbrev pub refused : ℕ → Model → Told
refused n before = record { answer = n; results = []; after = before }

-- a command with these refusals, told on `before`: refused with the first that holds, else done
unfoldable pub settle : List Refusal → Model → List ℕ → Model → Told
settle refusals before results after = elim (eqb (verdict refusals) 0) [ true ↦ done results after | false ↦ refused (verdict refusals) before ]
