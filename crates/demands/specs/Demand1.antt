-- Demand 1: "After a refusal the policy, the sessions and the caller's buffers hold what they held, and the refusal's number is the one the
-- paper names." That every command and question answers, whatever it is given, is the prover's own: a function that might not return, or
-- might read or write out of bounds, is not proved. Assumes nothing.
use Rattle.std.specs.Prelude.{List, [], ◌≡◌, ℕ}
use Rattle.numbers.specs.Answers.{Answer, number_of}
use Rattle.model.specs.Model.{Model}
use Rattle.model.specs.Questions.{ask}
use Rattle.model.specs.Sheet.{Told}
use Rattle.model.specs.Step.{step}
use Rattle.model.specs.declared.Command.{Command}
use Rattle.model.specs.declared.Question.{Question}
use Rattle.policyform.specs.Promises.{Loads}

-- The number is on the sheet: it is the number of some answer.
abbrev pub OnSheet : ℕ → Type 0
OnSheet n = (a : Answer) × (n ≡ number_of a)

-- Whatever is told with another answer than 0 changes nothing and has no results, and its answer is on the sheet.
pub record Harmless (before : Model) (told : Told) : Type 0 where
  pub unchanged : (told.answer ≡ 0 → ⊥) → told.after ≡ before
  pub silent : (told.answer ≡ 0 → ⊥) → told.results ≡ []
  pub on_sheet : OnSheet told.answer

-- Every command, on any policy, with any numbers and any list; every question, with any room; every load, of any bytes.
pub record Demand1 : Type 0 where
  pub commands : (m : Model) (c : Command) (list : List ℕ) → Harmless m (step m c list)
  pub questions : (m : Model) (room : ℕ) (q : Question) → Harmless m (ask m room q)
  pub loads : (m : Model) (bytes : List ℕ) (told : Told) → Loads m bytes told → Harmless m told
  -- A question changes nothing at all.
  pub asking : (m : Model) (room : ℕ) (q : Question) → (ask m room q).after ≡ m
