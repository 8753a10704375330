-- The answer sheet has no 13, "a chain of inheritance of more than 64 roles is met": no such chain is, and nothing answers so. Assumes nothing.
use Rattle.std.specs.Prelude.{List, ◌≡◌, ℕ, ◌<◌, None}
use Rattle.numbers.specs.Answers.{Answer, number_of, answer_of}
use Rattle.hierarchy.specs.Lines.{Chain}
use Rattle.model.specs.Model.{Model}
use Rattle.model.specs.Questions.{ask}
use Rattle.model.specs.Sheet.{Told, refused}
use Rattle.model.specs.Step.{step}
use Rattle.model.specs.declared.Command.{Command}
use Rattle.model.specs.declared.Question.{Question}
use Rattle.policyform.specs.Form.{FileOf}
use Rattle.policyform.specs.Promises.{Loads}
use Rattle.demands.specs.Demand1.{OnSheet}
use Rattle.demands.specs.Reachable.{Reachable}

pub record ShorterSheet : Type 0 where
  -- "no policy reachable under demand 3 holds a chain of more than 64 roles"
  pub chains : (m : Model) → Reachable m → (n r : ℕ) → 64 < n → Chain m.juniors n r → ⊥
  -- "loading has already answered 6 by then": a file of the form whose lines hold such a chain is answered 6 and changes nothing. No answer comes
  -- before 6 there: 14 is that of bytes that are not of the form.
  pub loading : (before m : Model) (bytes : List ℕ) (told : Told) → FileOf m bytes → Loads before bytes told → (n r : ℕ) → 64 < n → Chain m.juniors n r → told ≡ refused 6 before
  -- "the number stays unused": it is no answer's number, and going back from it there is no answer.
  pub unused : (a : Answer) → number_of a ≡ 13 → ⊥
  pub names_none : answer_of 13 ≡ None
  -- "and all else stays": every other number of 0 to 15 is an answer's.
  pub others : (n : ℕ) → n < 16 → (n ≡ 13 → ⊥) → OnSheet n
  -- No command, no question and no load answers it, on any policy.
  pub commands : (m : Model) (c : Command) (list : List ℕ) → (step m c list).answer ≡ 13 → ⊥
  pub questions : (m : Model) (room : ℕ) (q : Question) → (ask m room q).answer ≡ 13 → ⊥
  pub loads : (m : Model) (bytes : List ℕ) (told : Told) → Loads m bytes told → told.answer ≡ 13 → ⊥
