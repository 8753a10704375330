-- A question that is asked with room for every result: what was told stands at the front of the buffer. Assumes nothing.
use mathlib.Core.List.{List}
use mathlib.Core.Path.{◌≡◌, ap, ap₂, ◌∙◌}
use Prim.Native.Nat.{ℕ}
use native.Mathlib.Omega.{arith}
use lib.Dec.{eqb}
use lib.ListN.{take, replicate, length-replicate}
use lib.Seq.{take-append_seam}
use Rattle.std.proofs.Common.{Result}
use Rattle.numbers.specs.Answers.{number_of}
use Rattle.numbers.specs.declared.Refusal.{Refusal}
use Rattle.model.specs.Model.{Model}
use Rattle.model.specs.Questions.{ask}
use Rattle.model.specs.declared.Question.{Question}
use Rattle.state.specs.Results.{given_number}
use Rattle.text.specs.Putting.{Put}
use Rattle.reviews.specs.Reviewing.{Reviewed, AskedAny}
use Rattle.reviews.proofs.Promised.{asked-with-room}
use Rattle.script.specs.Script.{answer_text}
use Rattle.script.specs.LineAnswers.{Puts}
use Rattle.script.specs.declared.Answered.{Answered}

module _ (m : Model) (q : Question) {results : List ℕ} {r : Result ℕ Refusal} (asked : AskedAny m q (replicate 4096 0) results r) where
  reviewed : Reviewed (ask m 4096 q) (replicate 4096 0) results r
  reviewed = rw (asked-with-room m 4096 q (λ s op obj e. omega arith)) at (rw (length-replicate {A = ℕ} 4096 0) at asked)

  front : take (given_number r) results ≡ (ask m 4096 q).results
  front = ap₂ (λ (n : ℕ) (l : List ℕ). take n l) reviewed.count reviewed.buffer ∙ take-append_seam _ _

  -- their text is the text of what was told
  pub puts_told : {before after : List ℕ} {x : Answered} → Put before 0 (answer_text (number_of r) (take (given_number r) results)) after x.len → x.ok ≡ eqb (number_of r) 0 → Puts (ask m 4096 q) before after x
  puts_told p e = record { text = rw (← reviewed.answer, ← front) p; ok = e ∙ ap (λ (n : ℕ). eqb n 0) reviewed.answer }
