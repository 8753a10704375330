-- A number that is read as a refusal. Assumes nothing.
use Rattle.std.specs.Prelude.{◌≡◌, ℕ, Result, MatchResult}
use Rattle.numbers.specs.Answers.{refusal_number}
use Rattle.numbers.specs.declared.Refusal.{Refusal}
use Rattle.numbers.specs.declared.NoRefusal.{NoRefusal}

-- a number read as a refusal: the one that has the number, or that none has it
abbrev pub Refuses : ℕ → Result Refusal NoRefusal → Type 0
Refuses n r = MatchResult r (λ e. refusal_number e ≡ n) (λ none. (none.0 ≡ n) × ((e : Refusal) → refusal_number e ≡ n → ⊥))
