-- What the functions of the script hand back, read as the definitions tell it. Assumes nothing.
use Rattle.std.specs.Prelude.{List, ◌≡◌, ℕ, eqb}
use Rattle.model.specs.Sheet.{Told}
use Rattle.state.specs.View.{view}
use Rattle.text.specs.Putting.{Put}
use Rattle.textlines.specs.Parts.{part_at, place_past}
use Rattle.textlines.specs.Tallies.{counted}
use Rattle.script.specs.Script.{answer_text, obey, line_feed}
use Rattle.script.specs.declared.Answered.{Answered}
use Rattle.script.specs.declared.Progress.{Progress}
use Rattle.script.specs.declared.Turned.{Turned}

-- What was told: its text stands at the front of the lent buffer, and ends there at `len`; whether the answer is 0.
pub record Puts (told : Told) (before after : List ℕ) (x : Answered) : Type 0 where
  pub text : Put before 0 (answer_text told.answer told.results) after x.len
  pub ok : x.ok ≡ eqb told.answer 0

-- The same, and the policy and sessions after it are those of the state l.
pub record Answers (told : Told) (before after : List ℕ) (x : Answered) (l : List ℕ) : Type 0 where
  pub puts : Puts told before after x
  pub state : view l ≡ told.after

-- what the line at the place tells, asked of the state l
abbrev pub told_at : List ℕ → List ℕ → Progress → Told
told_at script l p = obey (view l) (part_at line_feed script p.at)

-- One line of a script: what it puts, how far the script has run then, and the state after it.
pub record Turns (script l : List ℕ) (p : Progress) (before after : List ℕ) (x : Turned) (next : List ℕ) : Type 0 where
  pub text : Put before 0 (answer_text (told_at script l p).answer (told_at script l p).results) after x.len
  pub place : x.next.at ≡ place_past line_feed script p.at
  pub tally : x.next.tally ≡ counted p.tally (eqb (told_at script l p).answer 0)
  pub state : view next ≡ (told_at script l p).after
