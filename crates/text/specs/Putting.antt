-- Writing a text into a lent buffer. Assumes nothing.
use Rattle.std.specs.Prelude.{List, ◌≡◌, ℕ, ◌+◌, ◌-◌, min, length}
use Rattle.std.proofs.lemmas.List.Edits.{sets}

-- The text stands in the buffer from the place on, as far as the buffer reaches, and the other places are untouched. The next place is the one past as much of the text as the buffer holds.
pub record Put (before : List ℕ) (at : ℕ) (text after : List ℕ) (next : ℕ) : Type 0 where
  pub holds : after ≡ sets before at text
  pub ends : next ≡ at + min (length text) (length before - at)
