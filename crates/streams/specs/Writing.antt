-- What a program that prints a text piece by piece shows of each piece before it is written, and how much of a text a writer has taken. Assumes nothing.
use Rattle.std.specs.Prelude.{List, ◌≡◌, ℕ, ◌≤◌, length, take, drop}
use Rattle.std.specs.declared.option.Option.{Option}
use Rattle.std.specs.Io.KnownBytes.{Appends}

-- The bytes come next in the text, of which so many were written.
abbrev pub Next : List ℕ → ℕ → List ℕ → Type 0
Next text count bytes = bytes ≡ take (length bytes) (drop count text)

-- Where it is known what a writer holds, it holds a front of the text, and nothing else, after what it held before.
pub record WritesFront (text : List ℕ) (before after : Option (List ℕ)) : Type 0 where
  pub count : ℕ
  pub within : count ≤ length text
  pub appends : Appends before after (take count text)
