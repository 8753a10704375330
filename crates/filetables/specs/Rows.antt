-- A file as rows of words and bytes, for reading. Assumes nothing.
use Rattle.std.specs.Prelude.{List, [], ◌∷◌, ◌++◌, ℕ}
use Prim.Native.String.{String}

infixl 90 ◌⇒◌
-- A row: what is written, in words, and its bytes.
pub data Row : Type 0 where
  ◌⇒◌ : String → List ℕ → Row

-- The bytes of all rows, one after another.
abbrev pub bytes_in : List Row → List ℕ
bytes_in [] = []
bytes_in ((words ⇒ bytes) ∷ rest) = bytes ++ bytes_in rest
