-- The form of a script's line: the word, and each of its numbers after one space. A text is of the form exactly when it is the rendering of a word and of as many numbers as the word takes. Assumes nothing.
use Rattle.std.specs.Prelude.{Bool, true, false, ◌&&◌, List, [], ◌∷◌, ◌++◌, map, ◌≡◌, ℕ, ◌≤◌, ◌<◌, leb, ltb, length, drop}
use Rattle.decimal.specs.Decimal.{numbered, value, space}
use Rattle.words.specs.ScriptWords.{word_count, spelling, takes, which}
use Rattle.words.specs.Bytes.{same}
use Rattle.textlines.specs.Parts.{parts_of, part_at, place_past}

-- "Words are separated by one space."
unfoldable pub render : ℕ → List ℕ → List ℕ
render k ns = spelling k ++ numbered ns

-- "a line over 512 bytes answers 14"
abbrev pub longest_line : ℕ
longest_line = 512

-- "at most 65,535"
abbrev pub Small : List ℕ → Type 0
Small [] = Unit
Small (n ∷ ns) = (n < 65536) × Small ns

-- The text is the line with this word and these numbers.
pub record Written (text : List ℕ) (k : ℕ) (ns : List ℕ) : Type 0 where
  pub known : k < word_count
  pub fits : takes k (length ns) ≡ true
  pub small : Small ns
  pub short : length text ≤ longest_line
  pub is : render k ns ≡ text

-- The line that a text is, by computing: what a reader takes for its word and numbers, where writing them again gives the text. That it is the line exactly where `Written` holds, and no line exactly where that never holds, is proved (`Back`).
pub data Parsed : Type 0 where
  line : ℕ → List ℕ → Parsed
  no_line : Parsed

unfoldable pub word_in : List ℕ → ℕ
word_in text = which (part_at space text 0)

unfoldable pub numbers_in : List ℕ → List ℕ
numbers_in text = map value (parts_of space (drop (place_past space text 0) text))

abbrev pub shaped : ℕ → ℕ → Bool
shaped k count = ltb k word_count && takes k count

abbrev pub again : List ℕ → ℕ → List ℕ → Bool
again text k ns = leb (length text) longest_line && (shaped k (length ns) && same (render k ns) text)

unfoldable pub parse : List ℕ → Parsed
parse text = elim (again text (word_in text) (numbers_in text)) [ true ↦ line (word_in text) (numbers_in text) | false ↦ no_line ]
