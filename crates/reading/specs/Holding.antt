-- A line as the code holds it: its word, and its numbers; where a text is no line, there is none. Assumes nothing.
use Rattle.std.specs.Prelude.{true, false, List, ℕ, leb, length, Option, None}
use Rattle.std.specs.Option.{option_map}
use Rattle.words.specs.Rows.{named}
use Rattle.words.specs.declared.Word.{Word}
use Rattle.reading.specs.Form.{Parsed, line, no_line, word_in, numbers_in}
use Rattle.reading.specs.declared.Line.{Line}

-- the line with the word of a number, and these numbers
abbrev pub full : ℕ → List ℕ → Option Line
full k ns = option_map (λ (w : Word). record { word = w; numbers = ns }) (named k)

abbrev pub held : Parsed → Option Line
held (line k ns) = full k ns
held no_line = None

-- what a reader gathers, where there is room for the numbers
abbrev pub gathered : List ℕ → Option Line
gathered text = elim (leb (length (numbers_in text)) 256) [ true ↦ full (word_in text) (numbers_in text) | false ↦ None ]
