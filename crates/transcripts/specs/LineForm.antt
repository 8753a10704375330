-- The form of a script's line, byte by byte, in the paper's words. Assumes nothing.
use Rattle.std.specs.Prelude.{true, false, List, [], ◌∷◌, ◌++◌, ◌↔◌, ◌≡◌, ℕ, ◌+◌, ◌*◌, ◌-◌, ◌≤◌, ◌<◌, length, get_or}
use Rattle.decimal.specs.Decimal.{decimal}
use Rattle.words.specs.ScriptWords.{word_of, word_count}
use Rattle.reading.specs.Form.{line, no_line, parse}

-- ---- a number

-- every byte is a digit: the byte of `0` is 48, that of `9` is 57
abbrev pub Digits : List ℕ → Type 0
Digits [] = Unit
Digits (b ∷ rest) = (48 ≤ b) × (b ≤ 57) × Digits rest

-- the value of digits by the usual rule: what stands before a digit counts ten times as much
abbrev pub value_after : ℕ → List ℕ → ℕ
value_after before [] = before
value_after before (b ∷ rest) = value_after (10 * before + (b - 48)) rest

-- "A number is 1 to 5 digits, at most 65,535, with no leading zero except 0 itself." The text is the number n.
pub record NumberForm (text : List ℕ) (n : ℕ) : Type 0 where
  pub digits : Digits text
  pub least : 1 ≤ length text
  pub most : length text ≤ 5
  pub small : n ≤ 65535
  pub leading : get_or text 0 0 ≡ 48 → length text ≡ 1
  pub is : value_after 0 text ≡ n

-- ---- a line

-- the texts are these numbers, one after another
abbrev pub NumberForms : List (List ℕ) → List ℕ → Type 0
NumberForms [] [] = Unit
NumberForms [] (n ∷ ns) = ⊥
NumberForms (text ∷ texts) [] = ⊥
NumberForms (text ∷ texts) (n ∷ ns) = NumberForm text n × NumberForms texts ns

-- "Words are separated by one space": each text after one space, whose byte is 32
abbrev pub spaced : List (List ℕ) → List ℕ
spaced [] = []
spaced (text ∷ texts) = (32 ∷ text) ++ spaced texts

-- The text is a line: the word with the number k, these numbers, and nothing else.
pub record LineForm (text : List ℕ) (k : ℕ) (ns : List ℕ) : Type 0 where
  -- there are so many words; one that is none of them is "an unknown word"
  pub known : k < word_count
  -- no "wrong number of numbers": as many as the word takes, or that many and more where a list of roles follows
  pub exact : (word_of k).listed ≡ false → length ns ≡ (word_of k).numbers
  pub listed : (word_of k).listed ≡ true → (word_of k).numbers ≤ length ns
  -- no "number written otherwise"
  pub texts : List (List ℕ)
  pub numbers : NumberForms texts ns
  -- no "stray space or other byte"
  pub is : text ≡ (word_of k).spelling ++ spaced texts
  -- no "line over 512 bytes"
  pub short : length text ≤ 512

-- ---- what the code reads and writes

pub record LineForms : Type 0 where
  -- What is written for a number up to 65,535 has its form, and no other text has.
  pub number : (text : List ℕ) (n : ℕ) → NumberForm text n ↔ ((n ≤ 65535) × (text ≡ decimal n))
  -- A text is read as a line exactly where it has that line's form,
  pub read : (text : List ℕ) (k : ℕ) (ns : List ℕ) → LineForm text k ns ↔ (parse text ≡ line k ns)
  -- and as none exactly where it has the form of none.
  pub unread : (text : List ℕ) → ((k : ℕ) (ns : List ℕ) → LineForm text k ns → ⊥) ↔ (parse text ≡ no_line)
