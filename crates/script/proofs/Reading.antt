-- What a line tells, by its word and numbers. Assumes nothing.
use mathlib.Core.List.{List}
use mathlib.Core.Path.{◌≡◌, refl, sym, ap, ap₂, ◌∙◌}
use Prim.Native.Nat.{ℕ, ◌≤◌, ◌<◌}
use native.Mathlib.Omega.{arith}
use Rattle.std.proofs.Common.{Option, Some, None}
use Rattle.std.specs.Option.{option_map}
use Rattle.std.proofs.lemmas.Option.{none-some, same_Some}
use lib.ListN.{length, get_or, drop}
use Rattle.model.specs.Model.{Model}
use Rattle.words.specs.ScriptWords.{word_count, word_of}
use Rattle.words.specs.Rows.{number, named}
use Rattle.words.specs.declared.Word.{Word}
use Rattle.words.proofs.Tables.{takes-enough}
use Rattle.words.proofs.Numbers.{named-number, named_none}
use Rattle.reading.specs.Form.{Parsed, line, no_line, parse}
use Rattle.reading.specs.Holding.{held}
use Rattle.reading.specs.declared.Line.{Line}
use Rattle.meaning.specs.Meaning.{meant}
use Rattle.meaning.specs.declared.Meant.{Meant}
use Rattle.reading.proofs.Back.{parsed-written}
use Rattle.script.specs.Script.{obey, obeyed, doing}

-- the line with a word and these numbers
abbrev line-with : List ℕ → Word → Line
line-with ns w = record { word = w; numbers = ns }

-- the line that was read
pub read_right : (text : List ℕ) (l : Line) → held (parse text) ≡ Some l → parse text ≡ line (number l.word) l.numbers
read_right text l e = go (parse text) refl
  where
    at : (k : ℕ) (ns : List ℕ) (o : Option Word) → named k ≡ o → option_map (line-with ns) o ≡ Some l → line k ns ≡ line (number l.word) l.numbers
    at k ns None g h = absurd (none-some l h)
    at k ns (Some w) g h =
        let same_line : line-with ns w ≡ l = same_Some _ _ h in
        ap₂ line (sym (named-number k w g) ∙ ap (λ (l : Line). number l.word) same_line) (ap (λ (l : Line). l.numbers) same_line)

    go : (p : Parsed) → parse text ≡ p → parse text ≡ line (number l.word) l.numbers
    go no_line h = absurd (none-some l (sym (ap held h) ∙ e))
    go (line k ns) h = h ∙ at k ns (named k) refl (sym (ap held h) ∙ e)

pub read-wrong : (text : List ℕ) → held (parse text) ≡ None → parse text ≡ no_line
read-wrong text e = go (parse text) refl
  where
    at : (ns : List ℕ) (o : Option Word) → option_map (line-with ns) o ≡ None → o ≡ None
    at ns None h = refl
    at ns (Some w) h = absurd (none-some _ (sym h))

    go : (p : Parsed) → parse text ≡ p → parse text ≡ no_line
    go no_line h = h
    go (line k ns) h = let known : k < word_count = (parsed-written text k ns h).known in absurd (omega (arith, named_none k (at ns (named k) (sym (ap held h) ∙ e))))

module _ (text : List ℕ) (l : Line) (r : parse text ≡ line (number l.word) l.numbers) where
  pub enough : (word_of (number l.word)).numbers ≤ length l.numbers
  enough = takes-enough (number l.word) (length l.numbers) (parsed-written text (number l.word) l.numbers r).fits

  -- what the text tells: what its command or question tells
  pub obeys : (m : Model) (x : Option Meant) → x ≡ meant (number l.word) (get_or l.numbers 0 0) (get_or l.numbers 1 0) (get_or l.numbers 2 0) → obey m text ≡ doing m x (drop (word_of (number l.word)).numbers l.numbers)
  unfolding obey
  obeys m x e = ap (obeyed m) r ∙ ap (λ (o : Option Meant). doing m o (drop (word_of (number l.word)).numbers l.numbers)) (sym e)
