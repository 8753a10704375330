-- The numbers of a line, gathered one after another, and what follows where the text is too long or has too many. Assumes nothing.
use mathlib.Core.Bool.{Bool, true, false, and-false}
use mathlib.Core.List.{List, [], ◌∷◌, ◌++◌, map, append-nil, append_assoc}
use mathlib.Core.Path.{◌≡◌, refl, sym, ap, ap₂, ◌∙◌}
use Prim.Native.Nat.{ℕ, ◌≤◌, ◌<◌}
use native.Mathlib.Omega.{arith}
use lib.Dec.{leb}
use lib.ListN.{length, drop, length-append}
use Rattle.std.proofs.Common.{Option, Some, None}
use Rattle.std.specs.Option.{option_map}
use Rattle.std.proofs.lemmas.Option.{none-some, same_Some, slice_get_within}
use borrow.Author.Tests.{leb-true, leb-false, le-leb, lt-leb, lt-ltb, le-ltb}
use Rattle.decimal.specs.Decimal.{numbered, value, space}
use Rattle.decimal.proofs.Laws.{numbered-long}
use Rattle.words.specs.ScriptWords.{spelling, takes}
use Rattle.words.specs.Rows.{number, in_order, named}
use Rattle.words.specs.declared.Word.{Word}
use Rattle.words.proofs.Numbers.{named-number, named_none}
use Rattle.words.specs.Bytes.{same}
use Rattle.words.proofs.Laws.{same_length}
use Rattle.textlines.specs.Parts.{parts_of, part_at, place_past}
use Rattle.textlines.proofs.Laws.{parts_at, parts_none}
use Rattle.reading.specs.Form.{render, word_in, numbers_in, shaped, parse, no_line}
use Rattle.reading.specs.Holding.{held, gathered}
use Rattle.reading.specs.declared.Line.{Line}
use Rattle.reading.proofs.Back.{refused, accepted, both}

-- these numbers are gathered, and the place in the text is past them
pub record Gathers (text numbers : List ℕ) (at : ℕ) : Type 0 where
  pub room : length numbers ≤ 256
  pub so : numbers_in text ≡ numbers ++ map value (parts_of space (drop at text))

pub gathers-start : (text : List ℕ) → Gathers text [] (place_past space text 0)
unfolding numbers_in
gathers-start text = record { room = omega arith; so = refl }

pub gathers-next : (text numbers : List ℕ) (at : ℕ) → at < length text → length numbers < 256 → Gathers text numbers at
    → Gathers text (numbers ++ (value (part_at space text at) ∷ [])) (place_past space text at)
gathers-next text numbers at h p g =
    record {
      room = omega (arith, length-append numbers (value (part_at space text at) ∷ []));
      so = g.so
          ∙ ap (λ (x : List (List ℕ)). numbers ++ map value x) (parts_at space text at h)
          ∙ sym (append_assoc numbers (value (part_at space text at) ∷ []) (map value (parts_of space (drop (place_past space text at) text))));
    }

-- at the end of the text
pub gathers-end : (text numbers : List ℕ) (at : ℕ) → length text ≤ at → Gathers text numbers at → numbers_in text ≡ numbers
gathers-end text numbers at h g = g.so ∙ ap (λ (x : List (List ℕ)). numbers ++ map value x) (parts_none space text at h) ∙ append-nil numbers

-- all places are taken, and there is more text
pub gathers-over : (text numbers : List ℕ) (at : ℕ) → at < length text → 256 ≤ length numbers → Gathers text numbers at → 256 < length (numbers_in text)
gathers-over text numbers at h p g =
    let e : numbers_in text ≡ numbers ++ (value (part_at space text at) ∷ map value (parts_of space (drop (place_past space text at) text))) = g.so ∙ ap (λ (x : List (List ℕ)). numbers ++ map value x) (parts_at space text at h) in
    omega (arith, ap length e, length-append numbers (value (part_at space text at) ∷ map value (parts_of space (drop (place_past space text at) text))))

-- ---- what is gathered

-- the line with a word and these numbers
line-with : List ℕ → Word → Line
line-with ns w = record { word = w; numbers = ns }

pub gathered-unknown : (text : List ℕ) → named (word_in text) ≡ None → gathered text ≡ None
unfolding line-with
gathered-unknown text e = ap (λ (o : Option Line). elim (leb (length (numbers_in text)) 256) [ true ↦ o | false ↦ None ]) (ap (option_map (line-with (numbers_in text))) e) ∙ go (leb (length (numbers_in text)) 256)
  where
    go : (t : Bool) → elim t as (λ _. Option Line) [ true ↦ None | false ↦ None ] ≡ None
    go true = refl
    go false = refl

pub gathered_none : (text : List ℕ) → 256 < length (numbers_in text) → gathered text ≡ None
gathered_none text h = rw (lt-leb _ _ h, gathered)

pub gathered-line : (text ns : List ℕ) (w : Word) → named (word_in text) ≡ Some w → numbers_in text ≡ ns → length ns ≤ 256 → gathered text ≡ Some (record { word = w; numbers = ns })
unfolding line-with
gathered-line text ns w e f h =
    let few : length (numbers_in text) ≤ 256 = omega (arith, ap length f) in
    rw (le-leb _ _ few, gathered) (ap (option_map (line-with (numbers_in text))) e ∙ ap (λ (ns : List ℕ). Some (line-with ns w)) f)

-- the line that was gathered
pub record Gathered (text : List ℕ) (l : Line) : Type 0 where
  pub word : named (word_in text) ≡ Some l.word
  pub numbers : l.numbers ≡ numbers_in text
  pub few : length (numbers_in text) ≤ 256

pub gathered-is : (text : List ℕ) (l : Line) → gathered text ≡ Some l → Gathered text l
gathered-is text l e = go (leb (length (numbers_in text)) 256) refl (named (word_in text)) refl
  where
    go : (t : Bool) → leb (length (numbers_in text)) 256 ≡ t → (o : Option Word) → named (word_in text) ≡ o → Gathered text l
    go false f o g = absurd (none-some l (sym (gathered_none text (leb-false _ _ f)) ∙ e))
    go true f None g = absurd (none-some l (sym (gathered-unknown text g) ∙ e))
    go true f (Some w) g =
        let same_line : record { word = w; numbers = numbers_in text } ≡ l = same_Some _ _ (sym (gathered-line text (numbers_in text) w g refl (leb-true _ _ f)) ∙ e) in
        record { word = g ∙ ap (λ (l : Line). Some l.word) same_line; numbers = ap (λ (l : Line). l.numbers) (sym same_line); few = leb-true _ _ f }

-- ---- what the tests of the reader say

pub too_long : (text : List ℕ) → 512 < length text → parse text ≡ no_line
too_long text h = refused text (rw (lt-leb (length text) 512 h))

pub misshapen : (text : List ℕ) → shaped (word_in text) (length (numbers_in text)) ≡ false → parse text ≡ no_line
misshapen text e = refused text (rw e (and-false (leb (length text) 512)))

pub differs : (text : List ℕ) → same (render (word_in text) (numbers_in text)) text ≡ false → parse text ≡ no_line
differs text e = refused text (rw (e, and-false (shaped (word_in text) (length (numbers_in text)))) (and-false (leb (length text) 512)))

-- more than 256 numbers never fit a line of 512 bytes
pub too_many : (text : List ℕ) → length text ≤ 512 → 256 < length (numbers_in text) → parse text ≡ no_line
unfolding render
too_many text h p = differs text (same_length _ text (λ e. omega (arith, length-append (spelling (word_in text)) (numbered (numbers_in text)), numbered-long (numbers_in text))))

-- what is not gathered is no line
pub not_gathered : (text : List ℕ) → length text ≤ 512 → gathered text ≡ None → parse text ≡ no_line
not_gathered text h e = go (leb (length (numbers_in text)) 256) refl (named (word_in text)) refl
  where
    go : (t : Bool) → leb (length (numbers_in text)) 256 ≡ t → (o : Option Word) → named (word_in text) ≡ o → parse text ≡ no_line
    go false f o g = too_many text h (leb-false _ _ f)
    go true f None g = misshapen text (rw (le-ltb _ _ (named_none _ g)))
    go true f (Some w) g = absurd (none-some _ (sym e ∙ gathered-line text (numbers_in text) w g refl (leb-true _ _ f)))

-- the line that was gathered, by what the reader asks of it
module _ (text : List ℕ) (l : Line) (g : Gathered text l) where
  known : number l.word ≡ word_in text
  known = named-number _ _ g.word

  shape : takes (number l.word) (length l.numbers) ≡ shaped (word_in text) (length (numbers_in text))
  shape = ap₂ takes known (ap length g.numbers) ∙ sym (rw (lt-ltb _ _ (slice_get_within in_order _ _ g.word)))

  written : same (render (number l.word) l.numbers) text ≡ same (render (word_in text) (numbers_in text)) text
  written = ap₂ (λ (k : ℕ) (ns : List ℕ). same (render k ns) text) known g.numbers

  pub line-misshapen : takes (number l.word) (length l.numbers) ≡ false → held (parse text) ≡ None
  line-misshapen e = ap held (misshapen text (sym shape ∙ e))

  pub line-differs : same (render (number l.word) l.numbers) text ≡ false → held (parse text) ≡ None
  line-differs e = ap held (differs text (sym written ∙ e))

  pub line-read : length text ≤ 512 → takes (number l.word) (length l.numbers) ≡ true → same (render (number l.word) l.numbers) text ≡ true → held (parse text) ≡ Some l
  unfolding line-with
  line-read h p q =
      ap held (accepted text (both (leb (length text) 512) _ (le-leb _ _ h) (both (shaped (word_in text) (length (numbers_in text))) _ (sym shape ∙ p) (sym written ∙ q))))
      ∙ ap (option_map (line-with (numbers_in text))) g.word
      ∙ ap (λ (ns : List ℕ). Some (line-with ns l.word)) (sym g.numbers)
