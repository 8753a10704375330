-- Texts that are the same, and the number of a word. Assumes nothing.
use mathlib.Core.Bool.{Bool, true, false, ◌&&◌}
use mathlib.Core.List.{List, [], ◌∷◌}
use mathlib.Core.Path.{◌≡◌, refl, ap, ap₂, ◌∙◌}
use Prim.Native.Nat.{ℕ, suc, ◌+◌, ◌≤◌, ◌<◌}
use native.Mathlib.Numerals.{add-one}
use native.Mathlib.Omega.{arith}
use lib.Dec.{eqb}
use lib.ListN.{length, get_or, drop, drop_of_length-le}
use lib.Seq.{drop-cons}
use borrow.Author.Tests.{eqb-true, eq-eqb, ne_eqb}
use Rattle.std.specs.Str.{bytes_eq}
use Rattle.words.specs.Bytes.{same}
use Rattle.words.specs.ScriptWords.{Word, words, word_count, words_count, word_of, spelling, place_in, which}

-- ---- the same text

pub and-true : (a b : Bool) → (a && b) ≡ true → (a ≡ true) × (b ≡ true)
and-true true b e = (refl, e)
and-true false b e = let z : ◌≡◌ {A = ℕ} 0 1 = cc in absurd (omega arith)

pub same-equal : (a b : List ℕ) → same a b ≡ true → a ≡ b
unfolding same
same-equal [] [] e = refl
same-equal [] (y ∷ b) e = let z : ◌≡◌ {A = ℕ} 0 1 = cc in absurd (omega arith)
same-equal (x ∷ a) [] e = let z : ◌≡◌ {A = ℕ} 0 1 = cc in absurd (omega arith)
same-equal (x ∷ a) (y ∷ b) e = let p = and-true (eqb x y) (same a b) e in ap₂ (λ (h : ℕ) (t : List ℕ). h ∷ t) (eqb-true x y p.0) (same-equal a b p.1)

pub same_refl : (a : List ℕ) → same a a ≡ true
unfolding same
same_refl [] = refl
same_refl (x ∷ a) = rw (eq-eqb x x refl) (same_refl a)

pub same_length : (a b : List ℕ) → (length a ≡ length b → ⊥) → same a b ≡ false
same_length a b n = go (same a b) refl
  where
    go : (t : Bool) → same a b ≡ t → same a b ≡ false
    go true e = absurd (n (ap length (same-equal a b e)))
    go false e = e

-- one turn of a comparison: the next bytes differ, or are equal
module _ (a b : List ℕ) (i : ℕ) (p : i < length a) (q : i < length b) where
  apart : same (drop i a) (drop i b) ≡ (eqb (get_or a i 0) (get_or b i 0) && same (drop (i + 1) a) (drop (i + 1) b))
  unfolding same
  apart = rw (drop-cons a i 0 p, drop-cons b i 0 q, add-one i)

  pub turn_differs : (get_or a i 0 ≡ get_or b i 0 → ⊥) → same (drop i a) (drop i b) ≡ false
  turn_differs n = apart ∙ rw (ne_eqb (get_or a i 0) (get_or b i 0) n)

  pub turn_equal : get_or a i 0 ≡ get_or b i 0 → same (drop i a) (drop i b) ≡ same (drop (i + 1) a) (drop (i + 1) b)
  turn_equal e = apart ∙ rw (eq-eqb (get_or a i 0) (get_or b i 0) e)

pub all-passed : (a b : List ℕ) (i : ℕ) → length a ≤ i → length b ≤ i → same (drop i a) (drop i b) ≡ true
unfolding same
all-passed a b i p q = rw (drop_of_length-le a p, drop_of_length-le b q)

-- byte by byte, as two slices are compared
pub same_bytes : (a b : List ℕ) → same a b ≡ bytes_eq a b
unfolding same
same_bytes [] [] = refl
same_bytes [] (y ∷ b) = refl
same_bytes (x ∷ a) [] = refl
same_bytes (x ∷ a) (y ∷ b) = ap (λ (t : Bool). eqb x y && t) (same_bytes a b)

-- ---- the number of a word

here : (w : Word) (rest : List Word) (text : List ℕ) → same text w.spelling ≡ true → place_in (w ∷ rest) text ≡ 0
unfolding place_in
here w rest text e = ap (λ (t : Bool). elim t [ true ↦ 0 | false ↦ suc (place_in rest text) ]) e

later : (w : Word) (rest : List Word) (text : List ℕ) → same text w.spelling ≡ false → place_in (w ∷ rest) text ≡ suc (place_in rest text)
unfolding place_in
later w rest text e = ap (λ (t : Bool). elim t [ true ↦ 0 | false ↦ suc (place_in rest text) ]) e

module _ (text : List ℕ) (k : ℕ) (h : k < word_count) where
  next : drop k words ≡ word_of k ∷ drop (k + 1) words
  next = rw (add-one k) (drop-cons words k _ (rw words_count h))

  pub found : same text (spelling k) ≡ true → place_in (drop k words) text ≡ 0
  unfolding spelling
  found e = rw next (here (word_of k) (drop (k + 1) words) text e)

  pub passed : same text (spelling k) ≡ false → place_in (drop k words) text ≡ suc (place_in (drop (k + 1) words) text)
  unfolding spelling
  passed e = rw next (later (word_of k) (drop (k + 1) words) text e)

pub none_left : (text : List ℕ) → place_in (drop word_count words) text ≡ 0
unfolding place_in words
none_left text = refl

pub which-starts : (text : List ℕ) → place_in (drop 0 words) text ≡ which text
unfolding which
which-starts text = refl
