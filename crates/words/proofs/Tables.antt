-- What holds of every word, each by one test that is computed over all of them. Assumes nothing.
use mathlib.Core.Bool.{Bool, true, false}
use mathlib.Core.List.{List, [], ◌∷◌, map}
use mathlib.Core.Path.{◌≡◌, refl, sym, ap, ◌∙◌}
use Prim.Native.Nat.{ℕ, zero, suc, ◌≤◌, ◌<◌}
use native.Mathlib.Nat.{not-suc-le-zero, le_of_suc-le-suc}
use native.Mathlib.Omega.{arith}
use lib.Dec.{T, eqb, ltb, leb}
use lib.ListN.{length, get_or, get_or-eq_default}
use borrow.Author.Tests.{ltb-true, ltb-false, leb-true, eqb-true}
use Rattle.words.specs.ScriptWords.{Word, words, word_count, words_count, word_of, spelling, fitting, takes, which, place_in}
use Rattle.words.specs.Bytes.{same}
use Rattle.words.proofs.Table.{at, every}

-- what stands for no word
abbrev pub none : Word
none = record { spelling = []; numbers = 0; listed = false }

pub past-last : (k : ℕ) → word_count ≤ k → word_of k ≡ none
past-last k h = get_or-eq_default words none (rw words_count h)

-- within a list it does not matter what would stand past its end
pub get_d-within {ℓ} : {A : Type ℓ} (l : List A) (i : ℕ) (d e : A) → i < length l → get_or l i d ≡ get_or l i e
get_d-within [] i d e h = absurd (not-suc-le-zero h)
get_d-within (x ∷ l) zero d e h = refl
get_d-within (x ∷ l) (suc i) d e h = get_d-within l i d e (le_of_suc-le-suc h)

-- a number is that of a word, or past the last
pub cases : (P : ℕ → Type 0) → ((k : ℕ) → k < word_count → P k) → ((k : ℕ) → word_count ≤ k → P k) → (k : ℕ) → P k
cases P p q k = go (ltb k word_count) refl
  where
    go : (t : Bool) → ltb k word_count ≡ t → P k
    go true e = p k (ltb-true k word_count e)
    go false e = q k (ltb-false k word_count e)

-- how long each word is
unfoldable pub lengths : List ℕ
lengths = map (λ (w : Word). length w.spelling) words

-- a test that passes at every word
pub over-words : (f : ℕ → Bool) → T (every (λ k x. f k) 0 lengths) → (k : ℕ) → k < word_count → f k ≡ true
unfolding lengths words
over-words f t k h = truth (f k) (at (λ k x. f k) lengths t k h)
  where
    truth : (b : Bool) → T b → b ≡ true
    truth true t = refl
    truth false t = absurd t

-- whatever the number, its word is short, and takes few numbers
pub spelling-short : (k : ℕ) → length (spelling k) < 15
unfolding lengths spelling words
spelling-short =
    cases (λ k. length (spelling k) < 15)
    (λ k h. ltb-true _ _ (over-words (λ k. ltb (length (spelling k)) 15) tt k h))
    (λ k h. rw (past-last k h) (omega arith))

pub numbers-few : (k : ℕ) → (word_of k).numbers < 16
unfolding lengths words
numbers-few =
    cases (λ k. (word_of k).numbers < 16)
    (λ k h. ltb-true _ _ (over-words (λ k. ltb (word_of k).numbers 16) tt k h))
    (λ k h. rw (past-last k h) (omega arith))

-- Each word is found at its own number, so no two are alike.
pub which-spelling : (k : ℕ) → k < word_count → which (spelling k) ≡ k
unfolding lengths which place_in spelling words same
which-spelling k h = eqb-true _ _ (over-words (λ k. eqb (which (spelling k)) k) tt k h)

-- what a word takes, by whether a list follows
pub fits : (w : Word) (n : ℕ) (t : Bool) → w.listed ≡ t → fitting w n ≡ elim t [ true ↦ leb w.numbers n | false ↦ eqb n w.numbers ]
fits w n t e = ap (λ (t : Bool). elim t [ true ↦ leb w.numbers n | false ↦ eqb n w.numbers ]) e

-- a word that takes so many numbers has that many before its list
pub takes-enough : (k n : ℕ) → takes k n ≡ true → (word_of k).numbers ≤ n
unfolding takes
takes-enough k n e = go (word_of k).listed refl
  where
    go : (t : Bool) → (word_of k).listed ≡ t → (word_of k).numbers ≤ n
    go true p = leb-true (word_of k).numbers n (sym (fits (word_of k) n true p) ∙ e)
    go false p = omega (arith, eqb-true n (word_of k).numbers (sym (fits (word_of k) n false p) ∙ e))
