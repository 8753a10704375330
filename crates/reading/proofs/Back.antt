-- What is written is read back: a line is the rendering of its word and numbers, and of no others. Assumes nothing.
use mathlib.Core.Bool.{Bool, true, false, ◌&&◌, not}
use mathlib.Core.List.{List, [], ◌∷◌, ◌++◌, map, append-nil}
use mathlib.Core.Path.{◌≡◌, refl, sym, ap, ap₂, ◌∙◌}
use Prim.Native.Nat.{ℕ, suc, ◌≤◌, ◌<◌}
use native.Mathlib.Numerals.{add-one}
use native.Mathlib.Omega.{arith}
use lib.Dec.{eqb, leb, ltb}
use lib.ListN.{length, drop}
use lib.Seq.{drop-append-add}
use borrow.Author.Tests.{ne_eqb, le-leb, leb-true, lt-ltb, ltb-true, not-true}
use Rattle.decimal.specs.Decimal.{digit, lead, decimal, numbered, value, taken, taken_from, space}
use Rattle.decimal.proofs.Laws.{value-decimal, decimal-long}
use Rattle.words.specs.ScriptWords.{spelling, which, word_count, words}
use Rattle.words.proofs.Laws.{and-true, same-equal, same_refl}
use Rattle.words.proofs.Tables.{which-spelling, lengths, over-words}
use Rattle.textlines.specs.Parts.{joined, parts_of, up_to, place_past}
use Rattle.textlines.proofs.Laws.{after, at-stop, before-stop, cut, kept}
use Rattle.reading.specs.Form.{render, Small, Written, line, no_line, word_in, numbers_in, shaped, again, parse}

-- ---- a text without spaces

unfoldable pub free : List ℕ → Bool
free [] = true
free (b ∷ l) = not (eqb b space) && free l

pub both : (a b : Bool) → a ≡ true → b ≡ true → (a && b) ≡ true
both a b p q = rw (p, q)

not-space : (b : ℕ) (l : List ℕ) → free (b ∷ l) ≡ true → (eqb b space ≡ false) × (free l ≡ true)
unfolding free
not-space b l e = let h = and-true (not (eqb b space)) (free l) e in (not-true (eqb b space) h.0, h.1)

free-append : (a b : List ℕ) → free a ≡ true → free b ≡ true → free (a ++ b) ≡ true
unfolding free
free-append [] b p q = q
free-append (x ∷ a) b p q = let h = and-true (not (eqb x space)) (free a) p in both (not (eqb x space)) (free (a ++ b)) h.0 (free-append a b h.1 q)

free-byte : (x : ℕ) → 48 ≤ x → free (x ∷ []) ≡ true
unfolding free
free-byte x h = rw (ne_eqb x 32 (λ e. omega arith))

free-lead : (p n : ℕ) → free (lead p n) ≡ true
unfolding lead free
free-lead p n = go (leb p n)
  where
    go : (t : Bool) → free (elim t [ true ↦ digit p n ∷ [] | false ↦ [] ]) ≡ true
    go true = free-byte (digit p n) (omega arith)
    go false = refl

free-decimal : (n : ℕ) → free (decimal n) ≡ true
unfolding decimal
free-decimal n =
    free-append _ _ (free-lead 10000 n) (free-append _ _ (free-lead 1000 n) (free-append _ _ (free-lead 100 n) (free-append _ _ (free-lead 10 n) (free-byte (digit 1 n) (omega arith)))))

free-spelling : (k : ℕ) → k < word_count → free (spelling k) ≡ true
unfolding spelling words free lengths
free-spelling k h = over-words (λ k. free (spelling k)) tt k h

-- ---- the parts of such texts

-- up to the first space
up-free : (l m : List ℕ) → free l ≡ true → up_to space (l ++ m) ≡ l ++ up_to space m
up-free [] m e = refl
up-free (b ∷ l) m e = let h = not-space b l e in before-stop space b (l ++ m) h.0 ∙ ap (λ (x : List ℕ). b ∷ x) (up-free l m h.1)

parts_free : (l m : List ℕ) → free l ≡ true → parts_of space (l ++ (space ∷ m)) ≡ l ∷ parts_of space m
parts_free [] m e = cut space space m refl
parts_free (b ∷ l) m e = let h = not-space b l e in kept space b (l ++ (space ∷ m)) h.0 ∙ ap (joined b) (parts_free l m h.1)

parts_last : (b : ℕ) (l : List ℕ) → free (b ∷ l) ≡ true → parts_of space (b ∷ l) ≡ (b ∷ l) ∷ []
unfolding parts_of
parts_last b [] e = kept space b [] (not-space b [] e).0
parts_last b (x ∷ l) e = let h = not-space b (x ∷ l) e in kept space b (x ∷ l) h.0 ∙ ap (joined b) (parts_last x l h.1)

-- ---- the numbers of a line

-- what is left of the numbers after the first space
abbrev tail : List ℕ → List ℕ
tail [] = []
tail (n ∷ ns) = decimal n ++ numbered ns

one : (n : ℕ) (ns : List ℕ) → parts_of space (decimal n ++ numbered ns) ≡ decimal n ∷ parts_of space (tail ns)
unfolding numbered parts_of
one n [] = rw (append-nil (decimal n)) (last (decimal n) (free-decimal n) (decimal-long n))
  where
    last : (l : List ℕ) → free l ≡ true → 1 ≤ length l → parts_of space l ≡ l ∷ []
    last [] e h = absurd (omega arith)
    last (b ∷ l) e h = parts_last b l e
one n (m ∷ ns) = parts_free (decimal n) (decimal m ++ numbered ns) (free-decimal n)

numbers-back : (ns : List ℕ) → Small ns → map value (parts_of space (tail ns)) ≡ ns
unfolding parts_of
numbers-back [] s = refl
numbers-back (n ∷ ns) s = ap (map value) (one n ns) ∙ ap₂ (λ (h : ℕ) (t : List ℕ). h ∷ t) (value-decimal n s.0) (numbers-back ns s.1)

no_part : (ns : List ℕ) → up_to space (numbered ns) ≡ []
unfolding numbered up_to
no_part [] = refl
no_part (n ∷ ns) = at-stop space space (decimal n ++ numbered ns) refl

drop-one : (ns : List ℕ) → drop 1 (numbered ns) ≡ tail ns
unfolding numbered
drop-one [] = refl
drop-one (n ∷ ns) = refl

-- ---- a line

module _ (k : ℕ) (ns : List ℕ) (h : k < word_count) where
  first : up_to space (render k ns) ≡ spelling k
  unfolding render
  first = up-free (spelling k) (numbered ns) (free-spelling k h) ∙ rw (no_part ns) (append-nil (spelling k))

  pub word_back : word_in (render k ns) ≡ k
  unfolding word_in
  word_back = ap which first ∙ which-spelling k h

  left : drop (place_past space (render k ns) 0) (render k ns) ≡ tail ns
  unfolding render
  left =
      after space (render k ns) 0
      ∙ ap (λ (x : List ℕ). drop (suc (length x)) (render k ns)) first
      ∙ ap (λ (n : ℕ). drop n (render k ns)) (sym (add-one (length (spelling k))))
      ∙ drop-append-add (spelling k) (numbered ns) 1 ∙ drop-one ns

  pub numbers_again : Small ns → numbers_in (render k ns) ≡ ns
  unfolding numbers_in
  numbers_again s = ap (λ (l : List ℕ). map value (parts_of space l)) left ∙ numbers-back ns s

-- ---- the two laws

pub accepted : (text : List ℕ) → again text (word_in text) (numbers_in text) ≡ true → parse text ≡ line (word_in text) (numbers_in text)
unfolding parse
accepted text e = rw (e, parse)

-- A text that is the line with this word and these numbers is read as that line.
pub written-parsed : (text : List ℕ) (k : ℕ) (ns : List ℕ) → Written text k ns → parse text ≡ line k ns
written-parsed text k ns w =
    accepted text (rw (k_is, ns_is) whole) ∙ ap₂ line k_is ns_is
  where
    k_is : word_in text ≡ k
    k_is = ap word_in (sym w.is) ∙ word_back k ns w.known

    ns_is : numbers_in text ≡ ns
    ns_is = ap numbers_in (sym w.is) ∙ numbers_again k ns w.known w.small

    whole : again text k ns ≡ true
    whole = both (leb (length text) 512) _ (le-leb _ _ w.short) (both (shaped k (length ns)) _ (both (ltb k word_count) _ (lt-ltb _ _ w.known) w.fits) (rw w.is (same_refl text)))

-- The numbers that a reader takes are small.
small-taken : (v : ℕ) (l : List ℕ) → v < 65536 → taken_from v l < 65536
unfolding taken_from
small-taken v [] h = h
small-taken v (b ∷ l) h = small-taken (taken v b) l (omega arith)

small-map : (ls : List (List ℕ)) → Small (map value ls)
small-map [] = tt
small-map (l ∷ ls) = (small-taken 0 l (omega arith), small-map ls)

pub small-in : (text : List ℕ) → Small (numbers_in text)
unfolding numbers_in
small-in text = small-map (parts_of space (drop (place_past space text 0) text))

-- what a text is taken for, where writing it again gives the text
once : (text : List ℕ) → again text (word_in text) (numbers_in text) ≡ true → Written text (word_in text) (numbers_in text)
once text e =
    let a = and-true (leb (length text) 512) _ e in
    let b = and-true (shaped (word_in text) (length (numbers_in text))) _ a.1 in
    let d = and-true (ltb (word_in text) word_count) _ b.0 in
    record { known = ltb-true _ _ d.0; fits = d.1; small = small-in text; short = leb-true _ _ a.0; is = same-equal _ _ b.1 }

pub refused : (text : List ℕ) → again text (word_in text) (numbers_in text) ≡ false → parse text ≡ no_line
unfolding parse
refused text e = rw (e, parse)

-- A text that is read as a line is that line.
pub parsed-written : (text : List ℕ) (k : ℕ) (ns : List ℕ) → parse text ≡ line k ns → Written text k ns
parsed-written text k ns e = go (again text (word_in text) (numbers_in text)) refl
  where
    go : (t : Bool) → again text (word_in text) (numbers_in text) ≡ t → Written text k ns
    go true p =
        let same_line : line (word_in text) (numbers_in text) ≡ line k ns = sym (accepted text p) ∙ e in
        let kk : word_in text ≡ k = cc in
        let nn : numbers_in text ≡ ns = cc in
        rw (kk, nn) at (once text p)
    go false p = let z : ◌≡◌ {A = ℕ} 0 1 = cc (refused text p) in absurd (omega arith)

-- Where a text is read as no line, it is the rendering of none: the line answers 14.
pub none_written : (text : List ℕ) → parse text ≡ no_line → (k : ℕ) (ns : List ℕ) → Written text k ns → ⊥
none_written text e k ns w = let z : ◌≡◌ {A = ℕ} 0 1 = cc (written-parsed text k ns w) in omega arith
