-- A text is of a number's form exactly where it is what the writer writes for the number, and of a line's form exactly where the reader takes it for that
-- line. Assumes nothing.
use mathlib.Core.Bool.{Bool, true, false}
use mathlib.Core.List.{List, [], ◌∷◌, ◌++◌, map, append_assoc, append-nil}
use mathlib.Core.Logic.{◌↔◌}
use mathlib.Core.Path.{◌≡◌, refl, sym, ap, ap₂, subst, ◌∙◌}
use Prim.Native.Nat.{ℕ, ◌+◌, ◌*◌, ◌-◌, ◌/◌, ◌≤◌, ◌<◌}
use native.Mathlib.Decide.{dec_lt}
use native.Mathlib.Omega.{arith}
use lib.ListN.{length}
use borrow.Author.Tests.{eqb-true, eq-eqb, leb-true, le-leb}
use Rattle.decimal.specs.Decimal.{digit, lead, decimal, numbered, space}
use Rattle.decimal.proofs.Laws.{lead-there, lead-gone}
use Rattle.words.specs.ScriptWords.{word_of, spelling, takes}
use Rattle.words.proofs.Tables.{fits}
use Rattle.reading.specs.Form.{render, Small, Written, Parsed, line, no_line, parse}
use Rattle.reading.proofs.Back.{written-parsed, parsed-written, none_written}
use Rattle.transcripts.specs.LineForm.{Digits, value_after, NumberForm, NumberForms, spaced, LineForm, LineForms}

-- the first of several digits is not 0
not-leading : (a k : ℕ) → (a ≡ 48 → k ≡ 1) → (k ≡ 1 → ⊥) → 48 ≤ a → 49 ≤ a
not-leading a k h n l = go (dec_lt 48 a)
  where
    go : Dec (48 < a) → 49 ≤ a
    go (yes p) = omega arith
    go (no p) = absurd (n (h (omega arith)))

not-le : (p q : ℕ) → (p ≤ q → ⊥) → q < p
not-le p q h = go (dec_lt q p)
  where
    go : Dec (q < p) → q < p
    go (yes l) = l
    go (no l) = absurd (h (omega arith))

-- ---- what the writer writes is of the form

module _ (n : ℕ) where
  units : value_after (n / 10) (digit 1 n ∷ []) ≡ n
  units = omega arith

  tens : value_after (n / 100) (digit 10 n ∷ digit 1 n ∷ []) ≡ n
  tens = let e : 10 * (n / 100) + (digit 10 n - 48) ≡ n / 10 = omega arith in ap (λ (v : ℕ). value_after v (digit 1 n ∷ [])) e ∙ units

  hundreds : value_after (n / 1000) (digit 100 n ∷ digit 10 n ∷ digit 1 n ∷ []) ≡ n
  hundreds = let e : 10 * (n / 1000) + (digit 100 n - 48) ≡ n / 100 = omega arith in ap (λ (v : ℕ). value_after v (digit 10 n ∷ digit 1 n ∷ [])) e ∙ tens

  thousands : value_after (n / 10000) (digit 1000 n ∷ digit 100 n ∷ digit 10 n ∷ digit 1 n ∷ []) ≡ n
  thousands = let e : 10 * (n / 10000) + (digit 1000 n - 48) ≡ n / 1000 = omega arith in ap (λ (v : ℕ). value_after v (digit 100 n ∷ digit 10 n ∷ digit 1 n ∷ [])) e ∙ hundreds

-- by how far the number reaches
pub decimal-form : (n : ℕ) → n ≤ 65535 → NumberForm (decimal n) n
unfolding decimal
decimal-form n h = go (dec_lt n 10) (dec_lt n 100) (dec_lt n 1000) (dec_lt n 10000)
  where
    go : Dec (n < 10) → Dec (n < 100) → Dec (n < 1000) → Dec (n < 10000) → NumberForm (lead 10000 n ++ (lead 1000 n ++ (lead 100 n ++ (lead 10 n ++ (digit 1 n ∷ []))))) n
    go (yes a) b c d =
        rw (lead-gone 10000 n (omega arith), lead-gone 1000 n (omega arith), lead-gone 100 n (omega arith), lead-gone 10 n (omega arith))
        (record { digits = (omega arith, omega arith, tt); least = omega arith; most = omega arith; small = h; leading = λ z. refl; is = omega arith })
    go (no a) (yes b) c d =
        let none : n / 100 ≡ 0 = omega arith in
        rw (lead-gone 10000 n (omega arith), lead-gone 1000 n (omega arith), lead-gone 100 n (omega arith), lead-there 10 n (omega arith))
        (record { digits = (omega arith, omega arith, (omega arith, omega arith, tt)); least = omega arith; most = omega arith; small = h; leading = λ z. absurd (omega arith); is = ap (λ (v : ℕ). value_after v (digit 10 n ∷ digit 1 n ∷ [])) (sym none) ∙ tens n })
    go (no a) (no b) (yes c) d =
        let none : n / 1000 ≡ 0 = omega arith in
        rw (lead-gone 10000 n (omega arith), lead-gone 1000 n (omega arith), lead-there 100 n (omega arith), lead-there 10 n (omega arith))
        (record { digits = (omega arith, omega arith, (omega arith, omega arith, (omega arith, omega arith, tt))); least = omega arith; most = omega arith; small = h; leading = λ z. absurd (omega arith); is = ap (λ (v : ℕ). value_after v (digit 100 n ∷ digit 10 n ∷ digit 1 n ∷ [])) (sym none) ∙ hundreds n })
    go (no a) (no b) (no c) (yes d) =
        let none : n / 10000 ≡ 0 = omega arith in
        rw (lead-gone 10000 n (omega arith), lead-there 1000 n (omega arith), lead-there 100 n (omega arith), lead-there 10 n (omega arith))
        (record { digits = (omega arith, omega arith, (omega arith, omega arith, (omega arith, omega arith, (omega arith, omega arith, tt)))); least = omega arith; most = omega arith; small = h; leading = λ z. absurd (omega arith); is = ap (λ (v : ℕ). value_after v (digit 1000 n ∷ digit 100 n ∷ digit 10 n ∷ digit 1 n ∷ [])) (sym none) ∙ thousands n })
    go (no a) (no b) (no c) (no d) =
        let first : 10 * 0 + (digit 10000 n - 48) ≡ n / 10000 = omega arith in
        rw (lead-there 10000 n (omega arith), lead-there 1000 n (omega arith), lead-there 100 n (omega arith), lead-there 10 n (omega arith))
        (record { digits = (omega arith, omega arith, (omega arith, omega arith, (omega arith, omega arith, (omega arith, omega arith, (omega arith, omega arith, tt))))); least = omega arith; most = omega arith; small = h; leading = λ z. absurd (omega arith); is = ap (λ (v : ℕ). value_after v (digit 1000 n ∷ digit 100 n ∷ digit 10 n ∷ digit 1 n ∷ [])) first ∙ thousands n })

-- ---- what is of the form is what the writer writes

-- what stands before the last digit of n is what the writer writes for n / 10
lead-moved : (p q n : ℕ) → (p ≤ n / 10) ↔ (q ≤ n) → digit p (n / 10) ≡ digit q n → lead p (n / 10) ≡ lead q n
lead-moved p q n h e = go (dec_lt n q)
  where
    go : Dec (n < q) → lead p (n / 10) ≡ lead q n
    go (yes l) = lead-gone p (n / 10) (not-le p (n / 10) (λ m. let z = h.0 m in omega arith)) ∙ sym (lead-gone q n l)
    go (no l) = lead-there p (n / 10) (h.1 (omega arith)) ∙ ap (λ (b : ℕ). b ∷ []) e ∙ sym (lead-there q n (omega arith))

decimal-last : (n : ℕ) → 10 ≤ n → n ≤ 65535 → decimal n ≡ decimal (n / 10) ++ (digit 1 n ∷ [])
unfolding decimal
decimal-last n l h =
    rw (lead-gone 10000 (n / 10) (omega arith), lead-moved 1000 10000 n (λ z. omega arith, λ z. omega arith) (omega arith), lead-moved 100 1000 n (λ z. omega arith, λ z. omega arith) (omega arith), lead-moved 10 100 n (λ z. omega arith, λ z. omega arith) (omega arith))
    (let e : digit 10 n ≡ digit 1 (n / 10) = omega arith in
    simp append_assoc (ap (λ (x : List ℕ). lead 10000 n ++ (lead 1000 n ++ (lead 100 n ++ (x ++ (digit 1 n ∷ []))))) (lead-there 10 n l ∙ ap (λ (b : ℕ). b ∷ []) e)))

-- a digit more
one_more : (v b : ℕ) → 1 ≤ v → 48 ≤ b → b ≤ 57 → 10 * v + (b - 48) ≤ 65535 → decimal (10 * v + (b - 48)) ≡ decimal v ++ (b ∷ [])
one_more v b l low high h =
    let n = 10 * v + (b - 48) in
    let e : n / 10 ≡ v = omega arith in
    let d : digit 1 n ≡ b = omega arith in
    decimal-last n (omega arith) h ∙ ap₂ (λ (x y : ℕ). decimal x ++ (y ∷ [])) e d

value_grows : (v : ℕ) (rest : List ℕ) → v ≤ value_after v rest
value_grows v [] = omega arith
value_grows v (b ∷ rest) = let h = value_grows (10 * v + (b - 48)) rest in omega arith

-- the digits after a front, one by one
digits-after : (v : ℕ) (front rest : List ℕ) → 1 ≤ v → front ≡ decimal v → Digits rest → value_after v rest ≤ 65535 → front ++ rest ≡ decimal (value_after v rest)
digits-after v front [] l e ds h = append-nil front ∙ e
digits-after v front (b ∷ rest) l e ds h =
    let grows = value_grows (10 * v + (b - 48)) rest in
    let next : front ++ (b ∷ []) ≡ decimal (10 * v + (b - 48)) = ap (λ (x : List ℕ). x ++ (b ∷ [])) e ∙ sym (one_more v b l ds.0 ds.1 (omega arith)) in
    sym (append_assoc front (b ∷ []) rest) ∙ digits-after (10 * v + (b - 48)) (front ++ (b ∷ [])) rest (omega arith) next ds.2 h

one-digit : (a : ℕ) → 48 ≤ a → a ≤ 57 → a ∷ [] ≡ decimal (10 * 0 + (a - 48))
unfolding decimal
one-digit a low high =
    let n = 10 * 0 + (a - 48) in
    let e : digit 1 n ≡ a = omega arith in
    rw (lead-gone 10000 n (omega arith), lead-gone 1000 n (omega arith), lead-gone 100 n (omega arith), lead-gone 10 n (omega arith), e)

pub form-decimal : (text : List ℕ) (n : ℕ) → NumberForm text n → text ≡ decimal n
form-decimal [] n f = absurd (let l = f.least in omega arith)
form-decimal (a ∷ []) n f = one-digit a f.digits.0 f.digits.1 ∙ ap decimal f.is
form-decimal (a ∷ b ∷ rest) n f =
    let low = f.digits.0 in
    let first = not-leading a (length (a ∷ b ∷ rest)) f.leading (λ z. omega arith) low in
    digits-after (10 * 0 + (a - 48)) (a ∷ []) (b ∷ rest) (omega arith) (one-digit a low f.digits.1) f.digits.2 (subst (λ (k : ℕ). k ≤ 65535) (sym f.is) f.small) ∙ ap decimal f.is

-- ---- the numbers of a line

forms-written : (texts : List (List ℕ)) (ns : List ℕ) → NumberForms texts ns → (spaced texts ≡ numbered ns) × Small ns
unfolding numbered
forms-written [] [] f = (refl, tt)
forms-written [] (n ∷ ns) f = absurd f
forms-written (text ∷ texts) [] f = absurd f
forms-written (text ∷ texts) (n ∷ ns) f =
    let later = forms-written texts ns f.1 in
    let small = f.0.small in
    (ap₂ (λ (x y : List ℕ). (space ∷ x) ++ y) (form-decimal text n f.0) later.0, (omega arith, later.1))

written-forms : (ns : List ℕ) → Small ns → NumberForms (map decimal ns) ns × (numbered ns ≡ spaced (map decimal ns))
unfolding numbered
written-forms [] s = (tt, refl)
written-forms (n ∷ ns) s =
    let later = written-forms ns s.1 in
    let small = s.0 in
    ((decimal-form n (omega arith), later.0), ap (λ (l : List ℕ). (space ∷ decimal n) ++ l) later.1)

-- ---- a line

line-written : (text : List ℕ) (k : ℕ) (ns : List ℕ) → LineForm text k ns → Written text k ns
unfolding takes render spelling
line-written text k ns f =
    let w = forms-written f.texts ns f.numbers in
    record { known = f.known; fits = go (word_of k).listed refl; small = w.1; short = f.short; is = ap (λ (l : List ℕ). (word_of k).spelling ++ l) (sym w.0) ∙ sym f.is }
  where
    go : (t : Bool) → (word_of k).listed ≡ t → takes k (length ns) ≡ true
    go true e = fits (word_of k) (length ns) true e ∙ le-leb _ _ (f.listed e)
    go false e = fits (word_of k) (length ns) false e ∙ eq-eqb _ _ (f.exact e)

pub written-line : (text : List ℕ) (k : ℕ) (ns : List ℕ) → Written text k ns → LineForm text k ns
unfolding takes render spelling
written-line text k ns w =
    let x = written-forms ns w.small in
    record {
      known = w.known;
      exact = λ e. eqb-true _ _ (sym (fits (word_of k) (length ns) false e) ∙ w.fits);
      listed = λ e. leb-true _ _ (sym (fits (word_of k) (length ns) true e) ∙ w.fits);
      texts = map decimal ns;
      numbers = x.0;
      is = sym w.is ∙ ap (λ (l : List ℕ). (word_of k).spelling ++ l) x.1;
      short = w.short;
    }

pub line-parsed : (text : List ℕ) (k : ℕ) (ns : List ℕ) → LineForm text k ns → parse text ≡ line k ns
line-parsed text k ns f = written-parsed text k ns (line-written text k ns f)

pub parsed-line : (text : List ℕ) (k : ℕ) (ns : List ℕ) → parse text ≡ line k ns → LineForm text k ns
parsed-line text k ns e = written-line text k ns (parsed-written text k ns e)

unread : (text : List ℕ) → ((k : ℕ) (ns : List ℕ) → LineForm text k ns → ⊥) → parse text ≡ no_line
unread text none = go (parse text) refl
  where
    go : (p : Parsed) → parse text ≡ p → p ≡ no_line
    go (line k ns) e = absurd (none k ns (parsed-line text k ns e))
    go no_line e = refl

pub line-forms : LineForms
line-forms =
    record {
      number = λ text n. (λ f. (f.small, form-decimal text n f), λ h. subst (λ (l : List ℕ). NumberForm l n) (sym h.1) (decimal-form n h.0));
      read = λ text k ns. (line-parsed text k ns, parsed-line text k ns);
      unread = λ text. (unread text, λ e k ns f. none_written text e k ns (line-written text k ns f));
    }
