-- The laws of numbers in decimal: what is written is read back, is short, and holds digits alone. Assumes nothing.
use mathlib.Core.Bool.{Bool, true, false}
use mathlib.Core.List.{List, [], ◌∷◌, ◌++◌, append_assoc, append-nil}
use mathlib.Core.Path.{◌≡◌, refl, sym, ap, ap₂, ◌∙◌}
use Prim.Native.Nat.{ℕ, ◌+◌, ◌*◌, ◌/◌, ◌%◌, ◌≤◌, ◌<◌}
use native.Mathlib.Numerals.{add-one}
use native.Mathlib.Omega.{arith}
use native.Mathlib.Decide.{dec_lt}
use lib.Dec.{leb}
use lib.ListN.{length, get_or, take, length-append}
use lib.Seq.{take-suc}
use borrow.Author.Tests.{le-leb, lt-leb}
use Rattle.decimal.specs.Decimal.{digit, lead, decimal, numbered, taken, taken_from, value, space}

-- ---- how long a number is

pub lead-there : (p n : ℕ) → p ≤ n → lead p n ≡ digit p n ∷ []
unfolding lead
lead-there p n h = rw (le-leb p n h, lead)

pub lead-gone : (p n : ℕ) → n < p → lead p n ≡ []
unfolding lead
lead-gone p n h = rw (lt-leb p n h, lead)

pub lead-short : (p n : ℕ) → length (lead p n) ≤ 1
unfolding lead
lead-short p n = go (leb p n)
  where
    go : (t : Bool) → length {A = ℕ} (elim t [ true ↦ digit p n ∷ [] | false ↦ [] ]) ≤ 1
    go true = omega arith
    go false = omega arith

-- 1 to 5 digits
pub decimal-long : (n : ℕ) → 1 ≤ length (decimal n)
unfolding decimal
decimal-long n = simp length-append (omega arith)

pub decimal-short : (n : ℕ) → length (decimal n) ≤ 5
unfolding decimal
decimal-short n = simp length-append (omega (arith, lead-short 10000 n, lead-short 1000 n, lead-short 100 n, lead-short 10 n))

-- each number takes two bytes or more, and six or fewer
pub numbered-long : (ns : List ℕ) → 2 * length ns ≤ length (numbered ns)
unfolding numbered
numbered-long [] = omega arith
numbered-long (n ∷ ns) = simp length-append (omega (arith, decimal-long n, numbered-long ns))

pub numbered-short : (ns : List ℕ) → length (numbered ns) ≤ 6 * length ns
unfolding numbered
numbered-short [] = omega arith
numbered-short (n ∷ ns) = simp length-append (omega (arith, decimal-short n, numbered-short ns))

-- ---- a number more

numbered-append : (a b : List ℕ) → numbered (a ++ b) ≡ numbered a ++ numbered b
unfolding numbered
numbered-append [] b = refl
numbered-append (n ∷ a) b = ap (λ (l : List ℕ). (space ∷ decimal n) ++ l) (numbered-append a b) ∙ sym (append_assoc (space ∷ decimal n) (numbered a) (numbered b))

pub numbered_next : (l : List ℕ) (i : ℕ) → i < length l → numbered (take (i + 1) l) ≡ numbered (take i l) ++ ((space ∷ []) ++ decimal (get_or l i 0))
unfolding numbered
numbered_next l i h = rw (add-one i, take-suc l i 0 h) (numbered-append (take i l) (get_or l i 0 ∷ []) ∙ ap (λ (x : List ℕ). numbered (take i l) ++ x) (append-nil (space ∷ decimal (get_or l i 0))))

-- ---- what is written is read back

-- the byte of a digit is taken as the digit
digit-taken : (d : ℕ) → d < 10 → (48 + d) % 16 ≡ d
digit-taken d h = omega arith

whole : (m : ℕ) → m < 65536 → (10 * (m / 10) + m % 10) % 65536 ≡ m
whole m h = let e : 10 * (m / 10) + m % 10 ≡ m = omega arith in rw e (omega arith)

-- all but the last digit of m, and then the last one
next : (q m : ℕ) → q ≡ m / 10 → m < 65536 → taken q (48 + m % 10) ≡ m
next q m e h = ap₂ (λ (x y : ℕ). (10 * x + y) % 65536) e (digit-taken (m % 10) (omega arith)) ∙ whole m h

module _ (n : ℕ) (h : n < 65536) where
  first : taken 0 (digit 10000 n) ≡ n / 10000
  first = next 0 (n / 10000) (omega arith) (omega arith)

  second : taken (n / 10000) (digit 1000 n) ≡ n / 1000
  second = next (n / 10000) (n / 1000) (omega arith) (omega arith)

  third : taken (n / 1000) (digit 100 n) ≡ n / 100
  third = next (n / 1000) (n / 100) (omega arith) (omega arith)

  fourth : taken (n / 100) (digit 10 n) ≡ n / 10
  fourth = next (n / 100) (n / 10) (omega arith) (omega arith)

  fifth : taken (n / 10) (digit 1 n) ≡ n
  fifth = let e : n / 1 ≡ n = omega arith in ap (λ (m : ℕ). taken (n / 10) (48 + m % 10)) e ∙ next (n / 10) n refl h

  -- from each place on
  from_units : taken_from (n / 10) (digit 1 n ∷ []) ≡ n
  unfolding taken_from
  from_units = fifth

  from_tens : taken_from (n / 100) (digit 10 n ∷ digit 1 n ∷ []) ≡ n
  unfolding taken_from
  from_tens = ap (λ (v : ℕ). taken v (digit 1 n)) fourth ∙ fifth

  from_hundreds : taken_from (n / 1000) (digit 100 n ∷ digit 10 n ∷ digit 1 n ∷ []) ≡ n
  unfolding taken_from
  from_hundreds = ap (λ (v : ℕ). taken (taken v (digit 10 n)) (digit 1 n)) third ∙ ap (λ (v : ℕ). taken v (digit 1 n)) fourth ∙ fifth

  from_thousands : taken_from (n / 10000) (digit 1000 n ∷ digit 100 n ∷ digit 10 n ∷ digit 1 n ∷ []) ≡ n
  unfolding taken_from
  from_thousands =
      ap (λ (v : ℕ). taken (taken (taken v (digit 100 n)) (digit 10 n)) (digit 1 n)) second
      ∙ ap (λ (v : ℕ). taken (taken v (digit 10 n)) (digit 1 n)) third ∙ ap (λ (v : ℕ). taken v (digit 1 n)) fourth ∙ fifth

-- the first digit of five
five : (n : ℕ) → n < 65536 → taken_from 0 (digit 10000 n ∷ digit 1000 n ∷ digit 100 n ∷ digit 10 n ∷ digit 1 n ∷ []) ≡ n
unfolding taken_from
five n h = ap (λ (v : ℕ). taken_from v (digit 1000 n ∷ digit 100 n ∷ digit 10 n ∷ digit 1 n ∷ [])) (first n h) ∙ from_thousands n h

-- "at most 65,535": every such number is read back from its decimal form
pub value-decimal : (n : ℕ) → n < 65536 → value (decimal n) ≡ n
unfolding decimal
value-decimal n h = go (dec_lt n 10) (dec_lt n 100) (dec_lt n 1000) (dec_lt n 10000)
  where
    go : Dec (n < 10) → Dec (n < 100) → Dec (n < 1000) → Dec (n < 10000) → value (lead 10000 n ++ (lead 1000 n ++ (lead 100 n ++ (lead 10 n ++ (digit 1 n ∷ []))))) ≡ n
    go (yes a) b c d =
        let z : n / 10 ≡ 0 = omega arith in
        rw (lead-gone 10000 n (omega arith), lead-gone 1000 n (omega arith), lead-gone 100 n (omega arith), lead-gone 10 n a) (ap (λ (v : ℕ). taken_from v (digit 1 n ∷ [])) (sym z) ∙ from_units n h)
    go (no a) (yes b) c d =
        let z : n / 100 ≡ 0 = omega arith in
        rw (lead-gone 10000 n (omega arith), lead-gone 1000 n (omega arith), lead-gone 100 n b, lead-there 10 n (omega arith)) (ap (λ (v : ℕ). taken_from v (digit 10 n ∷ digit 1 n ∷ [])) (sym z) ∙ from_tens n h)
    go (no a) (no b) (yes c) d =
        let z : n / 1000 ≡ 0 = omega arith in
        rw (lead-gone 10000 n (omega arith), lead-gone 1000 n c, lead-there 100 n (omega arith), lead-there 10 n (omega arith)) (ap (λ (v : ℕ). taken_from v (digit 100 n ∷ digit 10 n ∷ digit 1 n ∷ [])) (sym z) ∙ from_hundreds n h)
    go (no a) (no b) (no c) (yes d) =
        let z : n / 10000 ≡ 0 = omega arith in
        rw (lead-gone 10000 n d, lead-there 1000 n (omega arith), lead-there 100 n (omega arith), lead-there 10 n (omega arith)) (ap (λ (v : ℕ). taken_from v (digit 1000 n ∷ digit 100 n ∷ digit 10 n ∷ digit 1 n ∷ [])) (sym z) ∙ from_thousands n h)
    go (no a) (no b) (no c) (no d) =
        rw (lead-there 10000 n (omega arith), lead-there 1000 n (omega arith), lead-there 100 n (omega arith), lead-there 10 n (omega arith)) (five n h)
