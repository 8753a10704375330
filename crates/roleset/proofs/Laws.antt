-- Laws of role sets: members after each operation, extensionality, counts. Assumes nothing.
use mathlib.Core.Bool.{Bool, true, false, not, ◌&&◌, ◌||◌, or-false, and-false, and-true}
use mathlib.Core.Logic.{◌⊎◌, inl, inr}
use mathlib.Core.Path.{◌≡◌, refl, sym, ap, ap₂, ◌∙◌, subst}
use Prim.Native.Nat.{ℕ, zero, suc, ◌+◌, ◌*◌, ◌/◌, ◌%◌, ◌^◌, ◌-◌, ◌≤◌, ◌<◌, max, min}
use native.Mathlib.Omega.{arith}
use native.Mathlib.Decide.{dec_lt}
use native.Mathlib.Nat.{pow-suc, pow-succ', mod-lt, zero-div, div-eq_of_lt, div-lt_iff_lt-mul, lt_of_lt_of_le}
use lib.Dec.{eqb}
use lib.Pow.{high, low, split, field, mod-mod-pow, pow_pos, pow_mono}
use lib.Bits.{bit_and, bit_or, or_shr, and_shr, or_step, and_step}
use borrow.Author.Tests.{eq-eqb, ne_eqb}
use Rattle.roleset.specs.Bounded.{bit, some, tally}
use Rattle.roleset.specs.Roles.{has, pack, those, with, without, union, common, minus, subset, is_empty, count}
use Rattle.roleset.proofs.BoundedLaws.{clash, and_left, and_right, or_left, or_right, not_yes, yes-not, last-or-below, some-elim, some-none, some-false, every-intro, every-elim, tally-le, tally-mono, tally-ext, tally-none, tally-change, tally-either}

-- ---- bit k of a number

-- a number's last binary digit is 0 or 1
pub digit : (n : ℕ) → (n % 2 ≡ 0) ⊎ (n % 2 ≡ 1)
digit n = go (n % 2) refl
  where
    go : (d : ℕ) → n % 2 ≡ d → (n % 2 ≡ 0) ⊎ (n % 2 ≡ 1)
    go zero e = inl e
    go (suc d) e = inr (omega arith)

-- bit k is in the digits below n, for k below n
pub has-mod : (s n k : ℕ) → k < n → has (s % 2 ^ n) k ≡ has s k
unfolding has
has-mod s n k h = ap (λ (x : ℕ). eqb x 1) (sym (field (s % 2 ^ n) 1 k) ∙ ap (λ (x : ℕ). x / 2 ^ k) same ∙ field s 1 k)
  where
    same : s % 2 ^ n % 2 ^ (1 + k) ≡ s % 2 ^ (1 + k)
    same = let e : n ≡ (n - (1 + k)) + (1 + k) = omega arith in subst (λ (x : ℕ). s % 2 ^ x % 2 ^ (1 + k) ≡ s % 2 ^ (1 + k)) (sym e) (mod-mod-pow s (n - (1 + k)) (1 + k))

bit-digit : (b : Bool) → eqb (bit b % 2) 1 ≡ b
bit-digit true = refl
bit-digit false = refl

pub digit-bit : (d : ℕ) → d < 2 → d ≡ bit (eqb (d % 2) 1)
digit-bit zero h = refl
digit-bit (suc zero) h = refl
digit-bit (suc (suc d)) h = absurd (omega arith)

pub has-top : (b : Bool) (r n : ℕ) → r < 2 ^ n → has (bit b * 2 ^ n + r) n ≡ b
unfolding has
has-top b r n h = rw (high (bit b) n h) (bit-digit b)

pub has-low : (b : Bool) (r n k : ℕ) → r < 2 ^ n → k < n → has (bit b * 2 ^ n + r) k ≡ has r k
has-low b r n k h l = sym (has-mod (bit b * 2 ^ n + r) n k l) ∙ ap (λ (x : ℕ). has x k) (low (bit b) n h)

-- ---- a set given by a test

pack-small : (n : ℕ) (f : ℕ → Bool) → pack n f < 2 ^ n
unfolding pack
pack-small zero f = omega arith
pack-small (suc n) f = rw pow-suc (go (f n) (pack-small n f))
  where
    go : (b : Bool) → pack n f < 2 ^ n → bit b * 2 ^ n + pack n f < 2 ^ n * 2
    go true h = omega arith
    go false h = omega (arith, pow_pos n)

has-pack : (n : ℕ) (f : ℕ → Bool) (k : ℕ) → k < n → has (pack n f) k ≡ f k
unfolding pack
has-pack zero f k h = absurd (omega arith)
has-pack (suc n) f k h = go (last-or-below k n h) (has-pack n f k)
  where
    go : (k ≡ n) ⊎ (k < n) → (k < n → has (pack n f) k ≡ f k) → has (bit (f n) * 2 ^ n + pack n f) k ≡ f k
    go (inl p) ih = rw p (has-top (f n) (pack n f) n (pack-small n f))
    go (inr p) ih = has-low (f n) (pack n f) n k (pack-small n f) p ∙ ih p

pack-ext : (n : ℕ) (f g : ℕ → Bool) → ((k : ℕ) → k < n → f k ≡ g k) → pack n f ≡ pack n g
unfolding pack
pack-ext zero f g h = refl
pack-ext (suc n) f g h = ap₂ (λ (x : Bool) (y : ℕ). bit x * 2 ^ n + y) (h n (omega arith)) (pack-ext n f g (λ k l. h k (omega arith)))

-- a number below 2 ^ n is the set of its members
packed : (n s : ℕ) → s < 2 ^ n → pack n (has s) ≡ s
unfolding pack has
packed zero s h = omega arith
packed (suc n) s h = go (packed n (s % 2 ^ n) (mod-lt s (pow_pos n)))
  where
    top : s / 2 ^ n ≡ bit (has s n)
    top = digit-bit (s / 2 ^ n) ((div-lt_iff_lt-mul (pow_pos n)).1 (subst (λ (x : ℕ). s < x) (pow-succ' 2 n) h))

    go : pack n (has (s % 2 ^ n)) ≡ s % 2 ^ n → bit (has s n) * 2 ^ n + pack n (has s) ≡ s
    go ih = ap₂ (λ (x y : ℕ). x * 2 ^ n + y) (sym top) (pack-ext n (has s) (has (s % 2 ^ n)) (λ k l. sym (has-mod s n k l)) ∙ ih) ∙ split s n

-- the members of a set given by a test: the roles 0 to 63 that pass it
pub has-those : (f : ℕ → Bool) (k : ℕ) → k < 64 → has (those f) k ≡ f k
unfolding those
has-those f k h = has-pack 64 f k h

pub those-small : (f : ℕ → Bool) → those f < 2 ^ 64
unfolding those
those-small f = pack-small 64 f

pub those-ext : (f g : ℕ → Bool) → ((k : ℕ) → k < 64 → f k ≡ g k) → those f ≡ those g
unfolding those
those-ext f g h = pack-ext 64 f g h

-- a number beyond 63 is a member of no set
pub has-beyond : (s k : ℕ) → s < 2 ^ 64 → 64 ≤ k → has s k ≡ false
unfolding has
has-beyond s k h l = ap (λ (x : ℕ). eqb (x % 2) 1) (div-eq_of_lt (lt_of_lt_of_le h (pow_mono l)))

pub has-those-beyond : (f : ℕ → Bool) (k : ℕ) → 64 ≤ k → has (those f) k ≡ false
has-those-beyond f k l = has-beyond (those f) k (those-small f) l

-- a set's member is below 64
pub member-small : (s k : ℕ) → s < 2 ^ 64 → has s k ≡ true → k < 64
member-small s k h e = go (dec_lt k 64)
  where
    go : Dec (k < 64) → k < 64
    go (yes p) = p
    go (no p) = clash (has s k) e (has-beyond s k h (omega arith))

pub those-member : (f : ℕ → Bool) (k : ℕ) → has (those f) k ≡ true → (k < 64) × (f k ≡ true)
those-member f k e = let l = member-small (those f) k (those-small f) e in (l, sym (has-those f k l) ∙ e)

-- two sets with the same members are equal
pub those-has : (s : ℕ) → s < 2 ^ 64 → those (has s) ≡ s
unfolding those
those-has s h = packed 64 s h

pub ext : (a b : ℕ) → a < 2 ^ 64 → b < 2 ^ 64 → ((k : ℕ) → k < 64 → has a k ≡ has b k) → a ≡ b
ext a b ha hb e = sym (those-has a ha) ∙ those-ext (has a) (has b) e ∙ those-has b hb

-- what a number is, where its members are those that pass the test
pub is-those : (s : ℕ) (f : ℕ → Bool) → s < 2 ^ 64 → ((k : ℕ) → k < 64 → has s k ≡ f k) → s ≡ those f
is-those s f h e = ext s (those f) h (those-small f) (λ k l. e k l ∙ sym (has-those f k l))

-- ---- members after each operation

pub has-none : (k : ℕ) → has 0 k ≡ false
unfolding has
has-none k = ap (λ (x : ℕ). eqb (x % 2) 1) (zero-div (2 ^ k))

pub has-with : (s r k : ℕ) → k < 64 → has (with s r) k ≡ (has s k || eqb k r)
unfolding with
has-with s r k h = has-those (λ j. has s j || eqb j r) k h

pub has-without : (s r k : ℕ) → k < 64 → has (without s r) k ≡ (has s k && not (eqb k r))
unfolding without
has-without s r k h = has-those (λ j. has s j && not (eqb j r)) k h

pub has-union : (a b k : ℕ) → k < 64 → has (union a b) k ≡ (has a k || has b k)
unfolding union
has-union a b k h = has-those (λ j. has a j || has b j) k h

pub has-common : (a b k : ℕ) → k < 64 → has (common a b) k ≡ (has a k && has b k)
unfolding common
has-common a b k h = has-those (λ j. has a j && has b j) k h

pub has-minus : (a b k : ℕ) → k < 64 → has (minus a b) k ≡ (has a k && not (has b k))
unfolding minus
has-minus a b k h = has-those (λ j. has a j && not (has b j)) k h

pub with-small : (s r : ℕ) → with s r < 2 ^ 64
unfolding with
with-small s r = those-small (λ j. has s j || eqb j r)

pub without-small : (s r : ℕ) → without s r < 2 ^ 64
unfolding without
without-small s r = those-small (λ j. has s j && not (eqb j r))

pub union-small : (a b : ℕ) → union a b < 2 ^ 64
unfolding union
union-small a b = those-small (λ j. has a j || has b j)

pub common-small : (a b : ℕ) → common a b < 2 ^ 64
unfolding common
common-small a b = those-small (λ j. has a j && has b j)

pub minus-small : (a b : ℕ) → minus a b < 2 ^ 64
unfolding minus
minus-small a b = those-small (λ j. has a j && not (has b j))

-- ---- within and empty

pub subset-true : (a b : ℕ) → subset a b ≡ true → (k : ℕ) → k < 64 → has a k ≡ true → has b k ≡ true
unfolding subset
subset-true a b h k l e = go (has a k) e (every-elim 64 (λ j. not (has a j) || has b j) h k l)
  where
    go : (x : Bool) → x ≡ true → (not x || has b k) ≡ true → has b k ≡ true
    go true p q = q
    go false p q = clash false p refl

pub subset-intro : (a b : ℕ) → ((k : ℕ) → k < 64 → has a k ≡ true → has b k ≡ true) → subset a b ≡ true
unfolding subset
subset-intro a b h = every-intro 64 (λ j. not (has a j) || has b j) (λ k l. go k l (has a k) refl)
  where
    go : (k : ℕ) → k < 64 → (x : Bool) → has a k ≡ x → (not (has a k) || has b k) ≡ true
    go k l true e = or_right (not (has a k)) (has b k) (h k l e)
    go k l false e = or_left (not (has a k)) (has b k) (not_yes (has a k) e)

pub subset-false : (a b : ℕ) → subset a b ≡ false → (k : ℕ) × (k < 64) × (has a k ≡ true) × (has b k ≡ false)
unfolding subset
subset-false a b h = go (some-elim 64 (λ j. has a j && not (has b j)) (outside (some 64 (λ j. has a j && not (has b j))) refl))
  where
    outside : (x : Bool) → some 64 (λ j. has a j && not (has b j)) ≡ x → some 64 (λ j. has a j && not (has b j)) ≡ true
    outside true e = e
    outside false e = clash (subset a b) (subset-intro a b (λ k l p. back k p (some-false 64 (λ j. has a j && not (has b j)) e k l))) h
      where
        back : (k : ℕ) → has a k ≡ true → (has a k && not (has b k)) ≡ false → has b k ≡ true
        back k p q = borrow.Author.Tests.not-false (has b k) (rw p at q)

    go : (k : ℕ) × (k < 64) × ((has a k && not (has b k)) ≡ true) → (k : ℕ) × (k < 64) × (has a k ≡ true) × (has b k ≡ false)
    go r = (r.0, r.1, and_left (has a r.0) (not (has b r.0)) r.2, yes-not (has b r.0) (and_right (has a r.0) (not (has b r.0)) r.2))

pub is_empty-true : (s : ℕ) → is_empty s ≡ true → (k : ℕ) → k < 64 → has s k ≡ false
unfolding is_empty
is_empty-true s h k l = some-false 64 (has s) (yes-not (some 64 (has s)) h) k l

pub is_empty-intro : (s : ℕ) → ((k : ℕ) → k < 64 → has s k ≡ false) → is_empty s ≡ true
unfolding is_empty
is_empty-intro s h = not_yes (some 64 (has s)) (some-none 64 (has s) h)

pub is_empty-none : is_empty 0 ≡ true
is_empty-none = is_empty-intro 0 (λ k l. has-none k)

pub is_empty_false : (s : ℕ) → is_empty s ≡ false → (k : ℕ) × (k < 64) × (has s k ≡ true)
unfolding is_empty
is_empty_false s h = some-elim 64 (has s) (borrow.Author.Tests.not-false (some 64 (has s)) h)

pub is_empty-zero : (s : ℕ) → s < 2 ^ 64 → is_empty s ≡ true → s ≡ 0
is_empty-zero s h e = ext s 0 h (omega arith) (λ k l. is_empty-true s e k l ∙ sym (has-none k))

-- ---- counts

pub count-le : (s : ℕ) → count s ≤ 64
unfolding count
count-le s = tally-le 64 (has s)

pub count-mono : (a b : ℕ) → ((k : ℕ) → k < 64 → has a k ≡ true → has b k ≡ true) → count a ≤ count b
unfolding count
count-mono a b h = tally-mono 64 (has a) (has b) h

-- a role more, or one less
pub count-with : (s r : ℕ) → r < 64 → has s r ≡ false → count (with s r) ≡ suc (count s)
unfolding count
count-with s r l e = omega (arith, step, ap bit e, ap bit (has-with s r r l ∙ or_right (has s r) (eqb r r) (eq-eqb r r refl)))
  where
    step : tally 64 (has s) + bit (has (with s r) r) ≡ tally 64 (has (with s r)) + bit (has s r)
    step = tally-change 64 (has s) (has (with s r)) r l (λ k h n. sym (has-with s r k h ∙ rw (ne_eqb k r n) (or-false (has s k))))

pub count-without : (s r : ℕ) → r < 64 → has s r ≡ true → suc (count (without s r)) ≡ count s
unfolding count
count-without s r l e = omega (arith, step, ap bit e, ap bit gone)
  where
    gone : has (without s r) r ≡ false
    gone = has-without s r r l ∙ rw (eq-eqb r r refl) (and-false (has s r))

    step : tally 64 (has s) + bit (has (without s r) r) ≡ tally 64 (has (without s r)) + bit (has s r)
    step = tally-change 64 (has s) (has (without s r)) r l (λ k h n. sym (has-without s r k h ∙ rw (ne_eqb k r n) (and-true (has s k))))

pub count-union : (a b : ℕ) → count (union a b) + count (common a b) ≡ count a + count b
unfolding count
count-union a b = ap₂ (λ (x y : ℕ). x + y) (tally-ext 64 (has (union a b)) (λ k. has a k || has b k) (has-union a b)) (tally-ext 64 (has (common a b)) (λ k. has a k && has b k) (has-common a b)) ∙ tally-either 64 (has a) (has b)

pub count_none : count 0 ≡ 0
unfolding count
count_none = tally-none 64 (has 0) (λ k l. has-none k)

-- ---- the machine's operations

-- each digit of a bitwise operation is the operation of the digits
or-digit : (x y : ℕ) → eqb (bit_or x y % 2) 1 ≡ (eqb (x % 2) 1 || eqb (y % 2) 1)
or-digit x y = ap (λ (n : ℕ). eqb n 1) last ∙ go (digit x) (digit y)
  where
    last : bit_or x y % 2 ≡ max (x % 2) (y % 2)
    last = omega (arith, or_step x y)

    go : (x % 2 ≡ 0) ⊎ (x % 2 ≡ 1) → (y % 2 ≡ 0) ⊎ (y % 2 ≡ 1) → eqb (max (x % 2) (y % 2)) 1 ≡ (eqb (x % 2) 1 || eqb (y % 2) 1)
    go (inl p) (inl q) = rw (p, q)
    go (inl p) (inr q) = rw (p, q)
    go (inr p) (inl q) = rw (p, q)
    go (inr p) (inr q) = rw (p, q)

and-digit : (x y : ℕ) → eqb (bit_and x y % 2) 1 ≡ (eqb (x % 2) 1 && eqb (y % 2) 1)
and-digit x y = ap (λ (n : ℕ). eqb n 1) last ∙ go (digit x) (digit y)
  where
    last : bit_and x y % 2 ≡ min (x % 2) (y % 2)
    last = omega (arith, and_step x y)

    go : (x % 2 ≡ 0) ⊎ (x % 2 ≡ 1) → (y % 2 ≡ 0) ⊎ (y % 2 ≡ 1) → eqb (min (x % 2) (y % 2)) 1 ≡ (eqb (x % 2) 1 && eqb (y % 2) 1)
    go (inl p) (inl q) = rw (p, q)
    go (inl p) (inr q) = rw (p, q)
    go (inr p) (inl q) = rw (p, q)
    go (inr p) (inr q) = rw (p, q)

pub has-or : (a b k : ℕ) → has (bit_or a b) k ≡ (has a k || has b k)
unfolding has
has-or a b k = rw or_shr (or-digit (a / 2 ^ k) (b / 2 ^ k))

pub has-and : (a b k : ℕ) → has (bit_and a b) k ≡ (has a k && has b k)
unfolding has
has-and a b k = rw and_shr (and-digit (a / 2 ^ k) (b / 2 ^ k))
