-- What the machine's operations on a `u64` do to its members: each law is what one function's contract asks. Assumes nothing.
use mathlib.Core.Bool.{Bool, true, false, not, ◌&&◌, ◌||◌, and-true, or-false}
use mathlib.Core.Logic.{◌⊎◌, inl, inr}
use mathlib.Core.Path.{◌≡◌, refl, sym, ap, ◌∙◌}
use Prim.Native.Nat.{ℕ, zero, suc, ◌+◌, ◌*◌, ◌/◌, ◌%◌, ◌^◌, ◌-◌, ◌≤◌, ◌<◌}
use native.Mathlib.Omega.{arith}
use native.Mathlib.Decide.{dec_lt}
use native.Mathlib.Nat.{mod-lt, mod-eq_of_lt, div-eq_of_lt, one-mul}
use lib.Dec.{eqb, ltb}
use lib.Pow.{pow_pos, pow-lt, shr-shr}
use lib.Bits.{bit_and, bit_or, bit_xor, xor_shr, xor_step, or_lt, and_lt, xor_lt, differ}
use lib.Count.{count_trailing_zeros, under, trailing_of_zero}
use borrow.Author.Tests.{eq-eqb, ne_eqb, eqb-true, lt-ltb}
use Rattle.roleset.specs.Bounded.{bit}
use Rattle.roleset.specs.Roles.{has, those, with, without, union, common, minus, subset, is_empty}
use Rattle.roleset.specs.Promises.{Made, Answers, Lowest}
use Rattle.roleset.proofs.BoundedLaws.{clash, and_left, and_right, agree, never}
use Rattle.roleset.proofs.Laws.{digit, has-top, has-low, has-none, is-those, has-or, has-and, ext, subset-true, subset-intro, member-small, is_empty-zero, is_empty_false, is_empty-none}

-- a number below 2 ^ 64 whose members are those that pass the test is the set that the definition gives
made : (s : ℕ) (f g : ℕ → Bool) → s < 2 ^ 64 → ((k : ℕ) → has s k ≡ g k) → ((k : ℕ) → k < 64 → g k ≡ f k) → Made s (those f) g
made s f g h e p = record { is = is-those s f h (λ k l. e k ∙ p k l); each = e }

-- ---- or, and, and the difference

pub or-made : (a b : ℕ) → a < 2 ^ 64 → b < 2 ^ 64 → Made (bit_or a b) (union a b) (λ k. has a k || has b k)
unfolding union
or-made a b ha hb = made (bit_or a b) (λ k. has a k || has b k) (λ k. has a k || has b k) (or_lt 64 a b ha hb) (has-or a b) (λ k l. refl)

pub and-made : (a b : ℕ) → a < 2 ^ 64 → b < 2 ^ 64 → Made (bit_and a b) (common a b) (λ k. has a k && has b k)
unfolding common
and-made a b ha hb = made (bit_and a b) (λ k. has a k && has b k) (λ k. has a k && has b k) (and_lt 64 a b ha hb) (has-and a b) (λ k l. refl)

xor-digit : (x y : ℕ) → eqb (bit_xor x y % 2) 1 ≡ eqb (differ (x % 2) (y % 2)) 1
xor-digit x y = ap (λ (n : ℕ). eqb n 1) (last (digit x) (digit y))
  where
    last : (x % 2 ≡ 0) ⊎ (x % 2 ≡ 1) → (y % 2 ≡ 0) ⊎ (y % 2 ≡ 1) → bit_xor x y % 2 ≡ differ (x % 2) (y % 2)
    last (inl p) (inl q) = let e = rw (p, q) at (xor_step x y) in rw (p, q) (omega arith)
    last (inl p) (inr q) = let e = rw (p, q) at (xor_step x y) in rw (p, q) (omega arith)
    last (inr p) (inl q) = let e = rw (p, q) at (xor_step x y) in rw (p, q) (omega arith)
    last (inr p) (inr q) = let e = rw (p, q) at (xor_step x y) in rw (p, q) (omega arith)

-- the digits of a that are not in b too
less-digit : (x y z : ℕ) → eqb (z % 2) 1 ≡ (eqb (x % 2) 1 && eqb (y % 2) 1) → eqb (differ (x % 2) (z % 2)) 1 ≡ (eqb (x % 2) 1 && not (eqb (y % 2) 1))
less-digit x y z e = go (digit x) (digit y) (digit z)
  where
    go : (x % 2 ≡ 0) ⊎ (x % 2 ≡ 1) → (y % 2 ≡ 0) ⊎ (y % 2 ≡ 1) → (z % 2 ≡ 0) ⊎ (z % 2 ≡ 1) → eqb (differ (x % 2) (z % 2)) 1 ≡ (eqb (x % 2) 1 && not (eqb (y % 2) 1))
    go (inl p) q (inl r) = rw (p, r)
    go (inl p) q (inr r) = clash true refl (rw (p, r) at e)
    go (inr p) (inl q) (inl r) = rw (p, q, r)
    go (inr p) (inl q) (inr r) = clash true refl (rw (p, q, r) at e)
    go (inr p) (inr q) (inl r) = clash true refl (sym (rw (p, q, r) at e))
    go (inr p) (inr q) (inr r) = rw (p, q, r)

has-less : (a b k : ℕ) → has (bit_xor a (bit_and a b)) k ≡ (has a k && not (has b k))
unfolding has
has-less a b k = rw xor_shr (xor-digit (a / 2 ^ k) (bit_and a b / 2 ^ k) ∙ less-digit (a / 2 ^ k) (b / 2 ^ k) (bit_and a b / 2 ^ k) (has-and a b k))

less-small : (a b : ℕ) → a < 2 ^ 64 → b < 2 ^ 64 → bit_xor a (bit_and a b) < 2 ^ 64
less-small a b ha hb = xor_lt 64 a (bit_and a b) ha (and_lt 64 a b ha hb)

pub less-made : (a b : ℕ) → a < 2 ^ 64 → b < 2 ^ 64 → Made (bit_xor a (bit_and a b)) (minus a b) (λ k. has a k && not (has b k))
unfolding minus
less-made a b ha hb = made (bit_xor a (bit_and a b)) (λ k. has a k && not (has b k)) (λ k. has a k && not (has b k)) (less-small a b ha hb) (has-less a b) (λ k l. refl)

-- ---- one role

-- the machine's 1 << r, for r below 64
abbrev pub shifted : ℕ → ℕ
shifted r = 1 * 2 ^ r % 2 ^ 64

shifted-is : (r : ℕ) → r < 64 → shifted r ≡ 2 ^ r
shifted-is r h = ap (λ (x : ℕ). x % 2 ^ 64) (one-mul (2 ^ r)) ∙ mod-eq_of_lt (pow-lt h)

has-power : (r k : ℕ) → has (2 ^ r) k ≡ eqb k r
unfolding has
has-power r k = go (dec_lt k r) (dec_lt r k)
  where
    alone : bit true * 2 ^ r + 0 ≡ 2 ^ r
    alone = omega arith

    go : Dec (k < r) → Dec (r < k) → has (2 ^ r) k ≡ eqb k r
    go (yes p) q = ap (λ (x : ℕ). has x k) (sym alone) ∙ has-low true 0 r k (pow_pos r) p ∙ has-none k ∙ sym (ne_eqb k r (λ e. omega arith))
    go (no p) (yes q) = ap (λ (x : ℕ). eqb (x % 2) 1) (div-eq_of_lt (pow-lt q)) ∙ sym (ne_eqb k r (λ e. omega arith))
    go (no p) (no q) = let e : k ≡ r = omega arith in rw e (ap (λ (x : ℕ). has x r) (sym alone) ∙ has-top true 0 r (pow_pos r) ∙ sym (eq-eqb r r refl))

has-shifted : (r k : ℕ) → r < 64 → has (shifted r) k ≡ eqb k r
has-shifted r k h = ap (λ (x : ℕ). has x k) (shifted-is r h) ∙ has-power r k

shifted-small : (r : ℕ) → shifted r < 2 ^ 64
shifted-small r = mod-lt (1 * 2 ^ r) (pow_pos 64)

-- k is r, which is below 64
below-too : (r k : ℕ) → r < 64 → eqb k r ≡ (eqb k r && ltb k 64)
below-too r k h = agree (eqb k r) (eqb k r && ltb k 64) (λ e. rw (e, lt-ltb k 64 (rw (eqb-true k r e) h))) (λ e. and_left (eqb k r) (ltb k 64) e)

pub with-made : (s r : ℕ) → s < 2 ^ 64 → r < 64 → Made (bit_or s (shifted r)) (with s r) (λ k. has s k || (eqb k r && ltb k 64))
unfolding with
with-made s r h l = made (bit_or s (shifted r)) (λ k. has s k || eqb k r) (λ k. has s k || (eqb k r && ltb k 64)) (or_lt 64 s (shifted r) h (shifted-small r))
    (λ k. has-or s (shifted r) k ∙ ap (λ (x : Bool). has s k || x) (has-shifted r k l ∙ below-too r k l))
    (λ k q. rw (lt-ltb k 64 q) (ap (λ (x : Bool). has s k || x) (and-true (eqb k r))))

-- a number beyond 63 adds nothing and removes nothing
beyond-with : (r k : ℕ) → 64 ≤ r → (eqb k r && ltb k 64) ≡ false
beyond-with r k h = never (eqb k r && ltb k 64) (λ e. let p : k ≡ r = eqb-true k r (and_left (eqb k r) (ltb k 64) e) in let q : k < 64 = borrow.Author.Tests.ltb-true k 64 (and_right (eqb k r) (ltb k 64) e) in omega arith)

pub with-beyond : (s r : ℕ) → s < 2 ^ 64 → 64 ≤ r → Made s (with s r) (λ k. has s k || (eqb k r && ltb k 64))
unfolding with
with-beyond s r h l = made s (λ k. has s k || eqb k r) (λ k. has s k || (eqb k r && ltb k 64)) h
    (λ k. sym (ap (λ (x : Bool). has s k || x) (beyond-with r k l) ∙ or-false (has s k)))
    (λ k q. rw (lt-ltb k 64 q) (ap (λ (x : Bool). has s k || x) (and-true (eqb k r))))

pub without-made : (s r : ℕ) → s < 2 ^ 64 → r < 64 → Made (bit_xor s (bit_and s (shifted r))) (without s r) (λ k. has s k && not (eqb k r))
unfolding without
without-made s r h l = made (bit_xor s (bit_and s (shifted r))) (λ k. has s k && not (eqb k r)) (λ k. has s k && not (eqb k r)) (less-small s (shifted r) h (shifted-small r))
    (λ k. has-less s (shifted r) k ∙ ap (λ (x : Bool). has s k && not x) (has-shifted r k l))
    (λ k q. refl)

pub without-beyond : (s r : ℕ) → s < 2 ^ 64 → 64 ≤ r → Made s (without s r) (λ k. has s k && not (eqb k r))
unfolding without
without-beyond s r h l = made s (λ k. has s k && not (eqb k r)) (λ k. has s k && not (eqb k r)) h keeps (λ k q. refl)
  where
    keeps : (k : ℕ) → has s k ≡ (has s k && not (eqb k r))
    keeps k = agree (has s k) (has s k && not (eqb k r)) (λ e. rw (e, ne_eqb k r (λ p. let q = member-small s k h e in omega arith))) (λ e. and_left (has s k) (not (eqb k r)) e)

-- ---- subset and empty

pub and-subset : (a b : ℕ) → a < 2 ^ 64 → b < 2 ^ 64 → Answers (eqb (bit_and a b) a) (subset a b) ((k : ℕ) → has a k ≡ true → has b k ≡ true)
and-subset a b ha hb = record { is = agree (eqb (bit_and a b) a) (subset a b) (λ e. subset-intro a b (λ k l. means e k)) (λ e. back (λ k p. subset-true a b e k (member-small a k ha p) p)); yes_means = means; means_yes = back }
  where
    means : eqb (bit_and a b) a ≡ true → (k : ℕ) → has a k ≡ true → has b k ≡ true
    means e k p = and_right (has a k) (has b k) (sym (has-and a b k) ∙ ap (λ (x : ℕ). has x k) (eqb-true (bit_and a b) a e) ∙ p)

    back : ((k : ℕ) → has a k ≡ true → has b k ≡ true) → eqb (bit_and a b) a ≡ true
    back f = eq-eqb (bit_and a b) a (ext (bit_and a b) a (and_lt 64 a b ha hb) ha (λ k l. has-and a b k ∙ agree (has a k && has b k) (has a k) (λ e. and_left (has a k) (has b k) e) (λ e. rw (e, f k e))))

pub zero-empty : (s : ℕ) → s < 2 ^ 64 → Answers (eqb s 0) (is_empty s) ((k : ℕ) → has s k ≡ false)
zero-empty s h = record { is = agree (eqb s 0) (is_empty s) (λ e. rw (eqb-true s 0 e) is_empty-none) (λ e. eq-eqb s 0 (is_empty-zero s h e)); yes_means = λ e k. rw (eqb-true s 0 e) (has-none k); means_yes = λ f. eq-eqb s 0 (ext s 0 h (omega arith) (λ k l. f k ∙ sym (has-none k))) }

-- ---- the lowest member

has-half : (s k : ℕ) → has s (suc k) ≡ has (s / 2) k
unfolding has
has-half s k = ap (λ (x : ℕ). eqb (x % 2) 1) (ap (λ (x : ℕ). s / 2 ^ x) (let e : suc k ≡ 1 + k = omega arith in e) ∙ sym (shr-shr s 1 k))

has-zero : (s : ℕ) → has s 0 ≡ eqb (s % 2) 1
unfolding has
has-zero s = ap (λ (x : ℕ). eqb (x % 2) 1) (let e : s / 2 ^ 0 ≡ s = omega arith in e)

trailing-lowest : (n s k : ℕ) → k < n → has s k ≡ true → Lowest s (count_trailing_zeros n s)
unfolding count_trailing_zeros
trailing-lowest zero s k h e = absurd (omega arith)
trailing-lowest (suc n) s k h e = go k h e (digit s) (λ j l p. trailing-lowest n (s / 2) j l p)
  where
    up : Lowest (s / 2) (count_trailing_zeros n (s / 2)) → s % 2 ≡ 0 → Lowest s (suc (count_trailing_zeros n (s / 2)))
    up r z = record { member = has-half s (count_trailing_zeros n (s / 2)) ∙ r.member; first = first }
      where
        first : (j : ℕ) → j < suc (count_trailing_zeros n (s / 2)) → has s j ≡ false
        first zero l = has-zero s ∙ rw z
        first (suc j) l = has-half s j ∙ r.first j (omega arith)

    go : (j : ℕ) → j < suc n → has s j ≡ true → (s % 2 ≡ 0) ⊎ (s % 2 ≡ 1) → ((i : ℕ) → i < n → has (s / 2) i ≡ true → Lowest (s / 2) (count_trailing_zeros n (s / 2))) → Lowest s (under (s % 2) (count_trailing_zeros n (s / 2)))
    go j l p (inr z) ih = rw z (record { member = has-zero s ∙ rw z; first = λ i q. absurd (omega arith) })
    go zero l p (inl z) ih = clash (has s 0) p (has-zero s ∙ rw z)
    go (suc j) l p (inl z) ih = rw z (up (ih j (omega arith) (sym (has-half s j) ∙ p)) z)

pub trailing-member : (s : ℕ) → is_empty s ≡ false → Lowest s (count_trailing_zeros 64 s)
trailing-member s e = let m = is_empty_false s e in trailing-lowest 64 s m.0 m.1 m.2

pub trailing-empty : (s : ℕ) → s < 2 ^ 64 → is_empty s ≡ true → count_trailing_zeros 64 s ≡ 64
trailing-empty s h e = ap (count_trailing_zeros 64) (is_empty-zero s h e) ∙ trailing_of_zero 64

-- ---- a number and one less have the same bits above the lowest that is 1, which one less has not

pub member-some : (s r : ℕ) → has s r ≡ true → 0 < s
member-some s r h = go (dec_lt 0 s)
  where
    go : Dec (0 < s) → 0 < s
    go (yes p) = p
    go (no p) = clash (has s r) h (let z : s ≡ 0 = omega arith in rw z (has-none r))

eqb-suc : (j r : ℕ) → eqb (suc j) (suc r) ≡ eqb j r
eqb-suc j r = agree (eqb (suc j) (suc r)) (eqb j r) (λ e. eq-eqb j r (omega (arith, eqb-true (suc j) (suc r) e))) (λ e. eq-eqb (suc j) (suc r) (omega (arith, eqb-true j r e)))

lower-bits : (r s k : ℕ) → Lowest s r → (has s k && has (s - 1) k) ≡ (has s k && not (eqb k r))
lower-bits zero s k low = go k
  where
    odd : s % 2 ≡ 1
    odd = eqb-true (s % 2) 1 (sym (has-zero s) ∙ low.member)

    go : (j : ℕ) → (has s j && has (s - 1) j) ≡ (has s j && not (eqb j 0))
    go zero = ap (λ (b : Bool). has s 0 && b) (has-zero (s - 1) ∙ (let e : (s - 1) % 2 ≡ 0 = omega (arith, odd) in rw e))
    go (suc j) = ap (λ (b : Bool). has s (suc j) && b) (has-half (s - 1) j ∙ ap (λ (x : ℕ). has x j) (let e : (s - 1) / 2 ≡ s / 2 = omega (arith, odd) in e) ∙ sym (has-half s j)) ∙ rw (ne_eqb (suc j) 0 (λ e. omega arith)) (same (has s (suc j)))
      where
        same : (b : Bool) → (b && b) ≡ (b && true)
        same true = refl
        same false = refl
lower-bits (suc r) s k low = go k (λ j. lower-bits r (s / 2) j half)
  where
    half : Lowest (s / 2) r
    half = record { member = sym (has-half s r) ∙ low.member; first = λ j l. sym (has-half s j) ∙ low.first (suc j) (omega arith) }

    even : s % 2 ≡ 0
    even = go (digit s)
      where
        go : (s % 2 ≡ 0) ⊎ (s % 2 ≡ 1) → s % 2 ≡ 0
        go (inl e) = e
        go (inr e) = clash (has s 0) (has-zero s ∙ rw e) (low.first 0 (omega arith))

    some : 0 < s
    some = member-some s (suc r) low.member

    go : (j : ℕ) → ((i : ℕ) → (has (s / 2) i && has (s / 2 - 1) i) ≡ (has (s / 2) i && not (eqb i r))) → (has s j && has (s - 1) j) ≡ (has s j && not (eqb j (suc r)))
    go zero ih = rw (low.first 0 (omega arith))
    go (suc j) ih = rw (has-half s j, has-half (s - 1) j, eqb-suc j r, let e : (s - 1) / 2 ≡ s / 2 - 1 = omega (arith, even, some) in e) (ih j)

pub lowest-dropped : {s r : ℕ} → s < 2 ^ 64 → Lowest s r → Made (bit_and s (s - 1)) (without s r) (λ k. has s k && not (eqb k r))
unfolding without
lowest-dropped {s} {r} l low = made (bit_and s (s - 1)) (λ k. has s k && not (eqb k r)) (λ k. has s k && not (eqb k r)) (and_lt 64 s (s - 1) l (omega arith)) (λ k. has-and s (s - 1) k ∙ lower-bits r s k low) (λ k q. refl)
