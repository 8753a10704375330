-- Laws of the bounded words `some`, `every`, `tally` and `total`. Assumes nothing.
use mathlib.Core.Bool.{Bool, true, false, not, ◌&&◌, ◌||◌}
use mathlib.Core.Logic.{◌⊎◌, inl, inr}
use mathlib.Core.Path.{◌≡◌, refl, sym, ap, ap₂, ◌∙◌}
use Prim.Native.Nat.{ℕ, zero, suc, ◌+◌, ◌*◌, ◌≤◌, ◌<◌}
use native.Mathlib.Omega.{arith}
use native.Mathlib.Decide.{dec_lt}
use native.Mathlib.Numerals.{add-one}
use Rattle.roleset.specs.Bounded.{bit, some, every, tally, total}

-- ---- yes and no

pub clash : {A : Type 0} (b : Bool) → b ≡ true → b ≡ false → A
clash b p q = absurd (let z : ◌≡◌ {A = ℕ} 0 1 = cc in omega arith)

pub and_left : (a b : Bool) → (a && b) ≡ true → a ≡ true
and_left true b h = refl
and_left false b h = h

pub and_right : (a b : Bool) → (a && b) ≡ true → b ≡ true
and_right true b h = h
and_right false b h = clash false h refl

pub and_both : (a b : Bool) → a ≡ true → b ≡ true → (a && b) ≡ true
and_both a b p q = rw (p, q)

pub or_cases : (a b : Bool) → (a || b) ≡ true → (a ≡ true) ⊎ (b ≡ true)
or_cases true b h = inl refl
or_cases false b h = inr h

pub or_left : (a b : Bool) → a ≡ true → (a || b) ≡ true
or_left a b p = rw p

pub or_right : (a b : Bool) → b ≡ true → (a || b) ≡ true
or_right true b p = refl
or_right false b p = p

pub not_yes : (a : Bool) → a ≡ false → not a ≡ true
not_yes a p = rw p

pub yes-not : (a : Bool) → not a ≡ true → a ≡ false
yes-not true p = clash false p refl
yes-not false p = refl

-- two answers are equal where each is yes if the other is
pub agree : (a b : Bool) → (a ≡ true → b ≡ true) → (b ≡ true → a ≡ true) → a ≡ b
agree true b f g = sym (f refl)
agree false true f g = g refl
agree false false f g = refl

-- an answer that cannot be yes is no
pub never : (a : Bool) → (a ≡ true → ⊥) → a ≡ false
never true f = absurd (f refl)
never false f = refl

-- ---- the last k below n + 1, or one below n

pub last-or-below : (k n : ℕ) → k < suc n → (k ≡ n) ⊎ (k < n)
last-or-below k n h = go (dec_lt k n)
  where
    go : Dec (k < n) → (k ≡ n) ⊎ (k < n)
    go (yes p) = inr p
    go (no p) = inl (omega arith)

-- ---- some

pub some-intro : (n : ℕ) (f : ℕ → Bool) (k : ℕ) → k < n → f k ≡ true → some n f ≡ true
unfolding some
some-intro zero f k h e = absurd (omega arith)
some-intro (suc n) f k h e = go (last-or-below k n h) (some-intro n f k)
  where
    go : (k ≡ n) ⊎ (k < n) → (k < n → f k ≡ true → some n f ≡ true) → (f n || some n f) ≡ true
    go (inl p) ih = or_left (f n) (some n f) (rw (← p) e)
    go (inr p) ih = or_right (f n) (some n f) (ih p e)

pub some-elim : (n : ℕ) (f : ℕ → Bool) → some n f ≡ true → (k : ℕ) × (k < n) × (f k ≡ true)
unfolding some
some-elim zero f h = clash false h refl
some-elim (suc n) f h = go (or_cases (f n) (some n f) h) (some-elim n f)
  where
    go : (f n ≡ true) ⊎ (some n f ≡ true) → (some n f ≡ true → (k : ℕ) × (k < n) × (f k ≡ true)) → (k : ℕ) × (k < suc n) × (f k ≡ true)
    go (inl p) ih = (n, omega arith, p)
    go (inr p) ih = let r = ih p in (r.0, omega arith, r.2)

pub some-none : (n : ℕ) (f : ℕ → Bool) → ((k : ℕ) → k < n → f k ≡ false) → some n f ≡ false
some-none n f h = never (some n f) (λ e. let r = some-elim n f e in clash (f r.0) r.2 (h r.0 r.1))

pub some-false : (n : ℕ) (f : ℕ → Bool) → some n f ≡ false → (k : ℕ) → k < n → f k ≡ false
some-false n f h k l = never (f k) (λ e. clash (some n f) (some-intro n f k l e) h)

pub some-ext : (n : ℕ) (f g : ℕ → Bool) → ((k : ℕ) → k < n → f k ≡ g k) → some n f ≡ some n g
some-ext n f g h = agree (some n f) (some n g)
    (λ e. let r = some-elim n f e in some-intro n g r.0 r.1 (sym (h r.0 r.1) ∙ r.2))
    (λ e. let r = some-elim n g e in some-intro n f r.0 r.1 (h r.0 r.1 ∙ r.2))

-- ---- every

pub every-intro : (n : ℕ) (f : ℕ → Bool) → ((k : ℕ) → k < n → f k ≡ true) → every n f ≡ true
unfolding every
every-intro zero f h = refl
every-intro (suc n) f h = and_both (f n) (every n f) (h n (omega arith)) (every-intro n f (λ k l. h k (omega arith)))

pub every-elim : (n : ℕ) (f : ℕ → Bool) → every n f ≡ true → (k : ℕ) → k < n → f k ≡ true
unfolding every
every-elim zero f e k h = absurd (omega arith)
every-elim (suc n) f e k h = go (last-or-below k n h) (every-elim n f (and_right (f n) (every n f) e) k)
  where
    go : (k ≡ n) ⊎ (k < n) → (k < n → f k ≡ true) → f k ≡ true
    go (inl p) ih = rw p (and_left (f n) (every n f) e)
    go (inr p) ih = ih p

pub every-ext : (n : ℕ) (f g : ℕ → Bool) → ((k : ℕ) → k < n → f k ≡ g k) → every n f ≡ every n g
every-ext n f g h = agree (every n f) (every n g)
    (λ e. every-intro n g (λ k l. sym (h k l) ∙ every-elim n f e k l))
    (λ e. every-intro n f (λ k l. h k l ∙ every-elim n g e k l))

-- ---- tally

pub bit_le : (b : Bool) → bit b ≤ 1
bit_le true = omega arith
bit_le false = omega arith

pub bit-mono : (a b : Bool) → (a ≡ true → b ≡ true) → bit a ≤ bit b
bit-mono true b h = rw (h refl) (omega arith)
bit-mono false b h = omega arith

pub tally-le : (n : ℕ) (f : ℕ → Bool) → tally n f ≤ n
unfolding tally
tally-le zero f = omega arith
tally-le (suc n) f = omega (arith, tally-le n f, bit_le (f n))

-- counting grows with the test
pub tally-mono : (n : ℕ) (f g : ℕ → Bool) → ((k : ℕ) → k < n → f k ≡ true → g k ≡ true) → tally n f ≤ tally n g
unfolding tally
tally-mono zero f g h = omega arith
tally-mono (suc n) f g h = omega (arith, tally-mono n f g (λ k l. h k (omega arith)), bit-mono (f n) (g n) (h n (omega arith)))

pub tally-ext : (n : ℕ) (f g : ℕ → Bool) → ((k : ℕ) → k < n → f k ≡ g k) → tally n f ≡ tally n g
unfolding tally
tally-ext zero f g h = refl
tally-ext (suc n) f g h = ap₂ (λ (x y : ℕ). x + y) (ap bit (h n (omega arith))) (tally-ext n f g (λ k l. h k (omega arith)))

pub tally-none : (n : ℕ) (f : ℕ → Bool) → ((k : ℕ) → k < n → f k ≡ false) → tally n f ≡ 0
unfolding tally
tally-none zero f h = refl
tally-none (suc n) f h = rw (h n (omega arith)) (omega (arith, tally-none n f (λ k l. h k (omega arith))))

-- counting a test that only n's place tells from another
pub tally-change : (n : ℕ) (f g : ℕ → Bool) (r : ℕ) → r < n → ((k : ℕ) → k < n → (k ≡ r → ⊥) → f k ≡ g k) → tally n f + bit (g r) ≡ tally n g + bit (f r)
unfolding tally
tally-change zero f g r h e = absurd (omega arith)
tally-change (suc n) f g r h e = go (last-or-below r n h) (tally-change n f g r)
  where
    go : (r ≡ n) ⊎ (r < n) → (r < n → ((k : ℕ) → k < n → (k ≡ r → ⊥) → f k ≡ g k) → tally n f + bit (g r) ≡ tally n g + bit (f r)) → (bit (f n) + tally n f) + bit (g r) ≡ (bit (g n) + tally n g) + bit (f r)
    go (inl p) ih = rw p (omega (arith, tally-ext n f g (λ k l. e k (omega arith) (λ q. omega arith))))
    go (inr p) ih = omega (arith, ih p (λ k l. e k (omega arith)), ap bit (e n (omega arith) (λ q. omega arith)))

-- counting two tests: what passes either and what passes both
pub bit-either : (a b : Bool) → bit (a || b) + bit (a && b) ≡ bit a + bit b
bit-either true b = omega arith
bit-either false b = omega arith

pub tally-either : (n : ℕ) (f g : ℕ → Bool) → tally n (λ k. f k || g k) + tally n (λ k. f k && g k) ≡ tally n f + tally n g
unfolding tally
tally-either zero f g = refl
tally-either (suc n) f g = omega (arith, tally-either n f g, bit-either (f n) (g n))

-- some k passes exactly when the count is not 0
pub tally-some : (n : ℕ) (f : ℕ → Bool) → some n f ≡ true → 0 < tally n f
unfolding tally some
tally-some zero f h = clash false h refl
tally-some (suc n) f h = go (or_cases (f n) (some n f) h) (tally-some n f)
  where
    go : (f n ≡ true) ⊎ (some n f ≡ true) → (some n f ≡ true → 0 < tally n f) → 0 < bit (f n) + tally n f
    go (inl p) ih = rw p (omega arith)
    go (inr p) ih = omega (arith, ih p)

pub some-tally : (n : ℕ) (f : ℕ → Bool) → 0 < tally n f → some n f ≡ true
some-tally n f h = go (some n f) refl
  where
    go : (b : Bool) → some n f ≡ b → some n f ≡ true
    go true e = e
    go false e = absurd (let z : tally n f ≡ 0 = tally-none n f (some-false n f e) in omega arith)

-- ---- total

pub total_ext : (n : ℕ) (f g : ℕ → ℕ) → ((k : ℕ) → k < n → f k ≡ g k) → total n f ≡ total n g
unfolding total
total_ext zero f g h = refl
total_ext (suc n) f g h = ap₂ (λ (x y : ℕ). x + y) (h n (omega arith)) (total_ext n f g (λ k l. h k (omega arith)))

pub total_mono : (n : ℕ) (f g : ℕ → ℕ) → ((k : ℕ) → k < n → f k ≤ g k) → total n f ≤ total n g
unfolding total
total_mono zero f g h = omega arith
total_mono (suc n) f g h = omega (arith, h n (omega arith), total_mono n f g (λ k l. h k (omega arith)))

-- a sum in which only place r differs
pub total-change : (n : ℕ) (f g : ℕ → ℕ) (r : ℕ) → r < n → ((k : ℕ) → k < n → (k ≡ r → ⊥) → f k ≡ g k) → total n f + g r ≡ total n g + f r
unfolding total
total-change zero f g r h e = absurd (omega arith)
total-change (suc n) f g r h e = go (last-or-below r n h) (total-change n f g r)
  where
    go : (r ≡ n) ⊎ (r < n) → (r < n → ((k : ℕ) → k < n → (k ≡ r → ⊥) → f k ≡ g k) → total n f + g r ≡ total n g + f r) → (f n + total n f) + g r ≡ (g n + total n g) + f r
    go (inl p) ih = rw p (omega (arith, total_ext n f g (λ k l. e k (omega arith) (λ q. omega arith))))
    go (inr p) ih = omega (arith, ih p (λ k l. e k (omega arith)), e n (omega arith) (λ q. omega arith))

-- a sum of counts at most c each
pub total-le : (n c : ℕ) (f : ℕ → ℕ) → ((k : ℕ) → k < n → f k ≤ c) → total n f ≤ n * c
unfolding total
total-le zero c f h = omega arith
total-le (suc n) c f h = omega (arith, h n (omega arith), total-le n c f (λ k l. h k (omega arith)))

-- ---- a loop that counts up: what is known of the k below n, and of n, gives what is known of those below n + 1

pub some_more : (n : ℕ) (f : ℕ → Bool) → some n f ≡ false → f n ≡ false → some (n + 1) f ≡ false
unfolding some
some_more n f p q = rw (add-one n, q) p

pub tally-step : (n : ℕ) (f : ℕ → Bool) → tally (n + 1) f ≡ bit (f n) + tally n f
unfolding tally
tally-step n f = rw (add-one n)

pub total-step : (n : ℕ) (f : ℕ → ℕ) → total (n + 1) f ≡ f n + total n f
unfolding total
total-step n f = rw (add-one n)

-- before the first turn
pub some-start : (f : ℕ → Bool) → some 0 f ≡ false
unfolding some
some-start f = refl

pub total-start : (f : ℕ → ℕ) → total 0 f ≡ 0
unfolding total
total-start f = refl

-- a sum so far is at most the whole
pub total-part : (n k : ℕ) (f : ℕ → ℕ) → k ≤ n → total k f ≤ total n f
unfolding total
total-part zero k f h = let e : k ≡ 0 = omega arith in rw e (omega arith)
total-part (suc n) k f h = go (dec_lt k (suc n)) (total-part n k f)
  where
    go : Dec (k < suc n) → (k ≤ n → total k f ≤ total n f) → total k f ≤ f n + total n f
    go (yes p) ih = omega (arith, ih (omega arith))
    go (no p) ih = let e : k ≡ suc n = omega arith in rw e (omega arith)

pub total-more : (k n x : ℕ) (f : ℕ → ℕ) → n ≡ total k f → x ≡ f k → n + x ≡ total (k + 1) f
total-more k n x f p q = omega (arith, total-step k f)

-- where neither of two holds
pub or-clear : (a b : Bool) → (a || b) ≡ false → (a ≡ false) × (b ≡ false)
or-clear true b h = clash true refl h
or-clear false b h = (refl, h)
