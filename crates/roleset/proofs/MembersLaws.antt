-- Laws of `members`, the ascending list of the k below n that pass a test. Assumes nothing.
use mathlib.Core.Bool.{Bool, true, false, not, ◌&&◌, ◌||◌, or-false, and-false, and-true}
use mathlib.Core.List.{List, [], ◌∷◌, ◌++◌, append-nil}
use mathlib.Core.Logic.{◌⊎◌, inl, inr}
use mathlib.Core.Path.{◌≡◌, refl, sym, ap, ap₂, ◌∙◌}
use Prim.Native.Nat.{ℕ, zero, suc, ◌+◌, ◌≤◌, ◌<◌}
use native.Mathlib.Numerals.{add-one}
use native.Mathlib.Omega.{arith}
use borrow.Author.Tests.{eq-eqb, ne_eqb}
use lib.Dec.{eqb}
use lib.ListN.{length, length-append}
use Rattle.roleset.specs.Bounded.{bit, tally, only_if, members}
use Rattle.roleset.proofs.BoundedLaws.{tally-le, last-or-below}

-- one more place, as a loop that counts up meets it
pub members-start : (f : ℕ → Bool) → members 0 f ≡ []
unfolding members
members-start f = refl

pub members_step : (n : ℕ) (f : ℕ → Bool) → members (n + 1) f ≡ members n f ++ only_if (f n) n
unfolding members
members_step n f = rw (add-one n)

pub members-taken : (n : ℕ) (f : ℕ → Bool) → f n ≡ true → members (n + 1) f ≡ members n f ++ (n ∷ [])
members-taken n f e = members_step n f ∙ rw e

pub members-left : (n : ℕ) (f : ℕ → Bool) → f n ≡ false → members (n + 1) f ≡ members n f
members-left n f e = members_step n f ∙ rw e (append-nil (members n f))

-- there are as many as pass the test
only-length : (b : Bool) (k : ℕ) → length (only_if b k) ≡ bit b
only-length true k = refl
only-length false k = refl

pub members-length : (n : ℕ) (f : ℕ → Bool) → length (members n f) ≡ tally n f
unfolding members tally
members-length zero f = refl
members-length (suc n) f = omega (arith, length-append (members n f) (only_if (f n) n), only-length (f n) n, members-length n f)

pub members-most : (n : ℕ) (f : ℕ → Bool) → length (members n f) ≤ n
members-most n f = omega (arith, members-length n f, tally-le n f)

pub members-ext : (n : ℕ) (f g : ℕ → Bool) → ((k : ℕ) → k < n → f k ≡ g k) → members n f ≡ members n g
unfolding members
members-ext zero f g h = refl
members-ext (suc n) f g h = ap₂ (λ (l : List ℕ) (b : Bool). l ++ only_if b n) (members-ext n f g (λ k l. h k (omega arith))) (h n (omega arith))

pub members-none : (n : ℕ) (f : ℕ → Bool) → ((k : ℕ) → k < n → f k ≡ false) → members n f ≡ []
unfolding members
members-none zero f h = refl
members-none (suc n) f h = rw (members-none n f (λ k l. h k (omega arith)), h n (omega arith))

-- the lowest number that passes stands first; behind it the others
pub members-lowest : (n : ℕ) (f g : ℕ → Bool) (r : ℕ) → r < n → f r ≡ true → ((k : ℕ) → k < r → f k ≡ false) → ((k : ℕ) → k < n → g k ≡ (f k && not (eqb k r))) → members n f ≡ r ∷ members n g
unfolding members
members-lowest zero f g r h e low but = absurd (omega arith)
members-lowest (suc n) f g r h e low but = go (last-or-below r n h) (members-lowest n f g r)
  where
    go : (r ≡ n) ⊎ (r < n) → (r < n → f r ≡ true → ((k : ℕ) → k < r → f k ≡ false) → ((k : ℕ) → k < n → g k ≡ (f k && not (eqb k r))) → members n f ≡ r ∷ members n g) → members n f ++ only_if (f n) n ≡ r ∷ (members n g ++ only_if (g n) n)
    go (inl p) ih =
        let here : f n ≡ true = rw (← p) e in
        let dropped : g n ≡ false = but n (omega arith) ∙ rw (eq-eqb n r (sym p)) (and-false (f n)) in
        let before : (k : ℕ) → k < n → f k ≡ false = λ k l. low k (omega arith) in
        rw (members-none n f before, members-none n g (λ k l. but k (omega arith) ∙ rw (before k l)), here, dropped, p)
    go (inr p) ih = let same : g n ≡ f n = but n (omega arith) ∙ rw (ne_eqb n r (λ q. omega arith)) (and-true (f n)) in rw (ih p e low (λ k l. but k (omega arith)), same)

-- a list of members tells which numbers pass
among : ℕ → List ℕ → Bool
among k [] = false
among k (x ∷ l) = eqb k x || among k l

among-append : (k : ℕ) (l m : List ℕ) → among k (l ++ m) ≡ (among k l || among k m)
unfolding among
among-append k [] m = refl
among-append k (x ∷ l) m = rw (among-append k l m) (or-assoc (eqb k x) (among k l) (among k m))
  where
    or-assoc : (a b c : Bool) → (a || (b || c)) ≡ ((a || b) || c)
    or-assoc true b c = refl
    or-assoc false b c = refl

among-beyond : (n : ℕ) (f : ℕ → Bool) (k : ℕ) → n ≤ k → among k (members n f) ≡ false
unfolding members among
among-beyond zero f k h = refl
among-beyond (suc n) f k h = among-append k (members n f) (only_if (f n) n) ∙ rw (among-beyond n f k (omega arith)) (other (f n))
  where
    other : (b : Bool) → among k (only_if b n) ≡ false
    other true = rw (ne_eqb k n (λ e. omega arith))
    other false = refl

among-members : (n : ℕ) (f : ℕ → Bool) (k : ℕ) → k < n → among k (members n f) ≡ f k
unfolding members among
among-members zero f k h = absurd (omega arith)
among-members (suc n) f k h = among-append k (members n f) (only_if (f n) n) ∙ go (last-or-below k n h) (among-members n f k)
  where
    here : (b : Bool) → k ≡ n → among k (only_if b n) ≡ b
    here true e = rw (eq-eqb k n e)
    here false e = refl

    other : (b : Bool) → k < n → among k (only_if b n) ≡ false
    other true l = rw (ne_eqb k n (λ e. omega arith))
    other false l = refl

    go : (k ≡ n) ⊎ (k < n) → (k < n → among k (members n f) ≡ f k) → (among k (members n f) || among k (only_if (f n) n)) ≡ f k
    go (inl p) ih = rw (among-beyond n f k (omega arith), here (f n) p) (ap f (sym p))
    go (inr p) ih = rw (ih p, other (f n) p) (or-false (f k))

pub members-tell : (n : ℕ) (f g : ℕ → Bool) → members n f ≡ members n g → (k : ℕ) → k < n → f k ≡ g k
members-tell n f g e k l = sym (among-members n f k l) ∙ ap (among k) e ∙ among-members n g k l
