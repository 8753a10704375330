-- A list of members is strictly ascending, and k is in it exactly if k is below the bound and passes the test. Assumes nothing.
use mathlib.Core.Bool.{Bool, true, false, ◌&&◌, ◌||◌}
use mathlib.Core.List.{List, [], ◌∷◌, ◌++◌}
use mathlib.Core.Logic.{◌⊎◌, inl, inr}
use mathlib.Core.Path.{◌≡◌, refl, ap, ◌∙◌}
use Prim.Native.Nat.{ℕ, zero, suc, ◌≤◌, ◌<◌}
use native.Mathlib.Omega.{arith}
use lib.Dec.{eqb, leb, ltb}
use borrow.Author.Tests.{eq-eqb, eqb-true, le-leb, lt-ltb, ltb-true}
use Rattle.roleset.specs.Bounded.{only_if, members}
use Rattle.roleset.proofs.BoundedLaws.{clash, last-or-below, and_left, and_right, and_both, or_cases, or_left, or_right, agree}
use Rattle.model.specs.Lists.{rising, ascending, listed}

-- ---- who is in a list that was joined

joined-left : (a b : List ℕ) (k : ℕ) → listed a k ≡ true → listed (a ++ b) k ≡ true
unfolding listed
joined-left [] b k e = clash false e refl
joined-left (x ∷ a) b k e = go (or_cases (eqb k x) (listed a k) e) (joined-left a b k)
  where
    go : (eqb k x ≡ true) ⊎ (listed a k ≡ true) → (listed a k ≡ true → listed (a ++ b) k ≡ true) → (eqb k x || listed (a ++ b) k) ≡ true
    go (inl p) ih = or_left (eqb k x) (listed (a ++ b) k) p
    go (inr p) ih = or_right (eqb k x) (listed (a ++ b) k) (ih p)

joined-right : (a b : List ℕ) (k : ℕ) → listed b k ≡ true → listed (a ++ b) k ≡ true
unfolding listed
joined-right [] b k e = e
joined-right (x ∷ a) b k e = or_right (eqb k x) (listed (a ++ b) k) (joined-right a b k e)

joined-cases : (a b : List ℕ) (k : ℕ) → listed (a ++ b) k ≡ true → (listed a k ≡ true) ⊎ (listed b k ≡ true)
unfolding listed
joined-cases [] b k e = inr e
joined-cases (x ∷ a) b k e = go (or_cases (eqb k x) (listed (a ++ b) k) e) (joined-cases a b k)
  where
    go : (eqb k x ≡ true) ⊎ (listed (a ++ b) k ≡ true) → (listed (a ++ b) k ≡ true → (listed a k ≡ true) ⊎ (listed b k ≡ true)) → ((eqb k x || listed a k) ≡ true) ⊎ (listed b k ≡ true)
    go (inl p) ih = inl (or_left (eqb k x) (listed a k) p)
    go (inr p) ih = last (ih p)
      where
        last : (listed a k ≡ true) ⊎ (listed b k ≡ true) → ((eqb k x || listed a k) ≡ true) ⊎ (listed b k ≡ true)
        last (inl q) = inl (or_right (eqb k x) (listed a k) q)
        last (inr q) = inr q

only-cases : (b : Bool) (n k : ℕ) → listed (only_if b n) k ≡ true → (k ≡ n) × (b ≡ true)
unfolding listed
only-cases true n k e = go (or_cases (eqb k n) false e)
  where
    go : (eqb k n ≡ true) ⊎ (false ≡ true) → (k ≡ n) × (true ≡ true)
    go (inl p) = (eqb-true k n p, refl)
    go (inr p) = clash false p refl
only-cases false n k e = clash false e refl

only-listed : (b : Bool) (n : ℕ) → b ≡ true → listed (only_if b n) n ≡ true
unfolding listed
only-listed b n e = rw e (or_left (eqb n n) false (eq-eqb n n refl))

-- ---- members

-- what is listed is below the bound and passes the test
pub listed-member : (n : ℕ) (f : ℕ → Bool) (k : ℕ) → listed (members n f) k ≡ true → (k < n) × (f k ≡ true)
unfolding members listed
listed-member zero f k e = clash false e refl
listed-member (suc n) f k e = go (joined-cases (members n f) (only_if (f n) n) k e) (listed-member n f k)
  where
    go : (listed (members n f) k ≡ true) ⊎ (listed (only_if (f n) n) k ≡ true) → (listed (members n f) k ≡ true → (k < n) × (f k ≡ true)) → (k < suc n) × (f k ≡ true)
    go (inl p) ih = let r = ih p in (omega arith, r.1)
    go (inr p) ih = let r = only-cases (f n) n k p in (omega (arith, r.0), ap f r.0 ∙ r.1)

-- and all that is so is listed
pub member-listed : (n : ℕ) (f : ℕ → Bool) (k : ℕ) → k < n → f k ≡ true → listed (members n f) k ≡ true
unfolding members
member-listed zero f k h e = absurd (omega arith)
member-listed (suc n) f k h e = go (last-or-below k n h) (member-listed n f k)
  where
    go : (k ≡ n) ⊎ (k < n) → (k < n → f k ≡ true → listed (members n f) k ≡ true) → listed (members n f ++ only_if (f n) n) k ≡ true
    go (inl p) ih = joined-right (members n f) (only_if (f n) n) k (rw p (only-listed (f n) n (rw p at e)))
    go (inr p) ih = joined-left (members n f) (only_if (f n) n) k (ih p e)

-- k is in the list of the members below n exactly if k is below n and passes the test
pub members-listed : (n : ℕ) (f : ℕ → Bool) (k : ℕ) → listed (members n f) k ≡ (ltb k n && f k)
members-listed n f k = agree (listed (members n f) k) (ltb k n && f k)
    (λ e. let r = listed-member n f k e in and_both (ltb k n) (f k) (lt-ltb k n r.0) r.1)
    (λ e. member-listed n f k (ltb-true k n (and_left (ltb k n) (f k) e)) (and_right (ltb k n) (f k) e))

-- ---- the order

-- a number above all that is listed, put at the end
rising-end : (bound n : ℕ) (l : List ℕ) → rising bound l ≡ true → ((k : ℕ) → listed l k ≡ true → k < n) → bound ≤ n → rising bound (l ++ (n ∷ [])) ≡ true
unfolding rising listed
rising-end bound n [] r h le = and_both (leb bound n) true (le-leb bound n le) refl
rising-end bound n (a ∷ l) r h le =
    and_both (leb bound a) (rising (suc a) (l ++ (n ∷ []))) (and_left (leb bound a) (rising (suc a) l) r)
    (rising-end (suc a) n l (and_right (leb bound a) (rising (suc a) l) r) (λ k e. h k (or_right (eqb k a) (listed l k) e)) (let b : a < n = h a (or_left (eqb a a) (listed l a) (eq-eqb a a refl)) in omega arith))

-- the list of the members below n is strictly ascending: there are no repeats
pub members-ascending : (n : ℕ) (f : ℕ → Bool) → ascending (members n f) ≡ true
unfolding members rising
members-ascending zero f = refl
members-ascending (suc n) f = go (f n) (members-ascending n f)
  where
    go : (b : Bool) → ascending (members n f) ≡ true → ascending (members n f ++ only_if b n) ≡ true
    go true ih = rising-end 0 n (members n f) ih (λ k e. (listed-member n f k e).0) (omega arith)
    go false ih = rw (mathlib.Core.List.append-nil (members n f)) ih
