-- Lists of numbers: what is tested of them is what is said of them. Assumes nothing.
use mathlib.Core.Bool.{Bool, true, false, ◌&&◌, ◌||◌}
use mathlib.Core.List.Memᴰ
use mathlib.Core.List.{List, [], ◌∷◌, Memᴰ}
use mathlib.Core.Logic.{◌⊎◌, inl, inr, ◌↔◌}
use mathlib.Core.Path.{◌≡◌, refl}
use Prim.Native.Nat.{ℕ, suc, ◌≤◌, ◌<◌}
use native.Mathlib.Omega.{arith}
use lib.Dec.{eqb, leb}
use borrow.Author.Tests.{eqb-true, eq-eqb, leb-true, le-leb}
use Rattle.roleset.proofs.BoundedLaws.{clash, and_left, and_right, and_both, or_cases, or_left, or_right}
use Rattle.model.specs.Lists.{ascending, rising, listed}
use Rattle.demands.specs.Many.{Ascending, empty, single, rises}

-- A role is listed where it stands in the list.
pub member : (list : List ℕ) (r : ℕ) → (listed list r ≡ true) ↔ Memᴰ r list
unfolding listed
member list r = (to list, back list)
  where
    to : (l : List ℕ) → listed l r ≡ true → Memᴰ r l
    to [] e = clash false e refl
    to (a ∷ rest) e = go (or_cases (eqb r a) (listed rest r) e) (to rest)
      where
        go : (eqb r a ≡ true) ⊎ (listed rest r ≡ true) → (listed rest r ≡ true → Memᴰ r rest) → Memᴰ r (a ∷ rest)
        go (inl p) ih = Memᴰ.head (eqb-true r a p)
        go (inr p) ih = Memᴰ.tail (ih p)

    back : (l : List ℕ) → Memᴰ r l → listed l r ≡ true
    back [] x = absurd (Memᴰ.not-nil x)
    back (a ∷ rest) (Memᴰ.head e) = or_left (eqb r a) (listed rest r) (eq-eqb r a e)
    back (a ∷ rest) (Memᴰ.tail x) = or_right (eqb r a) (listed rest r) (back rest x)

rising-from : (bound a : ℕ) (rest : List ℕ) → rising bound (a ∷ rest) ≡ true → (bound ≤ a) × (rising (suc a) rest ≡ true)
unfolding rising
rising-from bound a rest e = (leb-true bound a (and_left (leb bound a) _ e), and_right (leb bound a) _ e)

-- the first number of the list, if it has one, is at least this
abbrev From : ℕ → List ℕ → Type 0
From bound [] = Unit {0}
From bound (a ∷ rest) = bound ≤ a

-- A list passes the test exactly where each of its numbers is less than the next.
pub ascends : (list : List ℕ) → (ascending list ≡ true) ↔ Ascending list
unfolding rising
ascends list = (to 0 list, λ a. back 0 list a (from_zero list))
  where
    to : (bound : ℕ) (l : List ℕ) → rising bound l ≡ true → Ascending l
    to bound [] e = empty
    to bound (a ∷ []) e = single
    to bound (a ∷ b ∷ rest) e =
        let h = rising-from bound a (b ∷ rest) e in
        let k = rising-from (suc a) b rest h.1 in
        let up : a < b = omega arith in
        rises up (to (suc a) (b ∷ rest) h.1)

    from_zero : (l : List ℕ) → From 0 l
    from_zero [] = tt
    from_zero (a ∷ rest) = omega arith

    back : (bound : ℕ) (l : List ℕ) → Ascending l → From bound l → rising bound l ≡ true
    back bound [] x f = refl
    back bound (a ∷ []) single f = and_both (leb bound a) true (le-leb bound a f) refl
    back bound (a ∷ b ∷ rest) (rises l x) f = and_both (leb bound a) _ (le-leb bound a f) (back (suc a) (b ∷ rest) x (omega arith))

-- ---- an ascending list

-- In an ascending list the first number is less than every other,
pub first-least : {a : ℕ} {l : List ℕ} → Ascending (a ∷ l) → (k : ℕ) → Memᴰ k l → a < k
first-least single k h = absurd (Memᴰ.not-nil h)
first-least {a} (rises {b = b} {rest = rest} lt order) k h = go (Memᴰ.cases_cons h) (first-least order k)
  where
    go : (k ≡ b) ⊎ Memᴰ k rest → (Memᴰ k rest → b < k) → a < k
    go (inl e) ih = omega arith
    go (inr t) ih = let z = ih t in omega arith

-- and the others are an ascending list;
pub later-ascending : {a : ℕ} {l : List ℕ} → Ascending (a ∷ l) → Ascending l
later-ascending single = empty
later-ascending (rises lt order) = order

-- so what stands in a list and is not its first stands in the rest.
not_first : {a k : ℕ} {l : List ℕ} → a < k → Memᴰ k (a ∷ l) → Memᴰ k l
not_first {a} {k} {l} lt h = go (Memᴰ.cases_cons h)
  where
    go : (k ≡ a) ⊎ Memᴰ k l → Memᴰ k l
    go (inl e) = absurd (omega arith)
    go (inr t) = t

pub least_first : {a b : ℕ} {l : List ℕ} → Ascending (b ∷ l) → Memᴰ a (b ∷ l) → b ≤ a
least_first {a} {b} {l} order h = go (Memᴰ.cases_cons h)
  where
    go : (a ≡ b) ⊎ Memᴰ a l → b ≤ a
    go (inl e) = omega arith
    go (inr t) = let z = first-least order a t in omega arith

-- Two ascending lists in which the same numbers stand are one.
pub one_list : (l k : List ℕ) → Ascending l → Ascending k → ((n : ℕ) → Memᴰ n l → Memᴰ n k) → ((n : ℕ) → Memᴰ n k → Memᴰ n l) → l ≡ k
one_list [] [] f g to back = refl
one_list [] (b ∷ k) f g to back = absurd (Memᴰ.not-nil (back b (Memᴰ.head refl)))
one_list (a ∷ l) [] f g to back = absurd (Memᴰ.not-nil (to a (Memᴰ.head refl)))
one_list (a ∷ l) (b ∷ k) f g to back =
    let low = least_first g (to a (Memᴰ.head refl)) in
    let high = least_first f (back b (Memᴰ.head refl)) in
    let same : a ≡ b = omega arith in
    let rest : l ≡ k = one_list l k (later-ascending f) (later-ascending g) (λ n h. let z = first-least f n h in not_first (omega arith) (to n (Memᴰ.tail h))) (λ n h. let z = first-least g n h in not_first (omega arith) (back n (Memᴰ.tail h))) in
    cc
