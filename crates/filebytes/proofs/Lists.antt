-- Laws of lists: what holds of every entry, ascending lists, and the ascending list of the numbers that pass a test. Assumes nothing.
use mathlib.Core.Bool.{Bool, true, false, ◌||◌}
use mathlib.Core.List.Memᴰ
use mathlib.Core.List.{List, [], ◌∷◌, ◌++◌, map, Memᴰ, append-nil}
use mathlib.Core.Logic.{◌⊎◌, inl, inr}
use mathlib.Core.Path.{◌≡◌, refl, sym, ap, ap₂, subst, ◌∙◌}
use Prim.Native.Nat.{ℕ, zero, suc, ◌≤◌, ◌<◌}
use native.Mathlib.Omega.{arith}
use lib.ListN.{length, take, length-map, length-take}
use Rattle.roleset.specs.Bounded.{only_if, members}
use Rattle.roleset.proofs.BoundedLaws.{or_cases, or_left, or_right, last-or-below}
use Rattle.filebytes.specs.Sections.{Every, Ascending, Good}

-- ---- every entry

pub every-intro : {A : Type 0} (P : A → Type 0) (l : List A) → ((a : A) → Memᴰ a l → P a) → Every P l
every-intro P [] h = tt
every-intro P (a ∷ l) h = (h a (Memᴰ.head refl), every-intro P l (λ b m. h b (Memᴰ.tail m)))

pub every-elim : {A : Type 0} (P : A → Type 0) (l : List A) → Every P l → (a : A) → Memᴰ a l → P a
every-elim {A = A} P [] p a x'' = elim x'' [ ]
every-elim P (b ∷ l) p a (Memᴰ.head e) = subst P (sym e) p.0
every-elim P (b ∷ l) p a (Memᴰ.tail m) = every-elim P l p.1 a m

pub every-weaker : {A : Type 0} (P Q : A → Type 0) → ((a : A) → P a → Q a) → (l : List A) → Every P l → Every Q l
every-weaker P Q f [] p = tt
every-weaker P Q f (a ∷ l) p = (f a p.0, every-weaker P Q f l p.1)

every_append : {A : Type 0} (P : A → Type 0) (x y : List A) → Every P x → Every P y → Every P (x ++ y)
every_append P [] y p q = q
every_append P (a ∷ x) y p q = (p.0, every_append P x y p.1 q)

every_map : {A B : Type 0} (P : A → Type 0) (Q : B → Type 0) (g : A → B) → ((a : A) → P a → Q (g a)) → (l : List A) → Every P l → Every Q (map g l)
every_map P Q g f [] p = tt
every_map P Q g f (a ∷ l) p = (f a p.0, every_map P Q g f l p.1)

-- ---- membership in a list that is made from another

pub in_map : {A B : Type 0} (g : A → B) (a : A) (l : List A) → Memᴰ a l → Memᴰ (g a) (map g l)
in_map {A = A} {B = B} g a [] x' = elim x' [ ]
in_map g a (b ∷ l) (Memᴰ.head e) = Memᴰ.head (ap g e)
in_map g a (b ∷ l) (Memᴰ.tail m) = Memᴰ.tail (in_map g a l m)

pub map-in : {A B : Type 0} (g : A → B) (l : List A) (b : B) → Memᴰ b (map g l) → (a : A) × (Memᴰ a l) × (b ≡ g a)
map-in g [] b m = absurd (Memᴰ.not-nil m)
map-in g (a ∷ l) b (Memᴰ.head e) = (a, Memᴰ.head refl, e)
map-in g (a ∷ l) b (Memᴰ.tail m) = let q = map-in g l b m in (q.0, Memᴰ.tail q.1, q.2)

-- ---- ascending

pub ascending-map : {A B : Type 0} (Before : A → A → Type 0) (Next : B → B → Type 0) (g : A → B) → ((a b : A) → Before a b → Next (g a) (g b)) → (l : List A) → Ascending Before l → Ascending Next (map g l)
ascending-map Before Next g f [] p = tt
ascending-map Before Next g f (a ∷ l) p = (every_map (Before a) (Next (g a)) g (f a) l p.0, ascending-map Before Next g f l p.1)

ascending-last : (l : List ℕ) (n : ℕ) → Ascending ◌<◌ l → Every (λ k. k < n) l → Ascending ◌<◌ (l ++ (n ∷ []))
ascending-last [] n p q = (tt, tt)
ascending-last (a ∷ l) n p q = (every_append (λ k. a < k) l (n ∷ []) p.0 (q.0, tt), ascending-last l n p.1 q.1)

-- ---- the numbers below n that pass a test

pub members-in : (n : ℕ) (test : ℕ → Bool) (k : ℕ) → Memᴰ k (members n test) → (k < n) × (test k ≡ true)
unfolding members
members-in zero test k m = absurd (Memᴰ.not-nil m)
members-in (suc n) test k m = go (Memᴰ.append_cases (members n test) m) (members-in n test k)
  where
    last : (b : Bool) → test n ≡ b → Memᴰ k (only_if b n) → (k < suc n) × (test k ≡ true)
    last true e x = let same = Memᴰ.eq_of_singleton x in (omega arith, ap test same ∙ e)
    last false e x = absurd (Memᴰ.not-nil x)

    go : Memᴰ k (members n test) ⊎ Memᴰ k (only_if (test n) n) → (Memᴰ k (members n test) → (k < n) × (test k ≡ true)) → (k < suc n) × (test k ≡ true)
    go (inl x) ih = (omega (arith, (ih x).0), (ih x).1)
    go (inr x) ih = last (test n) refl x

pub in_members : (n : ℕ) (test : ℕ → Bool) (k : ℕ) → k < n → test k ≡ true → Memᴰ k (members n test)
unfolding members
in_members zero test k l e = absurd (omega arith)
in_members (suc n) test k l e = go (last-or-below k n l) (in_members n test k)
  where
    last : (b : Bool) → b ≡ true → k ≡ n → Memᴰ k (only_if b n)
    last true p same = Memᴰ.head same
    last false p same = absurd (let z : ◌≡◌ {A = ℕ} 0 1 = cc in omega arith)

    go : (k ≡ n) ⊎ (k < n) → (k < n → test k ≡ true → Memᴰ k (members n test)) → Memᴰ k (members n test ++ only_if (test n) n)
    go (inl same) ih = Memᴰ.append_right (members n test) (last (test n) (ap test (sym same) ∙ e) same)
    go (inr below) ih = Memᴰ.append_left (only_if (test n) n) (ih below e)

pub ascending-members : (n : ℕ) (test : ℕ → Bool) → Ascending ◌<◌ (members n test)
unfolding members
ascending-members zero test = tt
ascending-members (suc n) test = go (test n) (ascending-members n test)
  where
    go : (b : Bool) → Ascending ◌<◌ (members n test) → Ascending ◌<◌ (members n test ++ only_if b n)
    go true p = ascending-last (members n test) n p (every-intro (λ k. k < n) (members n test) (λ k m. (members-in n test k m).0))
    go false p = subst (λ (l : List ℕ). Ascending ◌<◌ l) (sym (append-nil (members n test))) p

-- A section whose entries are made of the numbers that pass a test is good where each is fine, and they come in their order.
pub good-members : {A : Type 0} (limit : ℕ) (Fine : A → Type 0) (Before : A → A → Type 0) (g : ℕ → A) (n : ℕ) (test : ℕ → Bool) → length (members n test) ≤ limit → ((k : ℕ) → k < n → test k ≡ true → Fine (g k)) → ((k j : ℕ) → k < j → Before (g k) (g j)) → Good limit Fine Before (map g (members n test))
good-members limit Fine Before g n test few fine up =
    record {
      count = omega (arith, length-map (members n test) g, few);
      each = every_map (λ k. (k < n) × (test k ≡ true)) Fine g (λ k p. fine k p.0 p.1) (members n test) (every-intro (λ k. (k < n) × (test k ≡ true)) (members n test) (members-in n test));
      order = ascending-map ◌<◌ Before g up (members n test) (ascending-members n test);
    }

-- and so a list of the numbers themselves
pub good-numbers : (limit : ℕ) (Fine : ℕ → Type 0) (n : ℕ) (test : ℕ → Bool) → length (members n test) ≤ limit → ((k : ℕ) → k < n → test k ≡ true → Fine k) → Good limit Fine ◌<◌ (members n test)
good-numbers limit Fine n test few fine =
    record { count = few; each = every-intro Fine (members n test) (λ k m. let p = members-in n test k m in fine k p.0 p.1); order = ascending-members n test }

-- ---- two ascending lists with the same entries are one list

module _ {A : Type 0} (Before : A → A → Type 0) (never_both : (a b : A) → Before a b → Before b a → ⊥) where
  not_first : (a b x : A) (l k : List A) → Every (Before a) l → a ≡ b → ((y : A) → Memᴰ y (a ∷ l) → Memᴰ y (b ∷ k)) → Memᴰ x l → Memᴰ x k
  not_first a b x l k p same to m = go (Memᴰ.cases_cons (to x (Memᴰ.tail m)))
    where
      below : Before a x
      below = every-elim (Before a) l p x m

      go : (x ≡ b) ⊎ Memᴰ x k → Memᴰ x k
      go (inl e) = let self : Before a a = subst (Before a) (e ∙ sym same) below in absurd (never_both a a self self)
      go (inr i) = i

  pub same_list : (l k : List A) → Ascending Before l → Ascending Before k → ((a : A) → Memᴰ a l → Memᴰ a k) → ((a : A) → Memᴰ a k → Memᴰ a l) → l ≡ k
  same_list [] [] p q to back = refl
  same_list [] (b ∷ k) p q to back = absurd (Memᴰ.not-nil (back b (Memᴰ.head refl)))
  same_list (a ∷ l) [] p q to back = absurd (Memᴰ.not-nil (to a (Memᴰ.head refl)))
  same_list (a ∷ l) (b ∷ k) p q to back = ap₂ ◌∷◌ same (same_list l k p.1 q.1 (λ x. not_first a b x l k p.0 same to) (λ x. not_first b a x k l q.0 (sym same) back))
    where
      which : (a ≡ b) ⊎ Memᴰ a k → (b ≡ a) ⊎ Memᴰ b l → a ≡ b
      which (inl e) y = e
      which (inr i) (inl e) = sym e
      which (inr i) (inr j) = absurd (never_both a b (every-elim (Before a) l p.0 b j) (every-elim (Before b) k q.0 a i))

      same : a ≡ b
      same = which (Memᴰ.cases_cons (to a (Memᴰ.head refl))) (Memᴰ.cases_cons (back b (Memᴰ.head refl)))

-- ---- some entry passes a test

unfoldable pub any : {A : Type 0} → (A → Bool) → List A → Bool
any test [] = false
any test (a ∷ l) = test a || any test l

pub any-in : {A : Type 0} (test : A → Bool) (l : List A) → any test l ≡ true → (a : A) × (Memᴰ a l) × (test a ≡ true)
unfolding any
any-in test [] e = absurd (let z : ◌≡◌ {A = ℕ} 0 1 = cc in omega arith)
any-in {A} test (a ∷ l) e = go (or_cases (test a) (any test l) e) (any-in test l)
  where
    go : (test a ≡ true) ⊎ (any test l ≡ true) → (any test l ≡ true → (b : A) × (Memᴰ b l) × (test b ≡ true)) → (b : A) × (Memᴰ b (a ∷ l)) × (test b ≡ true)
    go (inl h) ih = (a, Memᴰ.head refl, h)
    go (inr h) ih = let q = ih h in (q.0, Memᴰ.tail q.1, q.2)

pub in-any : {A : Type 0} (test : A → Bool) (l : List A) (a : A) → Memᴰ a l → test a ≡ true → any test l ≡ true
unfolding any
in-any {A = A} test [] a x'' h = elim x'' [ ]
in-any test (b ∷ l) a (Memᴰ.head e) h = or_left (test b) (any test l) (ap test (sym e) ∙ h)
in-any test (b ∷ l) a (Memᴰ.tail m) h = or_right (test b) (any test l) (in-any test l a m h)

-- ---- the numbers below n that pass a test, each made into the entry of this number

-- An ascending list is this one, where each of its entries is that of a number that passes, and it has the entry of each such number.
pub listed_same : {A : Type 0} (Before : A → A → Type 0) → ((a b : A) → Before a b → Before b a → ⊥) → (key : A → ℕ) (entry : ℕ → A) (n : ℕ) (test : ℕ → Bool) → ((k j : ℕ) → k < j → Before (entry k) (entry j)) → (l : List A) → Ascending Before l → ((a : A) → Memᴰ a l → (key a < n) × (test (key a) ≡ true) × (entry (key a) ≡ a)) → ((k : ℕ) → k < n → test k ≡ true → Memᴰ (entry k) l) → map entry (members n test) ≡ l
listed_same {A} Before never_both key entry n test up l p own has-each = same_list Before never_both (map entry (members n test)) l (ascending-map ◌<◌ Before entry up (members n test) (ascending-members n test)) p to back
  where
    to : (a : A) → Memᴰ a (map entry (members n test)) → Memᴰ a l
    to a m = let q = map-in entry (members n test) a m in let i = members-in n test q.0 q.1 in Memᴰ.cast q.2 (has-each q.0 i.0 i.1)

    back : (a : A) → Memᴰ a l → Memᴰ a (map entry (members n test))
    back a m = let o = own a m in Memᴰ.cast (sym o.2) (in_map entry (key a) (members n test) (in_members n test (key a) o.0 o.1))

pub less-never : (a b : ℕ) → a < b → b < a → ⊥
less-never a b p q = omega arith

-- ---- how long an ascending list is

module _ {A : Type 0} (Before : A → A → Type 0) (never_both : (a b : A) → Before a b → Before b a → ⊥) where
  -- the entries of a list that starts later are those of the rest
  in_rest : (a b : A) (l k : List A) → Ascending Before (a ∷ l) → Ascending Before (b ∷ k) → ((y : A) → Memᴰ y (a ∷ l) → Memᴰ y (b ∷ k)) → Memᴰ a k → (x : A) → Memᴰ x (a ∷ l) → Memᴰ x k
  in_rest a b l k p q to i x (Memᴰ.head e) = Memᴰ.cast e i
  in_rest a b l k p q to i x (Memᴰ.tail m) = go (Memᴰ.cases_cons (to x (Memᴰ.tail m)))
    where
      go : (x ≡ b) ⊎ Memᴰ x k → Memᴰ x k
      go (inl e) = absurd (never_both a b (subst (Before a) e (every-elim (Before a) l p.0 x m)) (every-elim (Before b) k q.0 a i))
      go (inr j) = j

  -- An ascending list whose entries stand in another is not longer,
  pub shorter : (k l : List A) → Ascending Before l → Ascending Before k → ((a : A) → Memᴰ a l → Memᴰ a k) → length l ≤ length k
  shorter [] [] p q to = omega arith
  shorter (b ∷ k) [] p q to = omega arith
  shorter [] (a ∷ l) p q to = absurd (Memᴰ.not-nil (to a (Memᴰ.head refl)))
  shorter (b ∷ k) (a ∷ l) p q to = go (Memᴰ.cases_cons (to a (Memᴰ.head refl))) (λ x p' to'. shorter k x p' q.1 to')
    where
      go : (a ≡ b) ⊎ Memᴰ a k → ((x : List A) → Ascending Before x → ((y : A) → Memᴰ y x → Memᴰ y k) → length x ≤ length k) → length (a ∷ l) ≤ length (b ∷ k)
      go (inl e) ih = omega (arith, ih l p.1 (λ x. not_first Before never_both a b x l k p.0 e to))
      go (inr i) ih = omega (arith, ih (a ∷ l) p (in_rest a b l k p q to i))

  -- and where it is as long, it is the other.
  pub fills : (l k : List A) → Ascending Before l → Ascending Before k → ((a : A) → Memᴰ a l → Memᴰ a k) → length k ≡ length l → k ≡ l
  fills [] [] p q to n = refl
  fills [] (b ∷ k) p q to n = absurd (omega arith)
  fills (a ∷ l) [] p q to n = absurd (omega arith)
  fills (a ∷ l) (b ∷ k) p q to n = go (Memᴰ.cases_cons (to a (Memᴰ.head refl))) (λ to'. fills l k p.1 q.1 to' (omega arith))
    where
      go : (a ≡ b) ⊎ Memᴰ a k → (((y : A) → Memᴰ y l → Memᴰ y k) → k ≡ l) → b ∷ k ≡ a ∷ l
      go (inl e) ih = ap₂ ◌∷◌ (sym e) (ih (λ x. not_first Before never_both a b x l k p.0 e to))
      go (inr i) ih = absurd (omega (arith, shorter k (a ∷ l) p q.1 (in_rest a b l k p q to i)))

every_take : {A : Type 0} (P : A → Type 0) (n : ℕ) (l : List A) → Every P l → Every P (take n l)
every_take P zero l p = tt
every_take P (suc n) [] p = tt
every_take P (suc n) (a ∷ l) p = (p.0, every_take P n l p.1)

ascending-take : {A : Type 0} (Before : A → A → Type 0) (n : ℕ) (l : List A) → Ascending Before l → Ascending Before (take n l)
ascending-take Before zero l p = tt
ascending-take Before (suc n) [] p = tt
ascending-take Before (suc n) (a ∷ l) p = (every_take (Before a) n l p.0, ascending-take Before n l p.1)

-- n different numbers below `most` that pass a test: there are so many exactly when as many as n pass it
pub some-passing : (most : ℕ) (test : ℕ → Bool) (n : ℕ) → n ≤ length (members most test) → (l : List ℕ) × (length l ≡ n) × (Ascending ◌<◌ l) × (Every (λ k. test k ≡ true) l)
some-passing most test n h = (take n (members most test), length-take n (members most test) ∙ omega arith, ascending-take ◌<◌ n (members most test) (ascending-members most test), every_take (λ k. test k ≡ true) n (members most test) (every-intro (λ k. test k ≡ true) (members most test) (λ k m. (members-in most test k m).1)))

pub passing-few : (most : ℕ) (test : ℕ → Bool) (l : List ℕ) → Ascending ◌<◌ l → Every (λ k. (k < most) × (test k ≡ true)) l → length l ≤ length (members most test)
passing-few most test l p q = shorter ◌<◌ less-never (members most test) l p (ascending-members most test) (λ k m. let y = every-elim (λ k. (k < most) × (test k ≡ true)) l q k m in in_members most test k y.0 y.1)
