-- What gathering all entries of a table, in ascending order, makes of an empty one: the table. Assumes nothing.
use mathlib.Core.Bool.{Bool, true, false, ◌&&◌, ◌||◌}
use mathlib.Core.List.{foldl, foldl-append}
use mathlib.Core.Logic.{◌⊎◌, inl, inr}
use mathlib.Core.Path.{◌≡◌, refl, sym, ap, ap₂, ◌∙◌, fun_ext}
use Prim.Native.Nat.{ℕ, zero, suc, ◌+◌, ◌≤◌, ◌<◌, ◌^◌}
use native.Mathlib.Decide.{dec_lt}
use native.Mathlib.Numerals.{add-one}
use native.Mathlib.Omega.{arith}
use lib.Dec.{eqb, ltb}
use borrow.Author.Tests.{eqb-true, eqb-false, lt-ltb, le-ltb}
use Rattle.roleset.specs.Bounded.{only_if, members}
use Rattle.roleset.specs.Roles.{has, with}
use Rattle.roleset.proofs.Laws.{ext, has-none, has-with, with-small}
use Rattle.roleset.proofs.BoundedLaws.{clash, last-or-below}
use Rattle.model.specs.Model.{put}
use Rattle.model.proofs.Puts.{put_same, put_other}

-- entry by entry, in the order of the numbers
module _ {A : Type 0} (act : A → ℕ → A) (test : ℕ → Bool) (P : ℕ → A → Type 0) (taken : (n : ℕ) (a : A) → test n ≡ true → P n a → P (n + 1) (act a n)) (left : (n : ℕ) (a : A) → test n ≡ false → P n a → P (n + 1) a) where
  pub fold_members : (n : ℕ) (a : A) → P 0 a → P n (foldl act a (members n test))
  unfolding members
  fold_members zero a p = p
  fold_members (suc n) a p = rw (foldl-append act a (members n test) (only_if (test n) n), ← add-one n) (go (test n) refl (fold_members n a p))
    where
      go : (b : Bool) → test n ≡ b → P n (foldl act a (members n test)) → P (n + 1) (foldl act (foldl act a (members n test)) (only_if b n))
      go true e q = taken n (foldl act a (members n test)) e q
      go false e q = left n (foldl act a (members n test)) e q

-- a record at each place that passes the test
module _ {A : Type 0} (d : A) (g : ℕ → A) (test : ℕ → Bool) (size : ℕ) (absent : (k : ℕ) → test k ≡ false → g k ≡ d) (small : (k : ℕ) → test k ≡ true → k < size) where
  abbrev placing : (ℕ → A) → ℕ → ℕ → A
  placing t n = put t n (g n)

  -- the table of which the places below n are gathered
  record Placed (n : ℕ) (t : ℕ → A) : Type 0 where
    pub done : (k : ℕ) → k < n → t k ≡ g k
    pub left : (k : ℕ) → n ≤ k → t k ≡ d

  placed_taken : (n : ℕ) (t : ℕ → A) → test n ≡ true → Placed n t → Placed (n + 1) (placing t n)
  placed_taken n t e p = record { done = λ k h. go k (last-or-below k n (omega arith)); left = λ k h. put_other t n (g n) k (λ q. omega arith) ∙ p.left k (omega arith) }
    where
      go : (k : ℕ) → (k ≡ n) ⊎ (k < n) → put t n (g n) k ≡ g k
      go k (inl q) = rw q (put_same t n (g n))
      go k (inr q) = put_other t n (g n) k (λ r. omega arith) ∙ p.done k q

  placed_left : (n : ℕ) (t : ℕ → A) → test n ≡ false → Placed n t → Placed (n + 1) t
  placed_left n t e p = record { done = λ k h. go k (last-or-below k n (omega arith)); left = λ k h. p.left k (omega arith) }
    where
      go : (k : ℕ) → (k ≡ n) ⊎ (k < n) → t k ≡ g k
      go k (inl q) = rw q (p.left n (omega arith) ∙ sym (absent n e))
      go k (inr q) = p.done k q

  pub records_back : foldl placing (λ k. d) (members size test) ≡ g
  records_back = fun_ext (λ k. go k (dec_lt k size))
    where
      all : Placed size (foldl placing (λ k. d) (members size test))
      all = fold_members placing test Placed placed_taken placed_left size (λ k. d) (record { done = λ k h. absurd (omega arith); left = λ k h. refl })

      outside : (k : ℕ) → size ≤ k → (b : Bool) → test k ≡ b → test k ≡ false
      outside k h true e = let s = small k e in absurd (omega arith)
      outside k h false e = e

      go : (k : ℕ) → Dec (k < size) → foldl placing (λ k. d) (members size test) k ≡ g k
      go k (yes p) = all.done k p
      go k (no p) = all.left k (omega arith) ∙ sym (absent k (outside k (omega arith) (test k) refl))

-- ---- sets of roles

-- a set of which the roles below n are gathered
record Gathered (r n s : ℕ) : Type 0 where
  pub small : s < 2 ^ 64
  pub each : (k : ℕ) → k < 64 → has s k ≡ (ltb k n && has r k)

-- whether k is below n, and below n + 1
below_next : (k n : ℕ) (b : Bool) → (k ≡ n → ⊥) → (ltb k (n + 1) && b) ≡ (ltb k n && b)
below_next k n b h = go (dec_lt k n)
  where
    go : Dec (k < n) → (ltb k (n + 1) && b) ≡ (ltb k n && b)
    go (yes p) = rw (lt-ltb k (n + 1) (omega arith), lt-ltb k n p)
    go (no p) = rw (le-ltb k (n + 1) (omega arith), le-ltb k n (omega arith))

below-same : (k n : ℕ) (b : Bool) → b ≡ false → (ltb k (n + 1) && b) ≡ (ltb k n && b)
below-same k n b h = rw h (go (ltb k (n + 1)) (ltb k n))
  where
    go : (x y : Bool) → (x && false) ≡ (y && false)
    go true true = refl
    go true false = refl
    go false true = refl
    go false false = refl

or_no : (a : Bool) → (a || false) ≡ a
or_no true = refl
or_no false = refl

or_yes : (a : Bool) → (a || true) ≡ true
or_yes true = refl
or_yes false = refl

pub roles-back : (r : ℕ) → r < 2 ^ 64 → foldl with 0 (members 64 (has r)) ≡ r
roles-back r h =
    let x = fold_members with (has r) (Gathered r) taken left 64 0 start in
    ext (foldl with 0 (members 64 (has r))) r x.small h (λ k l. x.each k l ∙ rw (lt-ltb k 64 l))
  where
    start : Gathered r 0 0
    start = record { small = omega arith; each = λ k l. has-none k ∙ sym (rw (le-ltb k 0 (omega arith))) }

    taken : (n s : ℕ) → has r n ≡ true → Gathered r n s → Gathered r (n + 1) (with s n)
    taken n s e g = record { small = with-small s n; each = λ k l. has-with s n k l ∙ go k l (eqb k n) refl }
      where
        go : (k : ℕ) → k < 64 → (b : Bool) → eqb k n ≡ b → (has s k || eqb k n) ≡ (ltb k (n + 1) && has r k)
        go k l true q = let p = eqb-true k n q in rw q (or_yes (has s k) ∙ sym (rw (lt-ltb k (n + 1) (omega arith), p, e)))
        go k l false q = rw q (or_no (has s k) ∙ g.each k l ∙ sym (below_next k n (has r k) (eqb-false k n q)))

    left : (n s : ℕ) → has r n ≡ false → Gathered r n s → Gathered r (n + 1) s
    left n s e g = record { small = g.small; each = λ k l. g.each k l ∙ sym (go k (eqb k n) refl) }
      where
        go : (k : ℕ) (b : Bool) → eqb k n ≡ b → (ltb k (n + 1) && has r k) ≡ (ltb k n && has r k)
        go k true q = below-same k n (has r k) (ap (has r) (eqb-true k n q) ∙ e)
        go k false q = below_next k n (has r k) (eqb-false k n q)

-- ---- tables of sets: entry k is the role `col k` at place `row k`, and `num` is the number of a place and a role

-- the numbers fit: of every place and role, and of every entry
pub record Numbered (size all : ℕ) (row col : ℕ → ℕ) (num : ℕ → ℕ → ℕ) : Type 0 where
  pub within : (i r : ℕ) → i < size → r < 64 → num i r < all
  pub place : (i r : ℕ) → i < size → r < 64 → row (num i r) ≡ i
  pub role : (i r : ℕ) → i < size → r < 64 → col (num i r) ≡ r
  pub number : (k : ℕ) → num (row k) (col k) ≡ k
  pub inside : (k : ℕ) → k < all → row k < size

module _ (size all : ℕ) (row col : ℕ → ℕ) (num : ℕ → ℕ → ℕ) (fit : Numbered size all row col num) (table : ℕ → ℕ) (small : (i : ℕ) → table i < 2 ^ 64) (none : (i : ℕ) → size ≤ i → table i ≡ 0) where
  -- entry k is added
  abbrev marking : (ℕ → ℕ) → ℕ → ℕ → ℕ
  marking t k = put t (row k) (with (t (row k)) (col k))

  -- the table of which the entries below n are gathered
  record Marked (n : ℕ) (t : ℕ → ℕ) : Type 0 where
    pub past : (i : ℕ) → size ≤ i → t i ≡ 0
    pub fine : (i : ℕ) → i < size → t i < 2 ^ 64
    pub each : (i r : ℕ) → i < size → r < 64 → has (t i) r ≡ (ltb (num i r) n && has (table i) r)

  -- another place or another role is another entry
  other : (n i r : ℕ) → i < size → r < 64 → (row n ≡ i → col n ≡ r → ⊥) → num i r ≡ n → ⊥
  other n i r h l x e = x (ap row (sym e) ∙ fit.place i r h l) (ap col (sym e) ∙ fit.role i r h l)

  marked_taken : (n : ℕ) (t : ℕ → ℕ) → has (table (row n)) (col n) ≡ true → Marked n t → Marked (n + 1) (marking t n)
  marked_taken n t e m = record { past = λ i h. put_other t (row n) new i (λ e. omega (arith, inside)) ∙ m.past i h; fine = λ i h. fine i h (eqb i (row n)) refl; each = λ i r h l. each i r h l (eqb i (row n)) refl }
    where
      within : Dec (row n < size) → row n < size
      within (yes p) = p
      within (no p) = clash (has (table (row n)) (col n)) e (ap (λ (s : ℕ). has s (col n)) (none (row n) (omega arith)) ∙ has-none (col n))

      inside : row n < size
      inside = within (dec_lt (row n) size)

      new : ℕ
      new = with (t (row n)) (col n)

      fine : (i : ℕ) → i < size → (b : Bool) → eqb i (row n) ≡ b → put t (row n) new i < 2 ^ 64
      fine i h true q = rw (eqb-true i (row n) q, put_same t (row n) new) (with-small (t (row n)) (col n))
      fine i h false q = rw (put_other t (row n) new i (eqb-false i (row n) q)) (m.fine i h)

      here : (r : ℕ) → r < 64 → (b : Bool) → eqb r (col n) ≡ b → (has (t (row n)) r || eqb r (col n)) ≡ (ltb (num (row n) r) (n + 1) && has (table (row n)) r)
      here r l true q = let p = eqb-true r (col n) q in rw (q, p, fit.number n, lt-ltb n (n + 1) (omega arith), e) (or_yes (has (t (row n)) (col n)))
      here r l false q = rw q (or_no (has (t (row n)) r) ∙ m.each (row n) r inside l ∙ sym (below_next (num (row n) r) n (has (table (row n)) r) (other n (row n) r inside l (λ a b. eqb-false r (col n) q (sym b)))))

      each : (i r : ℕ) → i < size → r < 64 → (b : Bool) → eqb i (row n) ≡ b → has (put t (row n) new i) r ≡ (ltb (num i r) (n + 1) && has (table i) r)
      each i r h l true q = rw (eqb-true i (row n) q, put_same t (row n) new) (has-with (t (row n)) (col n) r l ∙ here r l (eqb r (col n)) refl)
      each i r h l false q = rw (put_other t (row n) new i (eqb-false i (row n) q)) (m.each i r h l ∙ sym (below_next (num i r) n (has (table i) r) (other n i r h l (λ a b. eqb-false i (row n) q (sym a)))))

  marked_left : (n : ℕ) (t : ℕ → ℕ) → has (table (row n)) (col n) ≡ false → Marked n t → Marked (n + 1) t
  marked_left n t e m = record { past = m.past; fine = m.fine; each = λ i r h l. m.each i r h l ∙ sym (go i r h l (eqb (num i r) n) refl) }
    where
      go : (i r : ℕ) → i < size → r < 64 → (b : Bool) → eqb (num i r) n ≡ b → (ltb (num i r) (n + 1) && has (table i) r) ≡ (ltb (num i r) n && has (table i) r)
      go i r h l true q =
          let p = eqb-true (num i r) n q in
          below-same (num i r) n (has (table i) r) (ap₂ (λ (a b : ℕ). has (table a) b) (sym (fit.place i r h l) ∙ ap row p) (sym (fit.role i r h l) ∙ ap col p) ∙ e)
      go i r h l false q = below_next (num i r) n (has (table i) r) (eqb-false (num i r) n q)

  pub grid_back : foldl marking (λ i. 0) (members all (λ k. has (table (row k)) (col k))) ≡ table
  grid_back = fun_ext (λ i. go i (dec_lt i size))
    where
      done : Marked all (foldl marking (λ i. 0) (members all (λ k. has (table (row k)) (col k))))
      done = fold_members marking (λ k. has (table (row k)) (col k)) Marked marked_taken marked_left all (λ i. 0)
          (record { past = λ i h. refl; fine = λ i h. omega arith; each = λ i r h p. rw (le-ltb (num i r) 0 (omega arith)) (has-none r) })

      go : (i : ℕ) → Dec (i < size) → foldl marking (λ i. 0) (members all (λ k. has (table (row k)) (col k))) i ≡ table i
      go i (yes p) = ext _ (table i) (done.fine i p) (small i) (λ r h. done.each i r p h ∙ rw (lt-ltb (num i r) all (fit.within i r p h)))
      go i (no p) = done.past i (omega arith) ∙ sym (none i (omega arith))
