-- Parts of a state, read and stored. Assumes nothing.
use mathlib.Core.Bool.{Bool, true, ◌||◌, or-true}
use mathlib.Core.List.{List}
use mathlib.Core.Logic.{◌⊎◌, inl, inr}
use mathlib.Core.Path.{◌≡◌, refl, sym, ap, ◌∙◌, fun_ext}
use Prim.Native.Nat.{ℕ, ◌+◌, ◌-◌, ◌<◌, ◌≤◌}
use native.Mathlib.Omega.{arith}
use native.Mathlib.Decide.{dec_lt}
use borrow.Author.Tests.{leb-true, le-leb}
use lib.Dec.{leb}
use lib.ListN.{get_or, length, set, take, drop, length-drop, length-set, length-take, get_or-eq_default}
use lib.Seq.{length-take-le, take-set-lt, drop-set-add, get_or-take, get_or-drop, get_or-set_other}
use borrow.Author.Rules.{rules}
use borrow.Rule.Slice.PartMut.{put_mid}
use Rattle.std.proofs.lemmas.List.{places}
use Rattle.std.proofs.lemmas.Slice.{between-put_mid}
use Rattle.roleset.proofs.BoundedLaws.{or_cases}
use Rattle.hierarchy.specs.Lines.{table_of}
use Rattle.model.specs.Model.{put}
use Rattle.state.specs.Stores.{Table}
use Rattle.state.specs.View.{part}
use Rattle.state.proofs.Tables.{set_put}

-- a number within a part, and past it
pub part_at : (l : List ℕ) (o n k : ℕ) → k < n → part l o n k ≡ get_or l (o + k) 0
part_at l o n k p = get_or-take n (drop o l) k 0 p ∙ get_or-drop o l k 0

pub part_none : (l : List ℕ) (o n k : ℕ) → n ≤ k → part l o n k ≡ 0
part_none l o n k p = get_or-eq_default (take n (drop o l)) 0 {n = k} (rw (length-take n (drop o l)) (omega arith))

-- how long a part is
pub part_length : (l : List ℕ) (o n : ℕ) → o + n ≤ length l → length (take n (drop o l)) ≡ n
part_length l o n q = length-take-le n (drop o l) (rw (length-drop o l) (omega (arith, q)))

-- what is lent of a state is a table
pub lent : (l : List ℕ) (o n : ℕ) → o + n ≤ length l → Table n (part l o n) (take n (drop o l))
lent l o n q = record { long = part_length l o n q; each = refl }

-- ---- what is stored within one part leaves the others

-- the two states differ within the n numbers from place o on at most
pub record Within (o n : ℕ) (l after : List ℕ) : Type 0 where
  pub long : length after ≡ length l
  pub rest : (k : ℕ) → (k < o) ⊎ (o + n ≤ k) → get_or after k 0 ≡ get_or l k 0

-- the places p to p + q are none of the n from o on
abbrev pub apart : ℕ → ℕ → ℕ → ℕ → Bool
apart o n p q = leb (p + q) o || leb (o + n) p

pub apart_below : (o n p q : ℕ) → p + q ≤ o → apart o n p q ≡ true
apart_below o n p q h = rw (le-leb (p + q) o h)

pub apart_above : (o n p q : ℕ) → o + n ≤ p → apart o n p q ≡ true
apart_above o n p q h = rw (le-leb (o + n) p h) (or-true (leb (p + q) o))

pub same : {o n : ℕ} {l after : List ℕ} → Within o n l after → (p q : ℕ) → apart o n p q ≡ true → ◌≡◌ {A = ℕ → ℕ} (part after p q) (part l p q)
same {o} {n} {l} {after} w p q a = fun_ext (λ k. go k (dec_lt k q))
  where
    side : (k : ℕ) → k < q → (leb (p + q) o ≡ true) ⊎ (leb (o + n) p ≡ true) → (p + k < o) ⊎ (o + n ≤ p + k)
    side k h (inl x) = let y = leb-true (p + q) o x in inl (omega arith)
    side k h (inr x) = let y = leb-true (o + n) p x in inr (omega arith)

    go : (k : ℕ) → Dec (k < q) → part after p q k ≡ part l p q k
    go k (yes h) = part_at after p q k h ∙ w.rest (p + k) (side k h (or_cases _ _ a)) ∙ sym (part_at l p q k h)
    go k (no h) = let z : q ≤ k = omega arith in part_none after p q k z ∙ sym (part_none l p q k z)

-- nothing changed; the same of more places; and two changes, one after the other
pub unchanged : (l : List ℕ) (o n : ℕ) → Within o n l l
unchanged l o n = record { long = refl; rest = λ k h. refl }

pub wider : {o n : ℕ} {l after : List ℕ} → Within o n l after → (p q : ℕ) → p ≤ o → o + n ≤ p + q → Within p q l after
wider {o} {n} {l} {after} w p q a b = record { long = w.long; rest = λ k h. w.rest k (go k h) }
  where
    go : (k : ℕ) → (k < p) ⊎ (p + q ≤ k) → (k < o) ⊎ (o + n ≤ k)
    go k (inl h) = inl (omega arith)
    go k (inr h) = inr (omega arith)

pub then : {o n : ℕ} {l between after : List ℕ} → Within o n l between → Within o n between after → Within o n l after
then v w = record { long = w.long ∙ v.long; rest = λ k h. w.rest k h ∙ v.rest k h }

-- one number stored: where, and what the part holds then
pub set-within : (l : List ℕ) (o n k v : ℕ) → k < n → Within o n l (set l (o + k) v)
set-within l o n k v p = record { long = length-set l (o + k) v; rest = λ j q. get_or-set_other l (o + k) j v 0 (go j q) }
  where
    go : (j : ℕ) → (j < o) ⊎ (o + n ≤ j) → j ≡ o + k → ⊥
    go j (inl q) e = omega arith
    go j (inr q) e = omega arith

pub part-store : (l : List ℕ) (o n k v : ℕ) → k < n → o + n ≤ length l → ◌≡◌ {A = ℕ → ℕ} (part (set l (o + k) v) o n) (put (part l o n) k v)
part-store l o n k v p q =
    ap (λ (x : List ℕ). table_of (take n x)) (drop-set-add o l k v) ∙
    ap table_of (take-set-lt n (drop o l) k v p) ∙
    set_put (take n (drop o l)) k v 0 (rw (part_length l o n q) p)

-- a whole array as a part
pub whole : (l : List ℕ) (n : ℕ) → length l ≡ n → ◌≡◌ {A = ℕ → ℕ} (part l 0 n) (table_of l)
whole l n long = fun_ext (λ k. go k (dec_lt k n))
  where
    go : (k : ℕ) → Dec (k < n) → part l 0 n k ≡ get_or l k 0
    go k (yes p) = get_or-take n (drop 0 l) k 0 p ∙ get_or-drop 0 l k 0 ∙ ap (λ (j : ℕ). get_or l j 0) (omega arith)
    go k (no p) = part_none l 0 n k (omega arith) ∙ sym (get_or-eq_default l 0 {n = k} (omega arith))

-- ---- a part written over whole

module _ (o n : ℕ) (l x : List ℕ) (fits : o + n ≤ length l) (long : length x ≡ n) where
  pub over-within : Within o n l (put_mid o n l x)
  over-within = record { long = search (rules, places); rest = λ k h. go k h }
    where
      go : (k : ℕ) → (k < o) ⊎ (o + n ≤ k) → get_or (put_mid o n l x) k 0 ≡ get_or l k 0
      go k (inl h) = search (rules, places)
      go k (inr h) = search (rules, places)

  pub over-part : ◌≡◌ {A = ℕ → ℕ} (part (put_mid o n l x) o n) (part x 0 n)
  over-part =
      let back : (o + n) - o ≡ n = omega arith in
      ap table_of (rw back at (between-put_mid o n l x (o + n) (omega arith) (omega arith))) ∙ sym (whole x n long)

-- ---- states that agree in every place

pub part_same : (l r : List ℕ) (most : ℕ) → ((j : ℕ) → j < most → get_or l j 0 ≡ get_or r j 0) → (o n : ℕ) → o + n ≤ most → ◌≡◌ {A = ℕ → ℕ} (part l o n) (part r o n)
part_same l r most e o n h = fun_ext (λ k. go k (dec_lt k n))
  where
    go : (k : ℕ) → Dec (k < n) → part l o n k ≡ part r o n k
    go k (yes p) = part_at l o n k p ∙ e (o + k) (omega arith) ∙ sym (part_at r o n k p)
    go k (no p) = let z : n ≤ k = omega arith in part_none l o n k z ∙ sym (part_none r o n k z)

-- ---- a state that is 0 in every place

pub part-zero : (l : List ℕ) (most : ℕ) → ((j : ℕ) → j < most → get_or l j 0 ≡ 0) → (o n : ℕ) → o + n ≤ most → ◌≡◌ {A = ℕ → ℕ} (part l o n) (λ k. 0)
part-zero l most e o n h = fun_ext (λ k. go k (dec_lt k n))
  where
    go : (k : ℕ) → Dec (k < n) → part l o n k ≡ 0
    go k (yes p) = part_at l o n k p ∙ e (o + k) (omega arith)
    go k (no p) = part_none l o n k (omega arith)
