-- Marking a role at the places of a set, one place at a time, and turning the lines round, one senior at a time. Assumes nothing.
use mathlib.Core.Bool.{Bool, true, false, ◌&&◌, ◌||◌, and-true, and-false, or-false}
use mathlib.Core.List.{List}
use mathlib.Core.Path.{◌≡◌, refl, sym, ap, ◌∙◌}
use Prim.Native.Nat.{ℕ, ◌+◌, ◌<◌}
use native.Mathlib.Omega.{arith}
use lib.Dec.{eqb, ltb}
use lib.ListN.{length, get_or, set, replicate, get_or-replicate}
use lib.Seq.{get_or-set_same, get_or-set_other}
use borrow.Author.Tests.{eqb-true, eqb-false, eq-eqb, lt-ltb, le-ltb, ltb-true}
use Rattle.roleset.specs.Roles.{has, those, with, without}
use Rattle.roleset.proofs.BoundedLaws.{and_both, or_right, agree}
use Rattle.roleset.proofs.Laws.{has-those, those-ext, has-none, has-with, has-without, with-small, is-those}
use Rattle.hierarchy.specs.Lines.{line, table_of}
use Rattle.hierarchy.specs.Walks.{turned}
use Rattle.hierarchy.specs.Marks.{pick_with, marked}

-- What is still to be marked gives the same in the end when one place is marked and dropped.
pub mark-step : (t : List ℕ) (rest j s : ℕ) → length t ≡ 64 → j < 64 → has rest j ≡ true → (k : ℕ) → k < 64 → marked (table_of (set t j (with (table_of t j) s))) (without rest j) s k ≡ marked (table_of t) rest s k
mark-step t rest j s size l h k lk = go (eqb k j) refl
  where
    new : List ℕ
    new = set t j (with (get_or t j 0) s)

    gone : has (without rest j) j ≡ false
    gone = has-without rest j j l ∙ rw (eq-eqb j j refl) (and-false (has rest j))

    go : (b : Bool) → eqb k j ≡ b → pick_with (has (without rest j) k) (get_or new k 0) s ≡ pick_with (has rest k) (get_or t k 0) s
    go true e = rw (eqb-true k j e, gone, h) (get_or-set_same t j (with (get_or t j 0) s) 0 (omega arith))
    go false e = rw (has-without rest j k lk, e, and-true (has rest k), get_or-set_other t j k (with (get_or t j 0) s) 0 (eqb-false k j e))

-- the seniors of the role k among the roles below n
unfoldable pub seniors_below : (ℕ → ℕ) → ℕ → ℕ → ℕ
seniors_below lines n k = those (λ s. ltb s n && line lines s k)

pub seniors-begin : (lines : ℕ → ℕ) (k : ℕ) → seniors_below lines 0 k ≡ 0
unfolding seniors_below
seniors-begin lines k = sym (is-those 0 (λ s. ltb s 0 && line lines s k) (omega arith) (λ m l. rw (has-none m, le-ltb m 0 (omega arith))))

pub seniors-end : (lines : ℕ → ℕ) (k : ℕ) → seniors_below lines 64 k ≡ turned lines k
unfolding seniors_below turned
seniors-end lines k = those-ext (λ s. ltb s 64 && line lines s k) (λ s. line lines s k) (λ m l. rw (lt-ltb m 64 l))

-- Marking s at its juniors adds the senior s to each of them.
pub seniors-step : (lines : ℕ → ℕ) (s k : ℕ) → marked (seniors_below lines s) (lines s) s k ≡ seniors_below lines (s + 1) k
unfolding seniors_below
seniors-step lines s k = go (has (lines s) k) refl
  where
    before : ℕ → Bool
    before m = ltb m s && line lines m k

    other : (m : ℕ) → (m ≡ s → ⊥) → ltb m s ≡ ltb m (s + 1)
    other m n = agree (ltb m s) (ltb m (s + 1)) (λ p. lt-ltb m (s + 1) (omega (arith, ltb-true m s p))) (λ p. lt-ltb m s (omega (arith, ltb-true m (s + 1) p)))

    go : (b : Bool) → has (lines s) k ≡ b → pick_with (has (lines s) k) (those before) s ≡ those (λ m. ltb m (s + 1) && line lines m k)
    go true e = rw e (is-those (with (those before) s) (λ m. ltb m (s + 1) && line lines m k) (with-small (those before) s) (λ m l. has-with (those before) s m l ∙ ap (λ (x : Bool). x || eqb m s) (has-those before m l) ∙ side m (eqb m s) refl))
      where
        side : (m : ℕ) (b : Bool) → eqb m s ≡ b → (before m || eqb m s) ≡ (ltb m (s + 1) && line lines m k)
        side m true p =
            let q = eqb-true m s p in
            or_right (before m) (eqb m s) p ∙ sym (and_both (ltb m (s + 1)) (line lines m k) (lt-ltb m (s + 1) (omega arith)) (rw q e))
        side m false p = rw (p, ← other m (eqb-false m s p)) (or-false (before m))
    go false e = rw e (those-ext before (λ m. ltb m (s + 1) && line lines m k) (λ m l. side m (eqb m s) refl))
      where
        side : (m : ℕ) (b : Bool) → eqb m s ≡ b → before m ≡ (ltb m (s + 1) && line lines m k)
        side m true p =
            let q = eqb-true m s p in
            ap (λ (x : Bool). x && line lines m k) (le-ltb m s (omega arith)) ∙ sym (ap (λ (x : Bool). ltb m (s + 1) && x) (rw q e) ∙ and-false (ltb m (s + 1)))
        side m false p = rw (other m (eqb-false m s p))

-- the table with which turning begins
pub zeros : (k : ℕ) → k < 64 → table_of (replicate 64 0) k ≡ 0
zeros k l = get_or-replicate 64 k 0 0 l
