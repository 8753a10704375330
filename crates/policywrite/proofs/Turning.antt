-- Marking a permission at the roles that hold it, one role at a time, and turning the table of holders round, one permission at a time.
-- Assumes nothing.
use mathlib.Core.Bool.{Bool, true, false, not, ◌&&◌, ◌||◌, and-true, and-false, or-false, or_assoc}
use mathlib.Core.List.{List}
use mathlib.Core.Path.{◌≡◌, refl, sym, ap, ◌∙◌}
use Prim.Native.Nat.{ℕ, ◌+◌, ◌*◌, ◌/◌, ◌%◌, ◌<◌}
use native.Mathlib.Omega.{arith}
use lib.Dec.{eqb, ltb}
use lib.ListN.{length, get_or, set, replicate, get_or-replicate}
use lib.Seq.{get_or-set_same, get_or-set_other}
use borrow.Author.Tests.{eqb-true, eqb-false, eq-eqb, ne_eqb, lt-ltb, le-ltb, ltb-true}
use Rattle.roleset.specs.Roles.{has, with}
use Rattle.roleset.proofs.BoundedLaws.{agree}
use Rattle.roleset.proofs.Laws.{has-none, has-with}
use Rattle.hierarchy.specs.Lines.{table_of}
use Rattle.policyform.specs.Encode.{pair_in, grant_in}
use Rattle.policywrite.specs.Parts.{granted}

module _ (rows : List ℕ) (row r p k : ℕ) (size : length rows ≡ 4096) (l : r < 64) (h : p < 4096) (e : row ≡ 64 * r + p / 64) where
  -- a row with one bit more: the grants with one grant more
  one_more : pair_in (table_of (set rows row (with (table_of rows row) (p % 64)))) k ≡ (pair_in (table_of rows) k || eqb k (4096 * r + p))
  one_more = go (eqb (k / 64) row) refl
    where
      go : (b : Bool) → eqb (k / 64) row ≡ b → has (get_or (set rows row (with (get_or rows row 0) (p % 64))) (k / 64) 0) (k % 64) ≡ (has (get_or rows (k / 64) 0) (k % 64) || eqb k (4096 * r + p))
      go true q =
          let here : k / 64 ≡ row = eqb-true (k / 64) row q in
          let same : eqb (k % 64) (p % 64) ≡ eqb k (4096 * r + p) = agree (eqb (k % 64) (p % 64)) (eqb k (4096 * r + p)) (λ x. eq-eqb k (4096 * r + p) (omega (arith, eqb-true (k % 64) (p % 64) x))) (λ x. eq-eqb (k % 64) (p % 64) (omega (arith, eqb-true k (4096 * r + p) x))) in
          rw (here, get_or-set_same rows row (with (get_or rows row 0) (p % 64)) 0 (omega arith)) (has-with (get_or rows row 0) (p % 64) (k % 64) (omega arith) ∙ rw same)
      go false q =
          let other : k / 64 ≡ row → ⊥ = eqb-false (k / 64) row q in
          rw (get_or-set_other rows row (k / 64) (with (get_or rows row 0) (p % 64)) 0 other, ne_eqb k (4096 * r + p) (λ x. other (omega arith))) (sym (or-false (has (get_or rows (k / 64) 0) (k % 64))))

  -- What is there joined to what is still to be marked stays the same when one role is marked and dropped.
  joined : (rest next : ℕ) → has rest r ≡ true → has next (k / 4096) ≡ (has rest (k / 4096) && not (eqb (k / 4096) r)) → (pair_in (table_of (set rows row (with (table_of rows row) (p % 64)))) k || granted next p k) ≡ (pair_in (table_of rows) k || granted rest p k)
  joined rest next here new = rw one_more (or_assoc (pair_in (table_of rows) k) (eqb k (4096 * r + p)) (granted next p k) ∙ ap (λ (b : Bool). pair_in (table_of rows) k || b) (rw new (go (eqb k (4096 * r + p)) refl (eqb (k % 4096) p) refl)))
    where
      go : (a : Bool) → eqb k (4096 * r + p) ≡ a → (b : Bool) → eqb (k % 4096) p ≡ b → (eqb k (4096 * r + p) || (eqb (k % 4096) p && (has rest (k / 4096) && not (eqb (k / 4096) r)))) ≡ (eqb (k % 4096) p && has rest (k / 4096))
      go true q b s =
          let is : k ≡ 4096 * r + p = eqb-true k (4096 * r + p) q in
          let role : k / 4096 ≡ r = omega arith in
          rw (q, eq-eqb (k % 4096) p (omega arith), role, here)
      go false q true s = rw (q, s, ne_eqb (k / 4096) r (λ x. eqb-false k (4096 * r + p) q (omega (arith, eqb-true (k % 4096) p s)))) (and-true (has rest (k / 4096)))
      go false q false s = rw (q, s)

  pub mark_step : (rest next : ℕ) → has rest r ≡ true → ((m : ℕ) → has next m ≡ (has rest m && not (eqb m r))) → (pair_in (table_of (set rows row (with (table_of rows row) (p % 64)))) k || granted next p k) ≡ (pair_in (table_of rows) k || granted rest p k)
  mark_step rest next here new = joined rest next here (new (k / 4096))

  -- the same of a number of the table, where the roles below 64 are known
  pub mark_within : (rest next : ℕ) → k < 262144 → has rest r ≡ true → ((m : ℕ) → m < 64 → has next m ≡ (has rest m && not (eqb m r))) → (pair_in (table_of (set rows row (with (table_of rows row) (p % 64)))) k || granted next p k) ≡ (pair_in (table_of rows) k || granted rest p k)
  mark_within rest next small here new = joined rest next here (new (k / 4096) (omega arith))

-- None is left to be marked.
pub none_left : (b : Bool) (rest p k : ℕ) → rest ≡ 0 → b ≡ (b || granted rest p k)
none_left b rest p k e = sym (ap (λ (x : Bool). b || (eqb (k % 4096) p && x)) (ap (λ (s : ℕ). has s (k / 4096)) e ∙ has-none (k / 4096)) ∙ ap (λ (x : Bool). b || x) (and-false (eqb (k % 4096) p)) ∙ or-false b)

-- The grants of the permissions below p, and no others, are in the rows.
abbrev pub grant_below : (ℕ → ℕ) → ℕ → ℕ → Bool
grant_below holders p k = ltb (k % 4096) p && grant_in holders k

pub turn-start : (holders : ℕ → ℕ) (k : ℕ) → k < 262144 → pair_in (table_of (replicate 4096 0)) k ≡ grant_below holders 0 k
turn-start holders k l = ap (λ (s : ℕ). has s (k % 64)) (get_or-replicate 4096 (k / 64) 0 0 (omega arith)) ∙ has-none (k % 64) ∙ sym (rw (le-ltb (k % 4096) 0 (omega arith)))

pub turn_step : (holders : ℕ → ℕ) (p k : ℕ) → (grant_below holders p k || granted (holders p) p k) ≡ grant_below holders (p + 1) k
turn_step holders p k = go (eqb (k % 4096) p) refl
  where
    go : (b : Bool) → eqb (k % 4096) p ≡ b → ((ltb (k % 4096) p && has (holders (k % 4096)) (k / 4096)) || (eqb (k % 4096) p && has (holders p) (k / 4096))) ≡ (ltb (k % 4096) (p + 1) && has (holders (k % 4096)) (k / 4096))
    go true q = let here : k % 4096 ≡ p = eqb-true (k % 4096) p q in rw (here, le-ltb p p (omega arith), eq-eqb p p refl, lt-ltb p (p + 1) (omega arith))
    go false q =
        let other : k % 4096 ≡ p → ⊥ = eqb-false (k % 4096) p q in
        let same : ltb (k % 4096) p ≡ ltb (k % 4096) (p + 1) = agree (ltb (k % 4096) p) (ltb (k % 4096) (p + 1)) (λ x. lt-ltb (k % 4096) (p + 1) (omega (arith, ltb-true (k % 4096) p x))) (λ x. lt-ltb (k % 4096) p (omega (arith, ltb-true (k % 4096) (p + 1) x))) in
        rw (q, ← same) (or-false (ltb (k % 4096) p && has (holders (k % 4096)) (k / 4096)))

pub turn_end : (holders : ℕ → ℕ) (k : ℕ) → grant_below holders 4096 k ≡ grant_in holders k
turn_end holders k = rw (lt-ltb (k % 4096) 4096 (omega arith))
