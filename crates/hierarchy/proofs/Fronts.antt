-- What the code goes by: the juniors of a front one role at a time, and the walk one front at a time. Assumes nothing.
use mathlib.Core.Bool.{Bool, true, false, not, ◌&&◌, ◌||◌, or_assoc, or-false}
use mathlib.Core.Logic.{◌⊎◌, inl, inr}
use mathlib.Core.Path.{◌≡◌, refl, sym, subst, ◌∙◌}
use Prim.Native.Nat.{ℕ, zero, suc, ◌^◌, ◌-◌, ◌<◌}
use native.Mathlib.Omega.{arith}
use lib.Dec.{eqb}
use native.Mathlib.Decide.{ℕ_discrete}
use borrow.Author.Tests.{eqb-true, eq-eqb, ne_eqb}
use Rattle.roleset.specs.Bounded.{some}
use Rattle.roleset.specs.Roles.{has, without, union, is_empty}
use Rattle.roleset.proofs.BoundedLaws.{clash, and_left, and_both, or_left, or_right, or_cases, not_yes, agree, never}
use Rattle.roleset.proofs.Laws.{those-small, has-none, has-union, has-without, union-small, ext, is_empty-none}
use Rattle.roleset.proofs.Taking.{not-zero}
use Rattle.hierarchy.specs.Lines.{line}
use Rattle.hierarchy.specs.Walks.{juniors_of, walk, longer_chain}
use Rattle.hierarchy.proofs.WalkLaws.{junior_of, of_junior, walk_empty, walk_stopped, walk_on, walk_small}
use Rattle.hierarchy.proofs.ChainLaws.{longer_empty, longer_stopped, longer_on}

module _ (lines : ℕ → ℕ) where
  pub juniors_small : (front : ℕ) → juniors_of lines front < 2 ^ 64
  unfolding juniors_of
  juniors_small front = those-small (λ j. some 64 (λ s. has front s && line lines s j))

  module _ (rest s : ℕ) (l : s < 64) (h : has rest s ≡ true) where
    -- the juniors of a front are those of one of its roles and those of the others
    juniors_split : (k : ℕ) → k < 64 → has (juniors_of lines rest) k ≡ (has (lines s) k || has (juniors_of lines (without rest s)) k)
    juniors_split k lk = agree (has (juniors_of lines rest) k) (has (lines s) k || has (juniors_of lines (without rest s)) k) (λ p. to (of_junior lines rest k p).1) (λ p. back (or_cases (has (lines s) k) (has (juniors_of lines (without rest s)) k) p))
      where
        to : (t : ℕ) × (t < 64) × (has rest t ≡ true) × (line lines t k ≡ true) → (has (lines s) k || has (juniors_of lines (without rest s)) k) ≡ true
        to m = go (eqb m.0 s) refl
          where
            go : (b : Bool) → eqb m.0 s ≡ b → (has (lines s) k || has (juniors_of lines (without rest s)) k) ≡ true
            go true e = or_left (has (lines s) k) (has (juniors_of lines (without rest s)) k) (subst (λ (x : ℕ). has (lines x) k ≡ true) (eqb-true m.0 s e) m.3)
            go false e = or_right (has (lines s) k) (has (juniors_of lines (without rest s)) k) (junior_of lines (without rest s) m.0 k m.1 lk (has-without rest s m.0 m.1 ∙ and_both (has rest m.0) (not (eqb m.0 s)) m.2 (not_yes (eqb m.0 s) e)) m.3)

        back : (has (lines s) k ≡ true) ⊎ (has (juniors_of lines (without rest s)) k ≡ true) → has (juniors_of lines rest) k ≡ true
        back (inl p) = junior_of lines rest s k l lk h p
        back (inr p) =
            let m = (of_junior lines (without rest s) k p).1 in
            junior_of lines rest m.0 k m.1 lk (and_left (has rest m.0) (not (eqb m.0 s)) (sym (has-without rest s m.0 m.1) ∙ m.2)) m.3

    -- What is met so far joined to what is still to come stays the same when one role's juniors are met and the role is dropped.
    pub juniors_step : (met : ℕ) → union (union met (lines s)) (juniors_of lines (without rest s)) ≡ union met (juniors_of lines rest)
    juniors_step met = ext (union (union met (lines s)) others) (union met (juniors_of lines rest)) (union-small (union met (lines s)) others) (union-small met (juniors_of lines rest)) (λ k lk. rw (has-union (union met (lines s)) others k lk, has-union met (lines s) k lk, has-union met (juniors_of lines rest) k lk, juniors_split k lk) (or_assoc (has met k) (has (lines s) k) (has others k)))
      where
        others : ℕ
        others = juniors_of lines (without rest s)

  -- Of no role there are no juniors.
  pub juniors_none : (k : ℕ) → has (juniors_of lines 0) k ≡ false
  juniors_none k = never (has (juniors_of lines 0) k) (λ p. let m = (of_junior lines 0 k p).1 in clash (has 0 m.0) m.2 (has-none m.0))

  pub juniors_begin : (front : ℕ) → union 0 (juniors_of lines front) ≡ juniors_of lines front
  juniors_begin front = ext (union 0 (juniors_of lines front)) (juniors_of lines front) (union-small 0 (juniors_of lines front)) (juniors_small front) (λ k lk. rw (has-union 0 (juniors_of lines front) k lk, has-none k))

  pub juniors_end : (met : ℕ) → met < 2 ^ 64 → union met (juniors_of lines 0) ≡ met
  juniors_end met l = ext (union met (juniors_of lines 0)) met (union-small met (juniors_of lines 0)) l (λ k lk. rw (has-union met (juniors_of lines 0) k lk, juniors_none k) (or-false (has met k)))

-- no roles joined to what is met change nothing
pub union-none : (met : ℕ) → met < 2 ^ 64 → union met 0 ≡ met
union-none met l = ext (union met 0) met (union-small met 0) l (λ k lk. rw (has-union met 0 k lk, has-none k) (or-false (has met k)))

union_assoc : (a b c : ℕ) → union (union a b) c ≡ union a (union b c)
union_assoc a b c = ext (union (union a b) c) (union a (union b c)) (union-small (union a b) c) (union-small a (union b c)) (λ k lk. rw (has-union (union a b) c k lk, has-union a b k lk, has-union a (union b c) k lk, has-union b c k lk) (or_assoc (has a k) (has b k) (has c k)))

-- a front that is not empty joins what is met, and then the walk from its juniors with one role fewer allowed
pub walk_step : (lines : ℕ → ℕ) (allowed front next met more last : ℕ) → (allowed ≡ 0 → ⊥) → is_empty front ≡ false → next ≡ juniors_of lines front → more ≡ union met front → last ≡ union more (walk lines (allowed - 1) next) → last ≡ union met (walk lines allowed front)
walk_step lines zero front next met more last n e p s q = absurd (n refl)
walk_step lines (suc m) front next met more last n e p s q =
    let same : suc m - 1 ≡ m = omega arith in
    q ∙ rw (s, p, same, walk_on lines m front e) (union_assoc met front (walk lines m (juniors_of lines front)))

-- with no role in the front, or none allowed, the walk adds none, and no longer chain starts but where the front has one
pub walk-over : (lines : ℕ → ℕ) (allowed front met : ℕ) → met < 2 ^ 64 → (front ≡ 0) ⊎ ((front ≡ 0 → ⊥) × (allowed ≡ 0)) → met ≡ union met (walk lines allowed front)
walk-over lines allowed front met l (inl e) = rw (walk_empty lines allowed front (rw e is_empty-none)) (sym (union-none met l))
walk-over lines allowed front met l (inr e) = rw (e.1, walk_stopped lines front) (sym (union-none met l))

pub longer-over : (lines : ℕ → ℕ) (allowed front : ℕ) → front < 2 ^ 64 → (front ≡ 0) ⊎ ((front ≡ 0 → ⊥) × (allowed ≡ 0)) → not (eqb front 0) ≡ longer_chain lines allowed front
longer-over lines allowed front l e = go (ℕ_discrete front 0) e
  where
    go : Dec (front ≡ 0) → (front ≡ 0) ⊎ ((front ≡ 0 → ⊥) × (allowed ≡ 0)) → not (eqb front 0) ≡ longer_chain lines allowed front
    go (yes p) e = rw (eq-eqb front 0 p) (sym (longer_empty lines allowed front (rw p is_empty-none)))
    go (no p) (inl e) = absurd (p e)
    go (no p) (inr e) = rw (ne_eqb front 0 p, e.1) (sym (longer_stopped lines front (not-zero front l p)))

-- what a walk from a front adds to no roles is the walk
pub walk-begun : (lines : ℕ → ℕ) (n front : ℕ) → union 0 (walk lines n front) ≡ walk lines n front
walk-begun lines n front = ext (union 0 (walk lines n front)) (walk lines n front) (union-small 0 (walk lines n front)) (walk_small lines n front) (λ k lk. rw (has-union 0 (walk lines n front) k lk, has-none k))

-- a longer chain starts in a front that is not empty where one starts at its juniors, with one role fewer allowed
pub longer-step : (lines : ℕ → ℕ) (allowed front next : ℕ) (found : Bool) → (allowed ≡ 0 → ⊥) → is_empty front ≡ false → next ≡ juniors_of lines front → found ≡ longer_chain lines (allowed - 1) next → found ≡ longer_chain lines allowed front
longer-step lines zero front next found n e p q = absurd (n refl)
longer-step lines (suc m) front next found n e p q =
    let same : suc m - 1 ≡ m = omega arith in
    q ∙ rw (p, same, longer_on lines m front e)
