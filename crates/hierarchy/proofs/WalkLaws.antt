-- Laws of the walk: which roles it meets, and what changes with its start or its lines. Assumes nothing.
use mathlib.Core.Bool.{Bool, true, false, ◌&&◌, ◌||◌}
use mathlib.Core.Logic.{◌⊎◌, inl, inr, ⊎_elim}
use mathlib.Core.Path.{◌≡◌, refl, sym, ap, subst, ◌∙◌}
use Prim.Native.Nat.{ℕ, zero, suc, ◌^◌, ◌<◌}
use native.Mathlib.Omega.{arith}
use lib.Dec.{eqb}
use borrow.Author.Tests.{eqb-true, eq-eqb}
use Rattle.roleset.specs.Bounded.{some}
use Rattle.roleset.specs.Roles.{has, none, with, union, is_empty}
use Rattle.roleset.proofs.BoundedLaws.{clash, and_left, and_right, and_both, or_left, or_right, or_cases, agree, never, some-intro, some-elim}
use Rattle.roleset.proofs.Laws.{has-those, those-small, those-member, ext, has-none, has-with, has-union, is_empty-true}
use Rattle.hierarchy.specs.Lines.{line, Small, AtOrAbove, Under}
use Rattle.hierarchy.specs.Lines.Inherits.{one}
use Rattle.hierarchy.specs.Walks.{juniors_of, walk, reach, Reaches}
use Rattle.hierarchy.proofs.InheritsLaws.{above-trans}
use Rattle.hierarchy.proofs.Ways.{Met, here, next, met_in_64}

-- ---- members of the sets that the walk is made of

-- a member of a union is a role 0 to 63 in one of the two sets
pub union-member : (a b k : ℕ) → has (union a b) k ≡ true → (k < 64) × ((has a k ≡ true) ⊎ (has b k ≡ true))
unfolding union
union-member a b k h =
    let m = those-member (λ j. has a j || has b j) k h in
    (m.0, or_cases (has a k) (has b k) m.1)

-- a role 0 to 63 of either set is in the union
pub union_left : (a b k : ℕ) → k < 64 → has a k ≡ true → has (union a b) k ≡ true
union_left a b k l h = has-union a b k l ∙ or_left (has a k) (has b k) h

pub union_right : (a b k : ℕ) → k < 64 → has b k ≡ true → has (union a b) k ≡ true
union_right a b k l h = has-union a b k l ∙ or_right (has a k) (has b k) h

-- a set with a member is not empty
pub not-empty : (s k : ℕ) → k < 64 → has s k ≡ true → is_empty s ≡ false
not-empty s k l h = never (is_empty s) (λ e. clash (has s k) h (is_empty-true s e k l))

module _ (lines : ℕ → ℕ) where
  -- The roles to which a line leads from a role of the front are its juniors.
  pub junior_of : (front s j : ℕ) → s < 64 → j < 64 → has front s ≡ true → line lines s j ≡ true → has (juniors_of lines front) j ≡ true
  unfolding juniors_of
  junior_of front s j ls lj h l = has-those (λ j. some 64 (λ s. has front s && line lines s j)) j lj ∙ some-intro 64 (λ s. has front s && line lines s j) s ls (and_both (has front s) (line lines s j) h l)

  -- A junior of the front has a line from one of its roles.
  pub of_junior : (front j : ℕ) → has (juniors_of lines front) j ≡ true → (j < 64) × ((s : ℕ) × (s < 64) × (has front s ≡ true) × (line lines s j ≡ true))
  unfolding juniors_of
  of_junior front j h =
      let m = those-member (λ j. some 64 (λ s. has front s && line lines s j)) j h in
      let t = some-elim 64 (λ s. has front s && line lines s j) m.1 in
      (m.0, (t.0, t.1, and_left (has front t.0) (line lines t.0 j) t.2, and_right (has front t.0) (line lines t.0 j) t.2))

  -- ---- the walk, case by case

  -- a walk from no role meets none
  pub walk_empty : (n front : ℕ) → is_empty front ≡ true → walk lines n front ≡ none
  unfolding walk
  walk_empty zero front e = refl
  walk_empty (suc n) front e = rw (e, walk)

  -- with no role allowed, a walk meets none
  pub walk_stopped : (front : ℕ) → walk lines 0 front ≡ none
  unfolding walk
  walk_stopped front = refl

  -- else the front is joined to the walk from its juniors, with one role fewer allowed
  pub walk_on : (n front : ℕ) → is_empty front ≡ false → walk lines (suc n) front ≡ union front (walk lines n (juniors_of lines front))
  unfolding walk
  walk_on n front e = rw (e, walk)

  -- ---- which roles the walk meets

  -- r is met from some role of the front
  pub record MetFrom (n front r : ℕ) : Type 0 where
    pub role : ℕ
    pub small : role < 64
    pub member : has front role ≡ true
    pub met : Met lines n role r

  found_nothing : (n front r : ℕ) → is_empty front ≡ true → has (walk lines n front) r ≡ true → MetFrom n front r
  found_nothing n front r e h = clash (has 0 r) (rw (walk_empty n front e) at h) (has-none r)

  found_next : (n front r : ℕ) → r < 64 → (has front r ≡ true) ⊎ MetFrom n (juniors_of lines front) r → MetFrom (suc n) front r
  found_next n front r l (inl p) = record { role = r; small = l; member = p; met = here refl }
  found_next n front r l (inr f) =
      let o = of_junior front f.role f.member in
      record { role = o.1.0; small = o.1.1; member = o.1.2; met = next o.1.3 f.small f.met }

  -- The walk finds no role but those that it meets.
  pub walk_found : (n front r : ℕ) → has (walk lines n front) r ≡ true → MetFrom n front r
  walk_found zero front r h = clash (has 0 r) (rw (walk_stopped front) at h) (has-none r)
  walk_found (suc n) front r h = go (is_empty front) refl (walk_found n (juniors_of lines front) r)
    where
      go : (b : Bool) → is_empty front ≡ b → (has (walk lines n (juniors_of lines front)) r ≡ true → MetFrom n (juniors_of lines front) r) → MetFrom (suc n) front r
      go true e ih = found_nothing (suc n) front r e h
      go false e ih =
          let m = union-member front (walk lines n (juniors_of lines front)) r (rw (walk_on n front e) at h) in
          found_next n front r m.0 (⊎_elim (λ p. inl p) (λ p. inr (ih p)) m.1)

  met_small : {n s r : ℕ} → s < 64 → Met lines n s r → r < 64
  met_small l (here e) = rw e at l
  met_small l (next p lk m) = met_small lk m

  -- The walk finds every role that it meets.
  pub walk_finds : {n s r : ℕ} (front : ℕ) → s < 64 → has front s ≡ true → Met lines n s r → has (walk lines n front) r ≡ true
  walk_finds {n = zero} front l h x12 = elim x12 [ ]
  walk_finds {n = suc n} {s} {r} front l h (here e) = rw (walk_on n front (not-empty front s l h)) (union_left front (walk lines n (juniors_of lines front)) r (rw e at l) (rw e at h))
  walk_finds {n = suc n} {s} {r} front l h (next {k = k} p lk m) = rw (walk_on n front (not-empty front s l h)) (union_right front (walk lines n (juniors_of lines front)) r (met_small lk m) (walk_finds (juniors_of lines front) lk (junior_of front s k l lk h p) m))

  met_at_or_above : {n s r : ℕ} → Met lines n s r → AtOrAbove lines s r
  met_at_or_above (here e) = inl e
  met_at_or_above (next p lk m) = inr (above-trans (one p) (met_at_or_above m))

  -- The set of the roles met is a set of roles 0 to 63.
  pub walk_small : (n front : ℕ) → walk lines n front < 2 ^ 64
  unfolding walk union
  walk_small zero front = omega arith
  walk_small (suc n) front = go (is_empty front) refl
    where
      go : (b : Bool) → is_empty front ≡ b → walk lines (suc n) front < 2 ^ 64
      go true e = rw (walk_empty (suc n) front e) (omega arith)
      go false e = rw (walk_on n front e) (those-small (λ k. has front k || has (walk lines n (juniors_of lines front)) k))

-- ---- the walk from a set

module _ (lines : ℕ → ℕ) (from : ℕ) where
  -- The roles of a walk are roles of the set it starts from, or inherited by one,
  pub reach_sound : (r : ℕ) → has (reach lines from) r ≡ true → Under lines from r
  unfolding reach
  reach_sound r h =
      let f = walk_found lines 64 from r h in
      record { role = f.role; small = f.small; member = f.member; down = met_at_or_above lines f.met }

  -- and all of these, with a circle or without.
  pub reach_complete : Small lines → (r : ℕ) → Under lines from r → has (reach lines from) r ≡ true
  unfolding reach
  reach_complete small r u = walk_finds lines from u.small u.member (met_in_64 lines small u.small u.down)

  -- So the walk is what a walk is to hand back.
  pub reach_reaches : (set : ℕ) → set ≡ reach lines from → Reaches lines from set
  reach_reaches set e = record { is = e; exactly = λ small r. (λ h. reach_sound r (rw e at h), λ u. rw e (reach_complete small r u)) }

  -- The roles met are a set of roles 0 to 63.
  pub reach_small : reach lines from < 2 ^ 64
  unfolding reach
  reach_small = walk_small lines 64 from

  -- The walk meets the roles that it starts from.
  pub reach_from : (r : ℕ) → r < 64 → has from r ≡ true → has (reach lines from) r ≡ true
  unfolding reach
  reach_from r l h = walk_finds lines from l h (here refl)

-- ---- one role to start from

-- the set with only r has no other member
only : (r k : ℕ) → k < 64 → has (with none r) k ≡ true → k ≡ r
only r k l h = go (or_cases (has none k) (eqb k r) (sym (has-with none r k l) ∙ h))
  where
    go : (has none k ≡ true) ⊎ (eqb k r ≡ true) → k ≡ r
    go (inl p) = clash (has none k) p (has-none k)
    go (inr p) = eqb-true k r p

-- Under the set with only r are r and the roles that r inherits,
pub under_one : {lines : ℕ → ℕ} (r k : ℕ) → Under lines (with none r) k → AtOrAbove lines r k
under_one {lines} r k u = subst (λ (x : ℕ). AtOrAbove lines x k) (only r u.role u.small u.member) u.down

-- and all of them.
pub one-under : {lines : ℕ → ℕ} (r k : ℕ) → r < 64 → AtOrAbove lines r k → Under lines (with none r) k
one-under r k l a = record { role = r; small = l; member = has-with none r r l ∙ or_right (has none r) (eqb r r) (eq-eqb r r refl); down = a }

-- ---- more lines, a larger start

module _ (lines lines' : ℕ → ℕ) (grows : (s j : ℕ) → s < 64 → j < 64 → line lines s j ≡ true → line lines' s j ≡ true) where
  met_grows : {n s r : ℕ} → s < 64 → Met lines n s r → Met lines' n s r
  met_grows l (here e) = here e
  met_grows {s = s} l (next {k = k} p lk m) = next (grows s k l lk p) lk (met_grows lk m)

  module _ (n from from' : ℕ) (more-from : (s : ℕ) → s < 64 → has from s ≡ true → has from' s ≡ true) where
    walk_grows : (r : ℕ) → has (walk lines n from) r ≡ true → has (walk lines' n from') r ≡ true
    walk_grows r h =
        let f = walk_found lines n from r h in
        walk_finds lines' from' f.small (more-from f.role f.small f.member) (met_grows f.small f.met)

-- Over more lines, or from more roles, a walk meets all that it met.
pub reach-grows : (lines lines' : ℕ → ℕ) (from from' : ℕ) → ((s j : ℕ) → s < 64 → j < 64 → line lines s j ≡ true → line lines' s j ≡ true) → ((s : ℕ) → s < 64 → has from s ≡ true → has from' s ≡ true) → (r : ℕ) → has (reach lines from) r ≡ true → has (reach lines' from') r ≡ true
unfolding reach
reach-grows lines lines' from from' f g = walk_grows lines lines' f 64 from from' g

-- A walk depends only on the lines between roles 0 to 63 and on which of these it starts from.
pub walk-ext : (lines lines' : ℕ → ℕ) (n from from' : ℕ) → ((s j : ℕ) → s < 64 → j < 64 → line lines s j ≡ line lines' s j) → ((s : ℕ) → s < 64 → has from s ≡ has from' s) → walk lines n from ≡ walk lines' n from'
walk-ext lines lines' n from from' f g =
    ext (walk lines n from) (walk lines' n from') (walk_small lines n from) (walk_small lines' n from')
    (λ k l. agree (has (walk lines n from) k) (has (walk lines' n from') k)
    (walk_grows lines lines' (λ s j ls lj p. sym (f s j ls lj) ∙ p) n from from' (λ s ls p. sym (g s ls) ∙ p) k)
    (walk_grows lines' lines (λ s j ls lj p. f s j ls lj ∙ p) n from' from (λ s ls p. g s ls ∙ p) k))

-- So tables that agree at their first 64 places have the same walks.
pub reach-ext : (lines lines' : ℕ → ℕ) (from : ℕ) → ((s : ℕ) → s < 64 → lines s ≡ lines' s) → reach lines from ≡ reach lines' from
unfolding reach
reach-ext lines lines' from f = walk-ext lines lines' 64 from from (λ s j ls lj. ap (λ (x : ℕ). has x j) (f s ls)) (λ s ls. refl)

-- ---- two starts

module _ (lines : ℕ → ℕ) (a b : ℕ) where
  -- A walk from two sets together meets what the walks from each do.
  pub reach_union : reach lines (union a b) ≡ union (reach lines a) (reach lines b)
  unfolding reach union
  reach_union = ext (walk lines 64 (union a b)) (union ra rb) (walk_small lines 64 (union a b)) (those-small (λ k. has ra k || has rb k)) (λ k l. agree (has (walk lines 64 (union a b)) k) (has (union ra rb) k) (to k l) (back k))
    where
      ra : ℕ
      ra = walk lines 64 a

      rb : ℕ
      rb = walk lines 64 b

      to : (k : ℕ) → k < 64 → has (walk lines 64 (union a b)) k ≡ true → has (union ra rb) k ≡ true
      to k l h = side (union-member a b f.role f.member).1
        where
          f : MetFrom lines 64 (union a b) k
          f = walk_found lines 64 (union a b) k h

          side : (has a f.role ≡ true) ⊎ (has b f.role ≡ true) → has (union ra rb) k ≡ true
          side (inl p) = union_left ra rb k l (walk_finds lines a f.small p f.met)
          side (inr p) = union_right ra rb k l (walk_finds lines b f.small p f.met)

      back : (k : ℕ) → has (union ra rb) k ≡ true → has (walk lines 64 (union a b)) k ≡ true
      back k h = ⊎_elim
          (walk_grows lines lines (λ s j ls lj p. p) 64 a (union a b) (λ s l p. union_left a b s l p) k)
          (walk_grows lines lines (λ s j ls lj p. p) 64 b (union a b) (λ s l p. union_right a b s l p) k)
          (union-member ra rb k h).1
