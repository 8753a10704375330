-- What is counted, as so many different ones: what passes a test, the roles of a set, and the pairs of a table. Assumes nothing.
use mathlib.Core.Bool.{Bool, true, false, not, ◌&&◌}
use mathlib.Core.Logic.{◌↔◌}
use mathlib.Core.Path.{◌≡◌, refl, sym, ap, subst, ◌∙◌}
use Prim.Native.Nat.{ℕ, suc, ◌+◌, ◌≤◌, ◌<◌, ◌^◌}
use native.Mathlib.Omega.{arith}
use native.Mathlib.Decide.{ℕ_discrete}
use lib.Dec.{eqb}
use borrow.Author.Tests.{eqb-false, eq-eqb, ne_eqb, not-true, not-false}
use Rattle.roleset.specs.Bounded.{bit, some, tally, total}
use Rattle.roleset.specs.Roles.{has, without, count, is_empty}
use Rattle.roleset.proofs.BoundedLaws.{clash, and_left, and_right, and_both, not_yes, some-elim, some-false, some-tally, tally-change, total-le}
use Rattle.roleset.proofs.Laws.{member-small, count-without, count-mono, count_none, is_empty-true, is_empty_false}
use Rattle.model.specs.Model.{Model, put, standing}
use Rattle.model.specs.Sound.{Shape}
use Rattle.model.specs.Words.{assignments, grants, lines_standing, sessions_open}
use Rattle.model.proofs.Puts.{put_same, put_other}
use Rattle.sound.proofs.Carried.{role_small, lines_small}
use Rattle.sound.proofs.Counting.{one-changed}
use Rattle.sound.proofs.Put.{put_all}
use Rattle.sound.proofs.Members.{without-member, without_other}
use Rattle.demands.specs.Many.{AsMany}
use Rattle.demands.proofs.Many.{many-map, counted_many, many_counted}

-- ---- a test of the numbers below k

module _ (k : ℕ) where
  abbrev Passing : (ℕ → Bool) → ℕ → Type 0
  Passing f i = (i < k) × (f i ≡ true)

  abbrev except : (ℕ → Bool) → ℕ → ℕ → Bool
  except f i j = f j && not (eqb j i)

  one_passes : (f : ℕ → Bool) → 0 < tally k f → (i : ℕ) × Passing f i
  one_passes f h = let found = some-elim k f (some-tally k f h) in (found.0, (found.1, found.2))

  one_less : (f : ℕ → Bool) (i : ℕ) → Passing f i → suc (tally k (except f i)) ≡ tally k f
  one_less f i p = omega (arith, tally-change k f (except f i) i p.0 (λ j l ne. same j ne), ap bit (gone (f i)), ap bit p.1)
    where
      same : (j : ℕ) → (j ≡ i → ⊥) → f j ≡ except f i j
      same j ne = other (f j)
        where
          other : (b : Bool) → b ≡ (b && not (eqb j i))
          other true = rw (ne_eqb j i ne)
          other false = refl

      gone : (b : Bool) → (b && not (eqb i i)) ≡ false
      gone true = rw (eq-eqb i i refl)
      gone false = refl

  passed : (f : ℕ → Bool) (i j : ℕ) → Passing (except f i) j → Passing f j × (j ≡ i → ⊥)
  passed f i j p = ((p.0, and_left (f j) _ p.1), eqb-false j i (not-true (eqb j i) (and_right (f j) _ p.1)))

  passes : (f : ℕ → Bool) (i j : ℕ) → Passing f j → (j ≡ i → ⊥) → Passing (except f i) j
  passes f i j p ne = (p.0, and_both (f j) _ p.1 (not_yes (eqb j i) (ne_eqb j i ne)))

  -- As many as n pass the test exactly where it is counted n times or more.
  pub many_passing : (n : ℕ) (f : ℕ → Bool) → ((i : ℕ) → f i ≡ true → i < k) → (n ≤ tally k f) ↔ AsMany n (λ i. f i ≡ true)
  many_passing n f small = (
    (λ h. many-map (λ i p. p.1) (counted_many (tally k) Passing except one_passes one_less passed passes n f h)),
    (λ x. many_counted (tally k) Passing except one_passes one_less passed passes n f (many-map (λ i e. (small i e, e)) x)),
  )

-- As many as n roles are in a set exactly where it has n roles or more.
pub many-in : (n set : ℕ) → set < 2 ^ 64 → (n ≤ count set) ↔ AsMany n (λ r. has set r ≡ true)
unfolding count
many-in n set small = many_passing 64 n (has set) (λ r e. member-small set r small e)

-- ---- a table of k sets of roles

module _ (k : ℕ) where
  -- the role is in the set, both within their ranges
  abbrev Pair : (ℕ → ℕ) → ℕ × ℕ → Type 0
  Pair table p = (p.0 < k) × (p.1 < 64) × (has (table p.0) p.1 ≡ true)

  abbrev taken : (ℕ → ℕ) → ℕ × ℕ → ℕ → ℕ
  taken table p = put table p.0 (without (table p.0) p.1)

  one_pair : (table : ℕ → ℕ) → 0 < standing k table → (p : ℕ × ℕ) × Pair table p
  unfolding standing
  one_pair table h = go (some k (λ i. not (is_empty (table i)))) refl
    where
      go : (b : Bool) → some k (λ i. not (is_empty (table i))) ≡ b → (p : ℕ × ℕ) × Pair table p
      go true e =
          let i = some-elim k (λ i. not (is_empty (table i))) e in
          let r = is_empty_false (table i.0) (not-true (is_empty (table i.0)) i.2) in
          ((i.0, r.0), (i.1, r.1, r.2))
      go false e = absurd (let most = total-le k 0 (λ i. count (table i)) (λ i l. none_in (table i) (not-false (is_empty (table i)) (some-false k (λ j. not (is_empty (table j))) e i l))) in omega arith)
        where
          none_in : (set : ℕ) → is_empty set ≡ true → count set ≤ 0
          none_in set z = omega (arith, count-mono set 0 (λ r l h. clash (has set r) h (is_empty-true set z r l)), count_none)

  pair_less : (table : ℕ → ℕ) (p : ℕ × ℕ) → Pair table p → suc (standing k (taken table p)) ≡ standing k table
  pair_less table p h = omega (arith, one-changed k table p.0 (without (table p.0) p.1) h.0, count-without (table p.0) p.1 h.1 h.2)

  pair_was : (table : ℕ → ℕ) (p q : ℕ × ℕ) → Pair (taken table p) q → Pair table q × (q ≡ p → ⊥)
  pair_was table p q h = let was = put_all (λ i set. (r : ℕ) → has set r ≡ true → (has (table i) r ≡ true) × (i ≡ p.0 → r ≡ p.1 → ⊥)) table p.0 (without (table p.0) p.1) (λ r e. let w = without-member (table p.0) p.1 r e in (w.1, λ same. w.2)) (λ i ne r e. (e, λ same. absurd (ne same))) q.0 q.1 h.2 in
      ((h.0, h.1, was.0), λ e. was.1 (ap (λ (x : ℕ × ℕ). x.0) e) (ap (λ (x : ℕ × ℕ). x.1) e))

  pair_stays : (table : ℕ → ℕ) (p q : ℕ × ℕ) → Pair table q → (q ≡ p → ⊥) → Pair (taken table p) q
  pair_stays table p q h ne = (h.0, h.1, go (ℕ_discrete q.0 p.0))
    where
      go : Dec (q.0 ≡ p.0) → has (taken table p q.0) q.1 ≡ true
      go (yes e) = ap (λ (i : ℕ). has (taken table p i) q.1) e ∙ ap (λ (set : ℕ). has set q.1) (put_same table p.0 (without (table p.0) p.1)) ∙ without_other (table p.0) p.1 q.1 h.1 (sym (ap (λ (i : ℕ). has (table i) q.1) e) ∙ h.2) (λ f. ne (λ i. (e i, f i)))
      go (no e) = ap (λ (set : ℕ). has set q.1) (put_other table p.0 (without (table p.0) p.1) q.0 e) ∙ h.2

  -- As many as n pairs stand in the table exactly where it is counted to hold n or more.
  pub many_standing : (n : ℕ) (table : ℕ → ℕ) → ((i r : ℕ) → has (table i) r ≡ true → (i < k) × (r < 64)) → (n ≤ standing k table) ↔ AsMany n (λ (p : ℕ × ℕ). has (table p.0) p.1 ≡ true)
  many_standing n table small = (
    (λ h. many-map (λ p x. x.2) (counted_many (standing k) Pair taken one_pair pair_less pair_was pair_stays n table h)),
    (λ x. many_counted (standing k) Pair taken one_pair pair_less pair_was pair_stays n table (many-map (λ p e. let s = small p.0 p.1 e in (s.0, s.1, e)) x)),
  )

-- ---- how full the tables of a policy are

module _ (m : Model) (x : Shape m) where
  pub assignments_many : (n : ℕ) → (n ≤ assignments m) ↔ AsMany n (λ (p : ℕ × ℕ). has (m.assigned p.0) p.1 ≡ true)
  unfolding assignments
  assignments_many n = many_standing 256 n m.assigned (λ u r e. (x.users u (x.assignees u r e), role_small m x r ((x.assigned u).exist r e)))

  pub grants_many : (n : ℕ) → (n ≤ grants m) ↔ AsMany n (λ (p : ℕ × ℕ). has (m.holders p.0) p.1 ≡ true)
  unfolding grants
  grants_many n = many_standing 4096 n m.holders (λ p r e. (x.permissions p r e, role_small m x r ((x.holders p).exist r e)))

  pub lines_many : (n : ℕ) → (n ≤ lines_standing m) ↔ AsMany n (λ (p : ℕ × ℕ). has (m.juniors p.0) p.1 ≡ true)
  unfolding lines_standing
  lines_many n = many_standing 64 n m.juniors (lines_small m x).within

  pub sessions_many : (n : ℕ) → (n ≤ sessions_open m) ↔ AsMany n (λ s. (m.sessions s).live ≡ true)
  unfolding sessions_open
  sessions_many n = many_passing 64 n (λ s. (m.sessions s).live) (λ s e. (x.sessions s).numbered e)
