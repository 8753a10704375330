-- How far a check looks: the list of the effective roles up to the first that holds the permission, and how long it is. Assumes nothing.
use mathlib.Core.Bool.{Bool, true, false}
use mathlib.Core.List.Memᴰ
use mathlib.Core.List.{List, [], ◌∷◌, Memᴰ}
use mathlib.Core.Logic.{◌⊎◌, inl, inr, ◌↔◌}
use mathlib.Core.Path.{◌≡◌, refl, sym, ap, ◌∙◌}
use Prim.Native.Nat.{ℕ, ◌^◌, ◌≤◌, ◌<◌}
use native.Mathlib.Omega.{arith}
use lib.ListN.{length}
use Rattle.roleset.specs.Bounded.{members}
use Rattle.roleset.specs.Roles.{has}
use Rattle.roleset.proofs.BoundedLaws.{clash, never}
use Rattle.roleset.proofs.Laws.{member-small}
use Rattle.roleset.proofs.MembersLaws.{members-most}
use Rattle.hierarchy.proofs.WalkLaws.{reach_small}
use Rattle.model.specs.Lists.{up_to_first}
use Rattle.model.specs.Model.{Model}
use Rattle.model.specs.Sound.{Sound}
use Rattle.model.specs.Words.{effective}
use Rattle.model.specs.commands.Sessions.{looked}
use Rattle.model.proofs.Looking.{up-to-first-most}
use Rattle.sound.proofs.Words.{effective-exact}
use Rattle.reviews.proofs.ListLaws.{listed-member, member-listed, members-ascending}
use Rattle.demands.specs.Authorised.{InOrBelow, Effective}
use Rattle.demands.specs.Demand2.{Granted, LookedUpTo, LookedAtAll}
use Rattle.demands.specs.Many.{Ascending, empty, single, rises, HowMany}
use Rattle.demands.proofs.Lists.{member, ascends, first-least, later-ascending, least_first, one_list}

-- ---- a list up to its first number that passes a test

module _ (f : ℕ → Bool) where
  -- it is ascending where the whole is
  up_to_ascending : {l : List ℕ} → Ascending l → Ascending (up_to_first f l)
  unfolding up_to_first
  up_to_ascending empty = empty
  up_to_ascending (single {a}) = go (f a)
    where
      go : (b : Bool) → Ascending (a ∷ elim b as (λ _. List ℕ) [ true ↦ [] | false ↦ [] ])
      go true = single
      go false = single
  up_to_ascending (rises {a} {b} {rest} lt order) = go (f a) (up_to_ascending order)
    where
      go : (t : Bool) → Ascending (up_to_first f (b ∷ rest)) → Ascending (a ∷ elim t as (λ _. List ℕ) [ true ↦ [] | false ↦ up_to_first f (b ∷ rest) ])
      go true ih = single
      go false ih = rises lt ih

  -- a number of the list that passes, and before which none does
  pub record First (l : List ℕ) (r : ℕ) : Type 0 where
    pub member : Memᴰ r l
    pub passes : f r ≡ true
    pub first : (k : ℕ) → Memᴰ k l → f k ≡ true → r ≤ k

  -- where one passes there is a first
  find : (l : List ℕ) → Ascending l → (k : ℕ) → Memᴰ k l → f k ≡ true → (r : ℕ) × First l r
  find [] order k h e = absurd (Memᴰ.not-nil h)
  find (a ∷ l) order k h e = go (f a) refl (find l (later-ascending order) k)
    where
      go : (b : Bool) → f a ≡ b → (Memᴰ k l → f k ≡ true → (r : ℕ) × First l r) → (r : ℕ) × First (a ∷ l) r
      go true p ih = (a, record { member = Memᴰ.head refl; passes = p; first = λ j i q. least_first order i })
      go false p ih = later (Memᴰ.cases_cons h)
        where
          later : (k ≡ a) ⊎ Memᴰ k l → (r : ℕ) × First (a ∷ l) r
          later (inl q) = clash (f k) e (ap f q ∙ p)
          later (inr i) =
              let x = ih i e in
              (x.0, record { member = Memᴰ.tail x.1.member; passes = x.1.passes; first = λ j m q. rest j q (Memᴰ.cases_cons m) (x.1.first j) })
            where
              rest : {r : ℕ} (j : ℕ) → f j ≡ true → (j ≡ a) ⊎ Memᴰ j l → (Memᴰ j l → f j ≡ true → r ≤ j) → r ≤ j
              rest j q (inl s) g = clash (f j) q (ap f s ∙ p)
              rest j q (inr s) g = g s q

  -- in the list up to the first stand those that are above none that passes
  up_to_members : (l : List ℕ) → Ascending l → (k : ℕ) → Memᴰ k (up_to_first f l) ↔ (Memᴰ k l × ((r : ℕ) → Memᴰ r l → f r ≡ true → k ≤ r))
  unfolding up_to_first
  up_to_members [] order k = ((λ h. absurd (Memᴰ.not-nil h)), λ q. absurd (Memᴰ.not-nil q.0))
  up_to_members (a ∷ l) order k = go (f a) refl (up_to_members l (later-ascending order) k)
    where
      lowest : (r : ℕ) → Memᴰ r (a ∷ l) → a ≤ r
      lowest r h = least_first order h

      go : (b : Bool) → f a ≡ b → Memᴰ k (up_to_first f l) ↔ (Memᴰ k l × ((r : ℕ) → Memᴰ r l → f r ≡ true → k ≤ r)) → Memᴰ k (a ∷ elim b as (λ _. List ℕ) [ true ↦ [] | false ↦ up_to_first f l ]) ↔ (Memᴰ k (a ∷ l) × ((r : ℕ) → Memᴰ r (a ∷ l) → f r ≡ true → k ≤ r))
      go true p ih = ((λ h. here (Memᴰ.cases_cons h)), λ q. back (q.1 a (Memᴰ.head refl) p) (Memᴰ.cases_cons q.0))
        where
          here : (k ≡ a) ⊎ Memᴰ k [] → Memᴰ k (a ∷ l) × ((r : ℕ) → Memᴰ r (a ∷ l) → f r ≡ true → k ≤ r)
          here (inl e) = (Memᴰ.head e, λ r h q. omega (arith, e, lowest r h))
          here (inr h) = absurd (Memᴰ.not-nil h)

          back : k ≤ a → (k ≡ a) ⊎ Memᴰ k l → Memᴰ k (a ∷ [])
          back h (inl e) = Memᴰ.head e
          back h (inr i) = absurd (let z = first-least order k i in omega arith)
      go false p ih = ((λ h. here (Memᴰ.cases_cons h)), λ q. back q.1 (Memᴰ.cases_cons q.0))
        where
          later : ((r : ℕ) → Memᴰ r l → f r ≡ true → k ≤ r) → (r : ℕ) → f r ≡ true → (r ≡ a) ⊎ Memᴰ r l → k ≤ r
          later g r q (inl e) = clash (f r) q (ap f e ∙ p)
          later g r q (inr i) = g r i q

          here : (k ≡ a) ⊎ Memᴰ k (up_to_first f l) → Memᴰ k (a ∷ l) × ((r : ℕ) → Memᴰ r (a ∷ l) → f r ≡ true → k ≤ r)
          here (inl e) = (Memᴰ.head e, λ r h q. omega (arith, e, lowest r h))
          here (inr h) = let q = ih.0 h in (Memᴰ.tail q.0, λ r i e. later q.1 r e (Memᴰ.cases_cons i))

          back : ((r : ℕ) → Memᴰ r (a ∷ l) → f r ≡ true → k ≤ r) → (k ≡ a) ⊎ Memᴰ k l → Memᴰ k (a ∷ up_to_first f l)
          back g (inl e) = Memᴰ.head e
          back g (inr i) = Memᴰ.tail (ih.1 (i, λ r h. g r (Memᴰ.tail h)))

  -- only that of the empty list is empty
  up_to_empty : (l : List ℕ) → length (up_to_first f l) ≡ 0 → (k : ℕ) → Memᴰ k l → ⊥
  unfolding up_to_first
  up_to_empty [] e k h = Memᴰ.not-nil h
  up_to_empty (a ∷ l) e k h = absurd (omega (arith, e))

  up_to_nothing : (l : List ℕ) → ((k : ℕ) → Memᴰ k l → ⊥) → length (up_to_first f l) ≡ 0
  unfolding up_to_first
  up_to_nothing [] h = refl
  up_to_nothing (a ∷ l) h = absurd (h a (Memᴰ.head refl))

-- two numbers that tell how many there are of the same are one
pub how-many-one : {P Q : ℕ → Type 0} {n k : ℕ} → ((j : ℕ) → P j → Q j) → ((j : ℕ) → Q j → P j) → HowMany P n → HowMany Q k → n ≡ k
how-many-one to back x y = sym x.long ∙ ap length (one_list x.list y.list x.ascending y.ascending (λ j h. (y.members j).1 (to j ((x.members j).0 h))) (λ j h. (x.members j).1 (back j ((y.members j).0 h)))) ∙ y.long

-- ---- the roles of a set, stated as P, up to the first that is among the holders

module _ (set holders : ℕ) (small : set < 2 ^ 64) {P : ℕ → Type 0} (stated : (q : ℕ) → (has set q ≡ true) ↔ P q) where
  all : List ℕ
  all = members 64 (has set)

  ascending : Ascending all
  unfolding all
  ascending = (ascends all).0 (members-ascending 64 (has set))

  listed : (q : ℕ) → Memᴰ q all ↔ P q
  unfolding all
  listed q = ((λ h. (stated q).0 (listed-member 64 (has set) q ((member all q).1 h)).1), λ a. (member all q).0 (let h = (stated q).1 a in member-listed 64 (has set) q (member-small set q small h) h))

  abbrev number : ℕ
  number = length (up_to_first (has holders) (members 64 (has set)))

  -- as many as are above no holder
  pub how_far : HowMany (λ k. P k × ((r : ℕ) → P r → has holders r ≡ true → k ≤ r)) number
  unfolding all
  how_far = record { list = up_to_first (has holders) all; ascending = up_to_ascending (has holders) ascending; members = each; long = refl }
    where
      each : (k : ℕ) → Memᴰ k (up_to_first (has holders) all) ↔ (P k × ((r : ℕ) → P r → has holders r ≡ true → k ≤ r))
      each k = (
        (λ h. let q = (up_to_members (has holders) all ascending k).0 h in ((listed k).0 q.0, λ r p e. q.1 r ((listed r).1 p) e)),
        λ q. (up_to_members (has holders) all ascending k).1 ((listed k).1 q.0, λ r h e. q.1 r ((listed r).0 h) e),
      )

  pub at_most_64 : number ≤ 64
  at_most_64 = omega (arith, up-to-first-most (has holders) (members 64 (has set)), members-most 64 (has set))

  -- where one is a holder there is a first
  pub first_holder : (k : ℕ) → P k → has holders k ≡ true → (r : ℕ) × P r × (has holders r ≡ true) × ((j : ℕ) → P j → has holders j ≡ true → r ≤ j)
  first_holder k p e = let x = find (has holders) all ascending k ((listed k).1 p) e in (x.0, (listed x.0).0 x.1.member, x.1.passes, λ j q h. x.1.first j ((listed j).1 q) h)

  -- none is looked at exactly where there is none
  pub none_there : (number ≡ 0) ↔ ((k : ℕ) → P k → ⊥)
  unfolding all
  none_there = ((λ e k p. up_to_empty (has holders) all e k ((listed k).1 p)), λ h. up_to_nothing (has holders) all (λ k i. h k ((listed k).0 i)))

-- ---- the effective roles of a session

module _ (m : Model) (s : Sound m) (k : ℕ) where
  -- the computed set is the stated one
  pub effective_to : (q : ℕ) → has (effective m k) q ≡ true → Effective m k q
  effective_to q h = let e = (effective-exact m s k q).0 h in record { exists = e.0; through = e.1 }

  pub effective_met : (q : ℕ) → Effective m k q → has (effective m k) q ≡ true
  effective_met q a = (effective-exact m s k q).1 (a.exists, a.through)

  effective_stated : (q : ℕ) → (has (effective m k) q ≡ true) ↔ Effective m k q
  effective_stated q = (effective_to q, effective_met q)

  effective_small : effective m k < 2 ^ 64
  effective_small = reach_small m.juniors (m.sessions k).active

  -- how many of them are looked at for a permission
  module _ (p : ℕ) where
    pub looked_most : looked m k p ≤ 64
    unfolding looked
    looked_most = at_most_64 (effective m k) (m.holders p) effective_small effective_stated

    seen : HowMany (λ j. Effective m k j × ((r : ℕ) → Effective m k r → has (m.holders p) r ≡ true → j ≤ r)) (looked m k p)
    unfolding looked
    seen = how_far (effective m k) (m.holders p) effective_small effective_stated

    -- on yes
    pub looked_up_to : Granted m k p → LookedUpTo m k p (looked m k p)
    looked_up_to g =
        let x = first_holder (effective m k) (m.holders p) effective_small effective_stated g.role g.effective g.holds in
        record {
          role = x.0;
          holder = record { effective = x.1; holds = x.2; lowest = x.3 };
          number = record {
            list = seen.list;
            ascending = seen.ascending;
            members = λ j. (
              (λ h. let q = (seen.members j).0 h in let low = q.1 x.0 x.1 x.2 in (q.0, omega (arith, low))),
              λ q. (seen.members j).1 (q.0, λ r e h. let low = x.3 r e h in omega (arith, low, q.1)),
            );
            long = seen.long;
          };
        }

    -- on no
    pub looked_at_all : (Granted m k p → ⊥) → LookedAtAll m k p (looked m k p)
    looked_at_all none =
        record {
          none = none;
          number = record {
            list = seen.list;
            ascending = seen.ascending;
            members = λ j. ((λ h. ((seen.members j).0 h).0), λ q. (seen.members j).1 (q, λ r e h. absurd (none (record { role = r; effective = e; holds = h }))));
            long = seen.long;
          };
        }

    -- the number is the only one so stated
    pub one_up_to : {n : ℕ} → LookedUpTo m k p n → looked m k p ≡ n
    one_up_to x =
        let y = looked_up_to (record { role = x.role; effective = x.holder.effective; holds = x.holder.holds }) in
        let low : y.role ≤ x.role = y.holder.lowest x.role x.holder.effective x.holder.holds in
        let high : x.role ≤ y.role = x.holder.lowest y.role y.holder.effective y.holder.holds in
        how-many-one (λ j q. (q.0, omega arith)) (λ j q. (q.0, omega arith)) y.number x.number

    pub one_at_all : {n : ℕ} → LookedAtAll m k p n → looked m k p ≡ n
    one_at_all x = how-many-one (λ j q. q) (λ j q. q) (looked_at_all x.none).number x.number

    -- none is looked at exactly where none is active
    pub looked_none : (looked m k p ≡ 0) ↔ ((r : ℕ) → has (m.sessions k).active r ≡ false)
    unfolding looked
    looked_none =
        let none = none_there (effective m k) (m.holders p) effective_small effective_stated in
        ((λ e r. never (has (m.sessions k).active r) (λ h. none.0 e r (record { exists = (s.shape.sessions k).active.exist r h; through = inl h }))), λ h. none.1 (λ j e. idle h e.through))
      where
        idle : ((r : ℕ) → has (m.sessions k).active r ≡ false) → {j : ℕ} → InOrBelow m (m.sessions k).active j → ⊥
        idle h {j} (inl e) = clash (has (m.sessions k).active j) e (h j)
        idle h (inr q) = clash (has (m.sessions k).active q.0) q.1 (h q.0)
