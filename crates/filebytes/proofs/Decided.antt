-- Whether sections are of the form, by a test: for files that are written out. Assumes nothing.
use mathlib.Core.Bool.{Bool, true, ◌&&◌, ◌||◌}
use mathlib.Core.List.Memᴰ
use mathlib.Core.List.{List, [], ◌∷◌}
use mathlib.Core.Logic.{◌⊎◌, inl, inr}
use mathlib.Core.Path.{◌≡◌}
use Prim.Native.Nat.{ℕ, ◌<◌}
use lib.Dec.{eqb, ltb, leb}
use lib.ListN.{length}
use borrow.Author.Tests.{eqb-true, ltb-true, leb-true}
use Rattle.roleset.proofs.BoundedLaws.{and_left, and_right, or_cases}
use Rattle.filebytes.specs.Sections.{SetEntry, SessionEntry, Sections, Every, Ascending, Good, Listed, pair_before, grant_before, RoleList, FineSet, FineSession, OfTheForm}
use Rattle.filebytes.proofs.Lists.{any, any-in}

unfoldable pub all : {A : Type 0} → (A → Bool) → List A → Bool
all test [] = true
all test (a ∷ l) = test a && all test l

pub all-every : {A : Type 0} (test : A → Bool) (P : A → Type 0) → ((a : A) → test a ≡ true → P a) → (l : List A) → all test l ≡ true → Every P l
unfolding all
all-every test P exact [] e = tt
all-every test P exact (a ∷ l) e = (exact a (and_left (test a) (all test l) e), all-every test P exact l (and_right (test a) (all test l) e))

unfoldable pub in_order : {A : Type 0} → (A → A → Bool) → List A → Bool
in_order before [] = true
in_order before (a ∷ l) = all (before a) l && in_order before l

order-ascending : {A : Type 0} (before : A → A → Bool) (Before : A → A → Type 0) → ((a b : A) → before a b ≡ true → Before a b) → (l : List A) → in_order before l ≡ true → Ascending Before l
unfolding in_order
order-ascending before Before exact [] e = tt
order-ascending before Before exact (a ∷ l) e = (all-every (before a) (Before a) (exact a) l (and_left (all (before a) l) (in_order before l) e), order-ascending before Before exact l (and_right (all (before a) l) (in_order before l) e))

abbrev is_good : {A : Type 0} → ℕ → (A → Bool) → (A → A → Bool) → List A → Bool
is_good limit fine before l = leb (length l) limit && (all fine l && in_order before l)

good-by : {A : Type 0} (limit : ℕ) (fine : A → Bool) (before : A → A → Bool) (Fine : A → Type 0) (Before : A → A → Type 0) → ((a : A) → fine a ≡ true → Fine a) → ((a b : A) → before a b ≡ true → Before a b) → (l : List A) → is_good limit fine before l ≡ true → Good limit Fine Before l
good-by limit fine before Fine Before x y l e =
    let rest = and_right (leb (length l) limit) (all fine l && in_order before l) e in
    record { count = leb-true (length l) limit (and_left (leb (length l) limit) (all fine l && in_order before l) e); each = all-every fine Fine x l (and_left (all fine l) (in_order before l) rest); order = order-ascending before Before y l (and_right (all fine l) (in_order before l) rest) }

abbrev is_listed : ℕ → List ℕ → Bool
is_listed k l = any (eqb k) l

listed_by : (k : ℕ) (l : List ℕ) → is_listed k l ≡ true → Listed k l
listed_by k l e = let q = any-in (eqb k) l e in Memᴰ.cast (eqb-true k q.0 q.2) q.1

abbrev pair_is : ℕ × ℕ → ℕ × ℕ → Bool
pair_is p q = ltb p.0 q.0 || (eqb p.0 q.0 && ltb p.1 q.1)

pair-by : (p q : ℕ × ℕ) → pair_is p q ≡ true → pair_before p q
pair-by p q e = go (or_cases (ltb p.0 q.0) (eqb p.0 q.0 && ltb p.1 q.1) e)
  where
    go : (ltb p.0 q.0 ≡ true) ⊎ ((eqb p.0 q.0 && ltb p.1 q.1) ≡ true) → pair_before p q
    go (inl h) = inl (ltb-true p.0 q.0 h)
    go (inr h) = inr (eqb-true p.0 q.0 (and_left (eqb p.0 q.0) (ltb p.1 q.1) h), ltb-true p.1 q.1 (and_right (eqb p.0 q.0) (ltb p.1 q.1) h))

abbrev grant_is : ℕ × ℕ × ℕ → ℕ × ℕ × ℕ → Bool
grant_is p q = ltb p.0 q.0 || (eqb p.0 q.0 && pair_is (p.1, p.2) (q.1, q.2))

grant-by : (p q : ℕ × ℕ × ℕ) → grant_is p q ≡ true → grant_before p q
grant-by p q e = go (or_cases (ltb p.0 q.0) (eqb p.0 q.0 && pair_is (p.1, p.2) (q.1, q.2)) e)
  where
    go : (ltb p.0 q.0 ≡ true) ⊎ ((eqb p.0 q.0 && pair_is (p.1, p.2) (q.1, q.2)) ≡ true) → grant_before p q
    go (inl h) = inl (ltb-true p.0 q.0 h)
    go (inr h) = inr (eqb-true p.0 q.0 (and_left (eqb p.0 q.0) (pair_is (p.1, p.2) (q.1, q.2)) h), pair-by (p.1, p.2) (q.1, q.2) (and_right (eqb p.0 q.0) (pair_is (p.1, p.2) (q.1, q.2)) h))

-- two tests at once
both_by : (a b : Bool) (P Q : Type 0) → (a ≡ true → P) → (b ≡ true → Q) → (a && b) ≡ true → P × Q
both_by a b P Q x y e = (x (and_left a b e), y (and_right a b e))

module _ (f : Sections) where
  abbrev role_list_is : List ℕ → Bool
  role_list_is l = is_good 64 (λ r. is_listed r f.roles) ltb l

  role_list_by : (l : List ℕ) → role_list_is l ≡ true → RoleList f l
  role_list_by l e = good-by 64 (λ r. is_listed r f.roles) ltb (λ r. Listed r f.roles) ◌<◌ (λ r. listed_by r f.roles) ltb-true l e

  abbrev set_is : SetEntry → Bool
  set_is e = ltb e.name 16 && (ltb e.cardinality 65536 && role_list_is e.members)

  set_by : (e : SetEntry) → set_is e ≡ true → FineSet f e
  set_by e h =
      let rest = and_right (ltb e.name 16) (ltb e.cardinality 65536 && role_list_is e.members) h in
      record { name = ltb-true e.name 16 (and_left (ltb e.name 16) (ltb e.cardinality 65536 && role_list_is e.members) h); cardinality = ltb-true e.cardinality 65536 (and_left (ltb e.cardinality 65536) (role_list_is e.members) rest); members = role_list_by e.members (and_right (ltb e.cardinality 65536) (role_list_is e.members) rest) }

  abbrev session_is : SessionEntry → Bool
  session_is e = ltb e.number 64 && (is_listed e.owner f.users && role_list_is e.active)

  session_by : (e : SessionEntry) → session_is e ≡ true → FineSession f e
  session_by e h =
      let rest = and_right (ltb e.number 64) (is_listed e.owner f.users && role_list_is e.active) h in
      record { number = ltb-true e.number 64 (and_left (ltb e.number 64) (is_listed e.owner f.users && role_list_is e.active) h); owner = listed_by e.owner f.users (and_left (is_listed e.owner f.users) (role_list_is e.active) rest); active = role_list_by e.active (and_right (is_listed e.owner f.users) (role_list_is e.active) rest) }

  grant_fine : (g : ℕ × ℕ × ℕ) → (is_listed g.0 f.roles && (ltb g.1 16 && ltb g.2 256)) ≡ true → (Listed g.0 f.roles) × (g.1 < 16) × (g.2 < 256)
  grant_fine g h =
      let rest = and_right (is_listed g.0 f.roles) (ltb g.1 16 && ltb g.2 256) h in
      (listed_by g.0 f.roles (and_left (is_listed g.0 f.roles) (ltb g.1 16 && ltb g.2 256) h), ltb-true g.1 16 (and_left (ltb g.1 16) (ltb g.2 256) rest), ltb-true g.2 256 (and_right (ltb g.1 16) (ltb g.2 256) rest))

  -- the tests of the eight sections, all passed
  pub record Tested : Type 0 where
    pub users : is_good 256 (λ u. ltb u 256) ltb f.users ≡ true
    pub roles : is_good 64 (λ r. ltb r 64) ltb f.roles ≡ true
    pub lines : is_good 512 (λ l. is_listed l.0 f.roles && is_listed l.1 f.roles) pair_is f.lines ≡ true
    pub assignments : is_good 2048 (λ a. is_listed a.0 f.users && is_listed a.1 f.roles) pair_is f.assignments ≡ true
    pub grants : is_good 2048 (λ g. is_listed g.0 f.roles && (ltb g.1 16 && ltb g.2 256)) grant_is f.grants ≡ true
    pub ssd : is_good 16 set_is (λ a b. ltb a.name b.name) f.ssd ≡ true
    pub dsd : is_good 16 set_is (λ a b. ltb a.name b.name) f.dsd ≡ true
    pub sessions : is_good 64 session_is (λ a b. ltb a.number b.number) f.sessions ≡ true

  pub tested_form : Tested → OfTheForm f
  tested_form t =
      record {
        users = good-by 256 (λ u. ltb u 256) ltb (λ u. u < 256) ◌<◌ (λ u. ltb-true u 256) ltb-true f.users t.users;
        roles = good-by 64 (λ r. ltb r 64) ltb (λ r. r < 64) ◌<◌ (λ r. ltb-true r 64) ltb-true f.roles t.roles;
        lines = good-by 512 (λ l. is_listed l.0 f.roles && is_listed l.1 f.roles) pair_is _ pair_before (λ l. both_by _ _ _ _ (listed_by l.0 f.roles) (listed_by l.1 f.roles)) pair-by f.lines t.lines;
        assignments = good-by 2048 (λ a. is_listed a.0 f.users && is_listed a.1 f.roles) pair_is _ pair_before (λ a. both_by _ _ _ _ (listed_by a.0 f.users) (listed_by a.1 f.roles)) pair-by f.assignments t.assignments;
        grants = good-by 2048 (λ g. is_listed g.0 f.roles && (ltb g.1 16 && ltb g.2 256)) grant_is _ grant_before grant_fine grant-by f.grants t.grants;
        ssd = good-by 16 set_is (λ a b. ltb a.name b.name) (FineSet f) (λ a b. a.name < b.name) set_by (λ a b. ltb-true a.name b.name) f.ssd t.ssd;
        dsd = good-by 16 set_is (λ a b. ltb a.name b.name) (FineSet f) (λ a b. a.name < b.name) set_by (λ a b. ltb-true a.name b.name) f.dsd t.dsd;
        sessions = good-by 64 session_is (λ a b. ltb a.number b.number) (FineSession f) (λ a b. a.number < b.number) session_by (λ a b. ltb-true a.number b.number) f.sessions t.sessions;
      }
