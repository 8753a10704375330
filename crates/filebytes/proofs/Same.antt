-- The sections of a policy that holds what sections of the form list are these sections. Assumes nothing.
use mathlib.Core.Bool.{Bool, true}
use mathlib.Core.List.Memᴰ
use mathlib.Core.List.{List, map, Memᴰ}
use mathlib.Core.Logic.{inl, inr, ◌↔◌}
use mathlib.Core.Path.{◌≡◌, sym, ap, ◌∙◌}
use Prim.Native.Nat.{ℕ, ◌+◌, ◌*◌, ◌/◌, ◌%◌, ◌<◌}
use native.Mathlib.Omega.{arith}
use Rattle.roleset.specs.Bounded.{members}
use Rattle.roleset.specs.Roles.{has}
use Rattle.model.specs.Model.{Model, RoleSet, Session}
use Rattle.policyform.specs.Encode.{pair_in, grant_in}
use Rattle.filebytes.specs.Sections.{SetEntry, SessionEntry, Sections, Ascending, Good, Listed, pair_before, grant_before, RoleList, FineSet, FineSession, OfTheForm}
use Rattle.filebytes.specs.Meaning.{SetAs, SessionAs, SetNamed, SessionNumbered, Says}
use Rattle.filebytes.proofs.Lists.{every-elim, members-in, in_members, ascending-members, same_list, listed_same, less-never}
use Rattle.filebytes.proofs.Listed.{pair_of, grant_of, pair_number, grant_number, set_entry_of, session_entry_of, sections_of, pair-up, grant-up, pair-own, grant-own}

-- a list of numbers below n
numbers-same : (n : ℕ) (test : ℕ → Bool) (l : List ℕ) → Ascending ◌<◌ l → ((k : ℕ) → Listed k l → k < n) → ((k : ℕ) → (test k ≡ true) ↔ Listed k l) → members n test ≡ l
numbers-same n test l p small says = same_list ◌<◌ less-never (members n test) l (ascending-members n test) p (λ k m. (says k).0 (members-in n test k m).1) (λ k m. in_members n test k (small k m) ((says k).1 m))

pub pair-never : (p q : ℕ × ℕ) → pair_before p q → pair_before q p → ⊥
pair-never p q (inl a) (inl b) = omega arith
pair-never p q (inl a) (inr b) = omega (arith, b.0)
pair-never p q (inr a) (inl b) = omega (arith, a.0)
pair-never p q (inr a) (inr b) = omega (arith, a.1, b.1)

pub pairs-same : (size : ℕ) (table : ℕ → ℕ) (l : List (ℕ × ℕ)) → Ascending pair_before l → ((p : ℕ × ℕ) → Memᴰ p l → (p.0 < size) × (p.1 < 64)) → ((i r : ℕ) → (has (table i) r ≡ true) ↔ Memᴰ (i, r) l) → map pair_of (members (64 * size) (pair_in table)) ≡ l
pairs-same size table l p small says = listed_same pair_before pair-never pair_number pair_of (64 * size) (pair_in table) pair-up l p (λ p m. pair-own size table p (small p m).0 (small p m).1 ((says p.0 p.1).1 m)) (λ k h e. (says (k / 64) (k % 64)).0 e)

pub grant-never : (p q : ℕ × ℕ × ℕ) → grant_before p q → grant_before q p → ⊥
grant-never p q (inl a) (inl b) = omega arith
grant-never p q (inl a) (inr b) = omega (arith, b.0)
grant-never p q (inr a) (inl b) = omega (arith, a.0)
grant-never p q (inr a) (inr b) = pair-never (p.1, p.2) (q.1, q.2) a.1 b.1

pub grants-same : (holders : ℕ → ℕ) (l : List (ℕ × ℕ × ℕ)) → Ascending grant_before l → ((g : ℕ × ℕ × ℕ) → Memᴰ g l → (g.0 < 64) × (g.1 < 16) × (g.2 < 256)) → ((r op obj : ℕ) → op < 16 → obj < 256 → (has (holders (op * 256 + obj)) r ≡ true) ↔ Memᴰ (r, op, obj) l) → map grant_of (members 262144 (grant_in holders)) ≡ l
grants-same holders l p small says = listed_same grant_before grant-never grant_number grant_of 262144 (grant_in holders) grant-up l p own each
  where
    own : (g : ℕ × ℕ × ℕ) → Memᴰ g l → (grant_number g < 262144) × (grant_in holders (grant_number g) ≡ true) × (grant_of (grant_number g) ≡ g)
    own g m = let s = small g m in grant-own holders g s.0 s.1 s.2 ((says g.0 g.1 g.2 s.1 s.2).1 m)

    each : (k : ℕ) → k < 262144 → grant_in holders k ≡ true → Memᴰ (grant_of k) l
    each k h e =
        let same : k % 4096 / 256 * 256 + k % 256 ≡ k % 4096 = omega arith in
        (says (k / 4096) (k % 4096 / 256) (k % 256) (omega arith) (omega arith)).0 (ap (λ (a : ℕ). has (holders a) (k / 4096)) same ∙ e)

-- entries that are found by their number
keyed-same : {A : Type 0} (key : A → ℕ) (entry : ℕ → A) → ((k j : ℕ) → k < j → key (entry k) < key (entry j)) → (n : ℕ) (test : ℕ → Bool) (l : List A) → Ascending (λ a b. key a < key b) l → ((a : A) → Memᴰ a l → (key a < n) × (test (key a) ≡ true) × (entry (key a) ≡ a)) → ((k : ℕ) → test k ≡ true → (a : A) × (Memᴰ a l) × (key a ≡ k)) → map entry (members n test) ≡ l
keyed-same {A} key entry up n test l p own only = listed_same (λ a b. key a < key b) (λ a b. less-never (key a) (key b)) key entry n test up l p own (λ k h e. let q = only k e in Memᴰ.cast (ap entry (sym q.2) ∙ (own q.0 q.1).2) q.1)

module _ (f : Sections) (x : OfTheForm f) where
  pub role_small : (r : ℕ) → Listed r f.roles → r < 64
  role_small = every-elim (λ r. r < 64) f.roles x.roles.each

  pub user_small : (u : ℕ) → Listed u f.users → u < 256
  user_small = every-elim (λ u. u < 256) f.users x.users.each

  pub member_listed : (l : List ℕ) → RoleList f l → (r : ℕ) → Listed r l → r < 64
  member_listed l g r m = role_small r (every-elim (λ k. Listed k f.roles) l g.each r m)

  roles_same : (s : ℕ) (l : List ℕ) → RoleList f l → ((r : ℕ) → (has s r ≡ true) ↔ Listed r l) → members 64 (has s) ≡ l
  roles_same s l g = numbers-same 64 (has s) l g.order (member_listed l g)

  sets_same : (sets : ℕ → RoleSet) (l : List SetEntry) → Good 16 (FineSet f) (λ a b. a.name < b.name) l → ((e : SetEntry) → Memᴰ e l → SetAs sets e) → ((n : ℕ) → (sets n).there ≡ true → SetNamed n l) → map (set_entry_of sets) (members 16 (λ n. (sets n).there)) ≡ l
  sets_same sets l g say only = keyed-same (λ e. e.name) (set_entry_of sets) (λ k j h. h) 16 (λ n. (sets n).there) l g.order own only
    where
      own : (e : SetEntry) → Memᴰ e l → (e.name < 16) × ((sets e.name).there ≡ true) × (set_entry_of sets e.name ≡ e)
      own e m =
          let fine = every-elim (FineSet f) l g.each e m in
          let same = roles_same (sets e.name).roles e.members fine.members (say e m).members in
          (fine.name, (say e m).there, λ j. record { name = e.name; cardinality = (say e m).cardinality j; members = same j })

  sessions_same : (sessions : ℕ → Session) (l : List SessionEntry) → Good 64 (FineSession f) (λ a b. a.number < b.number) l → ((e : SessionEntry) → Memᴰ e l → SessionAs sessions e) → ((n : ℕ) → (sessions n).live ≡ true → SessionNumbered n l) → map (session_entry_of sessions) (members 64 (λ n. (sessions n).live)) ≡ l
  sessions_same sessions l g say only = keyed-same (λ e. e.number) (session_entry_of sessions) (λ k j h. h) 64 (λ n. (sessions n).live) l g.order own only
    where
      own : (e : SessionEntry) → Memᴰ e l → (e.number < 64) × ((sessions e.number).live ≡ true) × (session_entry_of sessions e.number ≡ e)
      own e m =
          let fine = every-elim (FineSession f) l g.each e m in
          let same = roles_same (sessions e.number).active e.active fine.active (say e m).active in
          (fine.number, (say e m).live, λ j. record { number = e.number; owner = (say e m).owner j; active = same j })

  pub lines_same : (table : ℕ → ℕ) → ((s j : ℕ) → (has (table s) j ≡ true) ↔ Memᴰ (s, j) f.lines) → map pair_of (members 4096 (pair_in table)) ≡ f.lines
  lines_same table = pairs-same 64 table f.lines x.lines.order (λ p m. let y = every-elim _ f.lines x.lines.each p m in (role_small p.0 y.0, role_small p.1 y.1))

  pub assignments_same : (table : ℕ → ℕ) → ((u r : ℕ) → (has (table u) r ≡ true) ↔ Memᴰ (u, r) f.assignments) → map pair_of (members 16384 (pair_in table)) ≡ f.assignments
  assignments_same table = pairs-same 256 table f.assignments x.assignments.order (λ p m. let y = every-elim _ f.assignments x.assignments.each p m in (user_small p.0 y.0, role_small p.1 y.1))

  pub holders_same : (table : ℕ → ℕ) → ((r op obj : ℕ) → op < 16 → obj < 256 → (has (table (op * 256 + obj)) r ≡ true) ↔ Memᴰ (r, op, obj) f.grants) → map grant_of (members 262144 (grant_in table)) ≡ f.grants
  holders_same table = grants-same table f.grants x.grants.order (λ g m. let y = every-elim _ f.grants x.grants.each g m in (role_small g.0 y.0, y.1, y.2))

  -- Whichever policy holds what the sections list, its sections are these.
  pub sections_same : (m : Model) → Says f m → sections_of m ≡ f
  sections_same m s =
      let e1 = numbers-same 256 m.users f.users x.users.order user_small s.users in
      let e2 = numbers-same 64 (has m.roles) f.roles x.roles.order role_small s.roles in
      let e3 = lines_same m.juniors s.lines in
      let e4 = assignments_same m.assigned s.assignments in
      let e5 = holders_same m.holders s.grants in
      let e6 = sets_same m.ssd f.ssd x.ssd s.ssd s.ssd_only in
      let e7 = sets_same m.dsd f.dsd x.dsd s.dsd s.dsd_only in
      let e8 = sessions_same m.sessions f.sessions x.sessions s.sessions s.sessions_only in
      λ j. record { users = e1 j; roles = e2 j; lines = e3 j; assignments = e4 j; grants = e5 j; ssd = e6 j; dsd = e7 j; sessions = e8 j }
