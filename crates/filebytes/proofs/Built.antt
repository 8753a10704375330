-- Sections of the form are the file of a policy: the one that holds what they list. Assumes nothing.
use mathlib.Core.Bool.{Bool, true, false, ◌&&◌}
use mathlib.Core.List.Memᴰ
use mathlib.Core.List.{List, [], ◌∷◌, Memᴰ}
use mathlib.Core.Logic.{◌⊎◌, inl, inr, ◌↔◌}
use mathlib.Core.Path.{◌≡◌, refl, sym, ap, subst, ◌∙◌}
use Prim.Native.Nat.{ℕ, ◌+◌, ◌*◌, ◌/◌, ◌%◌, ◌<◌}
use native.Mathlib.Omega.{arith}
use lib.Dec.{eqb}
use lib.ListN.{length, length-map}
use borrow.Author.Tests.{eqb-true, eqb-false, eq-eqb}
use Rattle.roleset.specs.Bounded.{members}
use Rattle.roleset.specs.Roles.{has, those}
use Rattle.roleset.proofs.BoundedLaws.{and_left, and_right, and_both, clash}
use Rattle.roleset.proofs.Laws.{has-none, has-those, those-small, those-member}
use Rattle.model.specs.Model.{Model, RoleSet, Session, absent_set, closed_session, standing}
use Rattle.model.specs.Sound.{Existing, SessionShape, Limits, Counted}
use Rattle.model.specs.Words.{assignments, grants, lines_standing}
use Rattle.policyform.specs.Encode.{pair_in, grant_in}
use Rattle.policyform.specs.Form.{SetForm, Formed}
use Rattle.policyform.proofs.Counts.{pairs-count, grants-count}
use Rattle.filebytes.specs.Sections.{SetEntry, SessionEntry, Sections, Ascending, Good, Listed, RoleList, FineSet, FineSession, OfTheForm}
use Rattle.filebytes.specs.Meaning.{SetAs, SessionAs, SetNamed, SessionNumbered, Says}
use Rattle.filebytes.proofs.Lists.{every-elim, any, any-in, in-any}
use Rattle.filebytes.proofs.Listed.{pair_of, grant_of}
use Rattle.filebytes.proofs.Same.{role_small, user_small, member_listed, lines_same, assignments_same, holders_same}

-- ---- a set of roles from a list of entries, of which `entry r` names the role r

module _ {A : Type 0} (entry : ℕ → A) (test : ℕ → A → Bool) (exact : (r : ℕ) (a : A) → test r a ≡ true → entry r ≡ a) (self : (r : ℕ) → test r (entry r) ≡ true) (l : List A) (small : (r : ℕ) → Memᴰ (entry r) l → r < 64) where
  packed_exact : (r : ℕ) → (has (those (λ k. any (test k) l)) r ≡ true) ↔ Memᴰ (entry r) l
  packed_exact r = (to, back)
    where
      to : has (those (λ k. any (test k) l)) r ≡ true → Memᴰ (entry r) l
      to e = let q = any-in (test r) l (those-member (λ k. any (test k) l) r e).1 in Memᴰ.cast (exact r q.0 q.2) q.1

      back : Memᴰ (entry r) l → has (those (λ k. any (test k) l)) r ≡ true
      back m = has-those (λ k. any (test k) l) r (small r m) ∙ in-any (test r) l (entry r) m (self r)

abbrev pub roles_in : List ℕ → ℕ
roles_in l = those (λ r. any (eqb r) l)

roles-in : (l : List ℕ) → ((r : ℕ) → Listed r l → r < 64) → (r : ℕ) → (has (roles_in l) r ≡ true) ↔ Listed r l
roles-in = packed_exact (λ r. r) eqb eqb-true (λ r. eq-eqb r r refl)

abbrev pair_test : ℕ → ℕ → ℕ × ℕ → Bool
pair_test i r p = eqb i p.0 && eqb r p.1

abbrev pub row_in : List (ℕ × ℕ) → ℕ → ℕ
row_in l i = those (λ r. any (pair_test i r) l)

row-in : (l : List (ℕ × ℕ)) (i : ℕ) → ((r : ℕ) → Memᴰ (i, r) l → r < 64) → (r : ℕ) → (has (row_in l i) r ≡ true) ↔ Memᴰ (i, r) l
row-in l i =
    packed_exact (λ r. (i, r)) (pair_test i) (λ r p e. (λ j. (eqb-true i p.0 (and_left (eqb i p.0) (eqb r p.1) e) j, eqb-true r p.1 (and_right (eqb i p.0) (eqb r p.1) e) j))) (λ r. and_both (eqb i i) (eqb r r) (eq-eqb i i refl) (eq-eqb r r refl)) l

abbrev grant_test : ℕ → ℕ → ℕ → ℕ × ℕ × ℕ → Bool
grant_test op obj r g = eqb r g.0 && (eqb op g.1 && eqb obj g.2)

abbrev pub holders_in : List (ℕ × ℕ × ℕ) → ℕ → ℕ
holders_in l p = those (λ r. any (grant_test (p / 256) (p % 256) r) l)

holders-in : (l : List (ℕ × ℕ × ℕ)) (p : ℕ) → ((r : ℕ) → Memᴰ (r, p / 256, p % 256) l → r < 64) → (r : ℕ) → (has (holders_in l p) r ≡ true) ↔ Memᴰ (r, p / 256, p % 256) l
holders-in l p = packed_exact (λ r. (r, p / 256, p % 256)) (grant_test (p / 256) (p % 256)) exact self l
  where
    exact : (r : ℕ) (g : ℕ × ℕ × ℕ) → grant_test (p / 256) (p % 256) r g ≡ true → (r, p / 256, p % 256) ≡ g
    exact r g e =
        let rest = and_right (eqb r g.0) (eqb (p / 256) g.1 && eqb (p % 256) g.2) e in
        let a : r ≡ g.0 = eqb-true r g.0 (and_left (eqb r g.0) (eqb (p / 256) g.1 && eqb (p % 256) g.2) e) in
        let b : p / 256 ≡ g.1 = eqb-true (p / 256) g.1 (and_left (eqb (p / 256) g.1) (eqb (p % 256) g.2) rest) in
        let d : p % 256 ≡ g.2 = eqb-true (p % 256) g.2 (and_right (eqb (p / 256) g.1) (eqb (p % 256) g.2) rest) in
        λ j. (a j, b j, d j)

    self : (r : ℕ) → grant_test (p / 256) (p % 256) r (r, p / 256, p % 256) ≡ true
    self r = and_both (eqb r r) _ (eq-eqb r r refl) (and_both (eqb (p / 256) (p / 256)) (eqb (p % 256) (p % 256)) (eq-eqb (p / 256) (p / 256) refl) (eq-eqb (p % 256) (p % 256) refl))

-- ---- a record from the entry of its number

module _ {A B : Type 0} (key : A → ℕ) (make : A → B) (d : B) where
  unfoldable pub at_key : List A → ℕ → B
  at_key [] n = d
  at_key (a ∷ l) n = elim (eqb (key a) n) [ true ↦ make a | false ↦ at_key l n ]

  at_here : (a : A) (l : List A) (n : ℕ) → eqb (key a) n ≡ true → at_key (a ∷ l) n ≡ make a
  unfolding at_key
  at_here a l n e = ap (λ (b : Bool). elim b as (λ _. B) [ true ↦ make a | false ↦ at_key l n ]) e

  at_later : (a : A) (l : List A) (n : ℕ) → eqb (key a) n ≡ false → at_key (a ∷ l) n ≡ at_key l n
  unfolding at_key
  at_later a l n e = ap (λ (b : Bool). elim b as (λ _. B) [ true ↦ make a | false ↦ at_key l n ]) e

  -- an entry has the number and the record is made of it; or none has it, and there is the default
  Found : List A → ℕ → Type 0
  Found l n = ((a : A) × (Memᴰ a l) × (key a ≡ n) × (at_key l n ≡ make a)) ⊎ (at_key l n ≡ d)

  found : (l : List A) (n : ℕ) → Found l n
  unfolding at_key Found
  found [] n = inr refl
  found (a ∷ l) n = go (eqb (key a) n) refl (found l n)
    where
      go : (b : Bool) → eqb (key a) n ≡ b → Found l n → Found (a ∷ l) n
      go true e x = inl (a, Memᴰ.head refl, eqb-true (key a) n e, at_here a l n e)
      go false e (inl q) = inl (q.0, Memᴰ.tail q.1, q.2, at_later a l n e ∙ q.3)
      go false e (inr q) = inr (at_later a l n e ∙ q)

  one_key : (l : List A) → Ascending (λ a b. key a < key b) l → (a b : A) → Memᴰ a l → Memᴰ b l → key a ≡ key b → a ≡ b
  one_key [] p a b x4 _ k = elim x4 [ ]
  one_key (x ∷ l) p a b (Memᴰ.head e) (Memᴰ.head h) k = e ∙ sym h
  one_key (x ∷ l) p a b (Memᴰ.head e) (Memᴰ.tail j) k = let s : key a ≡ key x = ap key e in absurd (omega (arith, every-elim (λ y. key x < key y) l p.0 b j))
  one_key (x ∷ l) p a b (Memᴰ.tail i) (Memᴰ.head h) k = let s : key b ≡ key x = ap key h in absurd (omega (arith, every-elim (λ y. key x < key y) l p.0 a i))
  one_key (x ∷ l) p a b (Memᴰ.tail i) (Memᴰ.tail j) k = one_key l p.1 a b i j k

  key_in : (l : List A) → (a : A) → Memᴰ a l → (b : A) × (Memᴰ b l) × (key b ≡ key a) × (at_key l (key a) ≡ make b)
  unfolding at_key
  key_in [] a m = elim m [ ]
  key_in (x ∷ l) a m = go (eqb (key x) (key a)) refl m (key_in l a)
    where
      go : (b : Bool) → eqb (key x) (key a) ≡ b → Memᴰ a (x ∷ l) → (Memᴰ a l → (b : A) × (Memᴰ b l) × (key b ≡ key a) × (at_key l (key a) ≡ make b)) → (b : A) × (Memᴰ b (x ∷ l)) × (key b ≡ key a) × (at_key (x ∷ l) (key a) ≡ make b)
      go true e m ih = (x, Memᴰ.head refl, eqb-true (key x) (key a) e, at_here x l (key a) e)
      go false e (Memᴰ.head h) ih = absurd (eqb-false (key x) (key a) e (ap key (sym h)))
      go false e (Memᴰ.tail m) ih = let q = ih m in (q.0, Memᴰ.tail q.1, q.2, at_later x l (key a) e ∙ q.3)

  -- where no two entries have one number, each entry is found by its own
  at_own : (l : List A) → Ascending (λ a b. key a < key b) l → (a : A) → Memᴰ a l → at_key l (key a) ≡ make a
  at_own l p a m = let q = key_in l a m in q.3 ∙ ap make (one_key l p q.0 a q.1 m q.2)

-- ---- the policy

abbrev set_made : SetEntry → RoleSet
set_made e = record { there = true; card = e.cardinality; roles = roles_in e.members }

abbrev session_made : SessionEntry → Session
session_made e = record { live = true; owner = e.owner; active = roles_in e.active }

abbrev sets_in : List SetEntry → ℕ → RoleSet
sets_in = at_key (λ e. e.name) set_made absent_set

abbrev sessions_in : List SessionEntry → ℕ → Session
sessions_in = at_key (λ e. e.number) session_made closed_session

abbrev pub model_of : Sections → Model
model_of f =
    record {
      users = λ u. any (eqb u) f.users;
      roles = roles_in f.roles;
      juniors = row_in f.lines;
      assigned = row_in f.assignments;
      holders = holders_in f.grants;
      ssd = sets_in f.ssd;
      dsd = sets_in f.dsd;
      sessions = sessions_in f.sessions;
      assignment_count = standing 256 (row_in f.assignments);
      grant_count = standing 4096 (holders_in f.grants);
      line_count = standing 64 (row_in f.lines);
    }

module _ (f : Sections) (x : OfTheForm f) where
  users_say : (u : ℕ) → ((model_of f).users u ≡ true) ↔ Listed u f.users
  users_say u = ((λ e. let q = any-in (eqb u) f.users e in Memᴰ.cast (eqb-true u q.0 q.2) q.1), (λ m. in-any (eqb u) f.users u m (eq-eqb u u refl)))

  roles_say : (r : ℕ) → (has (model_of f).roles r ≡ true) ↔ Listed r f.roles
  roles_say = roles-in f.roles (role_small f x)

  list_says : (l : List ℕ) → RoleList f l → (r : ℕ) → (has (roles_in l) r ≡ true) ↔ Listed r l
  list_says l g = roles-in l (member_listed f x l g)

  a_line : (p : ℕ × ℕ) → Memᴰ p f.lines → (Listed p.0 f.roles) × (Listed p.1 f.roles)
  a_line = every-elim (λ l. (Listed l.0 f.roles) × (Listed l.1 f.roles)) f.lines x.lines.each

  an_assignment : (p : ℕ × ℕ) → Memᴰ p f.assignments → (Listed p.0 f.users) × (Listed p.1 f.roles)
  an_assignment = every-elim (λ a. (Listed a.0 f.users) × (Listed a.1 f.roles)) f.assignments x.assignments.each

  a_grant : (g : ℕ × ℕ × ℕ) → Memᴰ g f.grants → (Listed g.0 f.roles) × (g.1 < 16) × (g.2 < 256)
  a_grant = every-elim (λ g. (Listed g.0 f.roles) × (g.1 < 16) × (g.2 < 256)) f.grants x.grants.each

  lines_say : (s j : ℕ) → (has (row_in f.lines s) j ≡ true) ↔ Memᴰ (s, j) f.lines
  lines_say s = row-in f.lines s (λ j m. role_small f x j (a_line (s, j) m).1)

  assignments_say : (u r : ℕ) → (has (row_in f.assignments u) r ≡ true) ↔ Memᴰ (u, r) f.assignments
  assignments_say u = row-in f.assignments u (λ r m. role_small f x r (an_assignment (u, r) m).1)

  holders_say : (p r : ℕ) → (has (holders_in f.grants p) r ≡ true) ↔ Memᴰ (r, p / 256, p % 256) f.grants
  holders_say p = holders-in f.grants p (λ r m. role_small f x r (a_grant (r, p / 256, p % 256) m).0)

  permissions_small : (p r : ℕ) → has (holders_in f.grants p) r ≡ true → p < 4096
  permissions_small p r e = omega (arith, (a_grant (r, p / 256, p % 256) ((holders_say p r).0 e)).1)

  grants_say : (r op obj : ℕ) → op < 16 → obj < 256 → (has (holders_in f.grants (op * 256 + obj)) r ≡ true) ↔ Memᴰ (r, op, obj) f.grants
  grants_say r op obj a b =
      let first : op ≡ (op * 256 + obj) / 256 = omega arith in
      let second : obj ≡ (op * 256 + obj) % 256 = omega arith in
      let same = holders_say (op * 256 + obj) r in
      ((λ e. Memᴰ.cast (λ j. (r, first j, second j)) (same.0 e)), (λ m. same.1 (Memᴰ.cast (λ j. (r, sym first j, sym second j)) m)))

  sets_say : (l : List SetEntry) → Good 16 (FineSet f) (λ a b. a.name < b.name) l → (e : SetEntry) → Memᴰ e l → SetAs (sets_in l) e
  sets_say l g e m =
      let found-there = at_own (λ e. e.name) set_made absent_set l g.order e m in
      let fine = every-elim (FineSet f) l g.each e m in
      record {
        there = ap (λ (s : RoleSet). s.there) found-there;
        cardinality = ap (λ (s : RoleSet). s.card) found-there;
        members = subst (λ (s : RoleSet). (r : ℕ) → (has s.roles r ≡ true) ↔ Listed r e.members) (sym found-there) (list_says e.members fine.members);
      }

  sessions_say : (e : SessionEntry) → Memᴰ e f.sessions → SessionAs (sessions_in f.sessions) e
  sessions_say e m =
      let found-there = at_own (λ e. e.number) session_made closed_session f.sessions x.sessions.order e m in
      let fine = every-elim (FineSession f) f.sessions x.sessions.each e m in
      record {
        live = ap (λ (s : Session). s.live) found-there;
        owner = ap (λ (s : Session). s.owner) found-there;
        active = subst (λ (s : Session). (r : ℕ) → (has s.active r ≡ true) ↔ Listed r e.active) (sym found-there) (list_says e.active fine.active);
      }

  sets_only : (l : List SetEntry) (n : ℕ) → (sets_in l n).there ≡ true → SetNamed n l
  unfolding Found
  sets_only l n e = go (found (λ e. e.name) set_made absent_set l n)
    where
      go : Found (λ e. e.name) set_made absent_set l n → SetNamed n l
      go (inl q) = (q.0, q.1, q.2)
      go (inr q) = clash (sets_in l n).there e (ap (λ (s : RoleSet). s.there) q)

  sessions_only : (n : ℕ) → (sessions_in f.sessions n).live ≡ true → SessionNumbered n f.sessions
  unfolding Found
  sessions_only n e = go (found (λ e. e.number) session_made closed_session f.sessions n)
    where
      go : Found (λ e. e.number) session_made closed_session f.sessions n → SessionNumbered n f.sessions
      go (inl q) = (q.0, q.1, q.2)
      go (inr q) = clash (sessions_in f.sessions n).live e (ap (λ (s : Session). s.live) q)

  pub built_says : Says f (model_of f)
  built_says =
      record {
        users = users_say;
        roles = roles_say;
        lines = lines_say;
        assignments = assignments_say;
        grants = grants_say;
        permissions = permissions_small;
        ssd = sets_say f.ssd x.ssd;
        ssd_only = sets_only f.ssd;
        dsd = sets_say f.dsd x.dsd;
        dsd_only = sets_only f.dsd;
        sessions = sessions_say;
        sessions_only = sessions_only;
      }

  -- ---- it may stand in a file

  existing : (l : List ℕ) → RoleList f l → Existing (model_of f) (roles_in l)
  existing l g = record { small = those-small (λ r. any (eqb r) l); exist = λ r e. (roles_say r).1 (every-elim (λ k. Listed k f.roles) l g.each r ((list_says l g r).0 e)) }

  set_form : (l : List SetEntry) → Good 16 (FineSet f) (λ a b. a.name < b.name) l → (n : ℕ) → SetForm (model_of f) n (sets_in l n)
  unfolding Found
  set_form l g n = go (found (λ e. e.name) set_made absent_set l n)
    where
      go : Found (λ e. e.name) set_made absent_set l n → SetForm (model_of f) n (sets_in l n)
      go (inl q) =
          let fine = every-elim (FineSet f) l g.each q.0 q.1 in
          subst (SetForm (model_of f) n) (sym q.3) (record { absent = λ e. absurd (let z : ◌≡◌ {A = ℕ} 0 1 = cc in omega arith); named = λ e. omega (arith, fine.name, q.2); small = fine.cardinality; members = existing q.0.members fine.members })
      go (inr q) = subst (SetForm (model_of f) n) (sym q) (record { absent = λ e. refl; named = λ e. absurd (let z : ◌≡◌ {A = ℕ} 0 1 = cc in omega arith); small = omega arith; members = none_existing })
        where
          none_existing : Existing (model_of f) 0
          none_existing = record { small = omega arith; exist = λ r e. clash (has 0 r) e (has-none r) }

  session_form : (n : ℕ) → SessionShape (model_of f) n (sessions_in f.sessions n)
  unfolding Found
  session_form n = go (found (λ e. e.number) session_made closed_session f.sessions n)
    where
      go : Found (λ e. e.number) session_made closed_session f.sessions n → SessionShape (model_of f) n (sessions_in f.sessions n)
      go (inl q) =
          let fine = every-elim (FineSession f) f.sessions x.sessions.each q.0 q.1 in
          subst (SessionShape (model_of f) n) (sym q.3) (record { closed = λ e. absurd (let z : ◌≡◌ {A = ℕ} 0 1 = cc in omega arith); numbered = λ e. omega (arith, fine.number, q.2); owned = λ e. (users_say q.0.owner).1 fine.owner; active = existing q.0.active fine.active })
      go (inr q) = subst (SessionShape (model_of f) n) (sym q) (record { closed = λ e. refl; numbered = λ e. absurd (let z : ◌≡◌ {A = ℕ} 0 1 = cc in omega arith); owned = λ e. absurd (let z : ◌≡◌ {A = ℕ} 0 1 = cc in omega arith); active = record { small = omega arith; exist = λ r e. clash (has 0 r) e (has-none r) } })

  limits : Limits (model_of f)
  unfolding assignments grants lines_standing
  limits =
      record {
        assigned = omega (arith, pairs-count 256 (row_in f.assignments), length-map (members 16384 (pair_in (row_in f.assignments))) pair_of, ap length (assignments_same f x (row_in f.assignments) assignments_say), x.assignments.count);
        granted = omega (arith, grants-count (holders_in f.grants), length-map (members 262144 (grant_in (holders_in f.grants))) grant_of, ap length (holders_same f x (holders_in f.grants) grants_say), x.grants.count);
        lined = omega (arith, pairs-count 64 (row_in f.lines), length-map (members 4096 (pair_in (row_in f.lines))) pair_of, ap length (lines_same f x (row_in f.lines) lines_say), x.lines.count);
      }

  counted : Counted (model_of f)
  unfolding assignments grants lines_standing
  counted = record { assigned = refl; granted = refl; lined = refl }

  pub built_formed : Formed (model_of f)
  built_formed =
      record {
        users = λ u e. user_small f x u ((users_say u).0 e);
        roles = those-small (λ r. any (eqb r) f.roles);
        seniors = λ s j e. (roles_say s).1 (a_line (s, j) ((lines_say s j).0 e)).0;
        juniors = λ s. record { small = those-small (λ r. any (pair_test s r) f.lines); exist = λ j e. (roles_say j).1 (a_line (s, j) ((lines_say s j).0 e)).1 };
        assignees = λ u r e. (users_say u).1 (an_assignment (u, r) ((assignments_say u r).0 e)).0;
        assigned = λ u. record { small = those-small (λ r. any (pair_test u r) f.assignments); exist = λ r e. (roles_say r).1 (an_assignment (u, r) ((assignments_say u r).0 e)).1 };
        permissions = permissions_small;
        holders = λ p. record { small = those-small (λ r. any (grant_test (p / 256) (p % 256) r) f.grants); exist = λ r e. (roles_say r).1 (a_grant (r, p / 256, p % 256) ((holders_say p r).0 e)).0 };
        ssd = set_form f.ssd x.ssd;
        dsd = set_form f.dsd x.dsd;
        sessions = session_form;
        limits = limits;
        counted = counted;
      }
