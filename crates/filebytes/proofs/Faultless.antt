-- Sections without any of the paper's faults are of the form. Assumes nothing.
use mathlib.Core.Bool.{Bool, true, false}
use mathlib.Core.List.Memᴰ
use mathlib.Core.List.{List, [], ◌∷◌, ◌++◌, Memᴰ}
use mathlib.Core.Logic.{◌⊎◌, inl, inr}
use mathlib.Core.Path.{◌≡◌, refl, ap, ◌∙◌}
use Prim.Native.Nat.{ℕ, ◌+◌, ◌<◌}
use native.Mathlib.Decide.{dec_lt, ℕ_discrete}
use native.Mathlib.Omega.{arith}
use lib.Dec.{eqb}
use lib.ListN.{length}
use borrow.Author.Tests.{eqb-true, eq-eqb}
use Rattle.roleset.proofs.BoundedLaws.{clash}
use Rattle.filebytes.specs.Sections.{SetEntry, Sections, Ascending, Good, Listed, pair_before, grant_before, RoleList, FineSet, FineSession, OfTheForm, Sixteen}
use Rattle.filebytes.specs.Faults.{Disordered, ListFault, SetFault, Fault, too_long, not_ascending, not_listed, name_beyond, in_members, number_beyond, owner_unlisted, in_active}
use Rattle.filebytes.specs.Faults as faults
use Rattle.filebytes.proofs.Lists.{every-intro, every-elim, every-weaker, any, any-in, in-any}

-- ---- what can be decided

dec-and : {P Q : Type 0} → Dec P → Dec Q → Dec (P × Q)
dec-and (yes p) (yes q) = yes (p, q)
dec-and (yes p) (no q) = no (λ x. q x.1)
dec-and (no p) d = no (λ x. p x.0)

dec-or : {P Q : Type 0} → Dec P → Dec Q → Dec (P ⊎ Q)
dec-or (yes p) d = yes (inl p)
dec-or (no p) (yes q) = yes (inr q)
dec-or {P} {Q} (no p) (no q) = no neither
  where
    neither : P ⊎ Q → ⊥
    neither (inl x) = p x
    neither (inr x) = q x

-- what does not fail holds, where it can be decided
holds : {P : Type 0} → Dec P → ((P → ⊥) → ⊥) → P
holds (yes p) h = p
holds (no p) h = absurd (h p)

dec-pair : (p q : ℕ × ℕ) → Dec (pair_before p q)
dec-pair p q = dec-or (dec_lt p.0 q.0) (dec-and (ℕ_discrete p.0 q.0) (dec_lt p.1 q.1))

dec-grant : (p q : ℕ × ℕ × ℕ) → Dec (grant_before p q)
dec-grant p q = dec-or (dec_lt p.0 q.0) (dec-and (ℕ_discrete p.0 q.0) (dec-pair (p.1, p.2) (q.1, q.2)))

dec-listed : (k : ℕ) (l : List ℕ) → Dec (Listed k l)
dec-listed k l = go (any (eqb k) l) refl
  where
    go : (b : Bool) → any (eqb k) l ≡ b → Dec (Listed k l)
    go true e = yes (let q = any-in (eqb k) l e in Memᴰ.cast (eqb-true k q.0 q.2) q.1)
    go false e = no (λ m. clash (any (eqb k) l) (in-any (eqb k) l k m (eq-eqb k k refl)) e)

-- ---- order

less-on : (a b c : ℕ) → a < b → b < c → a < c
less-on a b c p q = omega arith

pair-on : (a b c : ℕ × ℕ) → pair_before a b → pair_before b c → pair_before a c
pair-on a b c (inl p) (inl q) = inl (omega arith)
pair-on a b c (inl p) (inr q) = inl (omega (arith, q.0))
pair-on a b c (inr p) (inl q) = inl (omega (arith, p.0))
pair-on a b c (inr p) (inr q) = inr (p.0 ∙ q.0, omega (arith, p.1, q.1))

grant-on : (a b c : ℕ × ℕ × ℕ) → grant_before a b → grant_before b c → grant_before a c
grant-on a b c (inl p) (inl q) = inl (omega arith)
grant-on a b c (inl p) (inr q) = inl (omega (arith, q.0))
grant-on a b c (inr p) (inl q) = inl (omega (arith, p.0))
grant-on a b c (inr p) (inr q) = inr (p.0 ∙ q.0, pair-on (a.1, a.2) (b.1, b.2) (c.1, c.2) p.1 q.1)

module _ {A : Type 0} (Before : A → A → Type 0) (dec : (a b : A) → Dec (Before a b)) (on : (a b c : A) → Before a b → Before b c → Before a c) where
  -- Where each entry comes before the next one it comes before all that follow.
  next_ascending : (l : List A) → ((front : List A) (a b : A) (rest : List A) → l ≡ front ++ (a ∷ b ∷ rest) → Before a b) → Ascending Before l
  next_ascending [] h = tt
  next_ascending (a ∷ []) h = (tt, tt)
  next_ascending (a ∷ b ∷ rest) h =
      let later = next_ascending (b ∷ rest) (λ front x y r e. h (a ∷ front) x y r (ap (λ (l : List A). a ∷ l) e)) in
      let here = h [] a b rest refl in
      ((here, every-weaker (Before b) (Before a) (λ c. on a b c here) rest later.0), later)

  good_unless : (limit : ℕ) (Fine : A → Type 0) (l : List A) → (limit < length l → ⊥) → ((a : A) → Memᴰ a l → Fine a) → (Disordered Before l → ⊥) → Good limit Fine Before l
  good_unless limit Fine l few fine ordered =
      record {
        count = omega (arith, holds (dec_lt (length l) (limit + 1)) (λ h. few (omega arith)));
        each = every-intro Fine l fine;
        order = next_ascending l (λ front a b rest e. holds (dec a b) (λ h. ordered (record { front = front; one = a; next = b; rest = rest; stand = e; wrong = h })));
      }

-- ---- section by section

module _ (f : Sections) (six : Sixteen f) (none : Fault f → ⊥) where
  a_list : (l : List ℕ) → (ListFault f l → ⊥) → RoleList f l
  a_list l h = good_unless ◌<◌ dec_lt less-on 64 (λ r. Listed r f.roles) l (λ x. h (too_long x)) (λ r i. holds (dec-listed r f.roles) (λ x. h (not_listed r i x))) (λ d. h (not_ascending d))

  below : (n k : ℕ) → (n < k → ⊥) → k < n + 1
  below n k h = holds (dec_lt k (n + 1)) (λ x. h (omega arith))

  sets_good : (l : List SetEntry) → (16 < length l → ⊥) → (Disordered (λ a b. a.name < b.name) l → ⊥) → ((e : SetEntry) → Memᴰ e l → SetFault f e → ⊥) → ((e : SetEntry) → Memᴰ e l → e.cardinality < 65536) → Good 16 (FineSet f) (λ a b. a.name < b.name) l
  sets_good l few ordered h small = good_unless (λ a b. a.name < b.name) (λ a b. dec_lt a.name b.name) (λ a b c. less-on a.name b.name c.name) 16 (FineSet f) l few (λ e i. record { name = below 15 e.name (λ x. h e i (name_beyond x)); cardinality = small e i; members = a_list e.members (λ x. h e i (in_members x)) }) ordered

  pub faultless_form : OfTheForm f
  faultless_form =
      record {
        users = good_unless ◌<◌ dec_lt less-on 256 (λ u. u < 256) f.users (λ x. none (faults.many_users x)) (λ u i. below 255 u (λ x. none (faults.user_beyond u i x))) (λ d. none (faults.users_order d));
        roles = good_unless ◌<◌ dec_lt less-on 64 (λ r. r < 64) f.roles (λ x. none (faults.many_roles x)) (λ r i. below 63 r (λ x. none (faults.role_beyond r i x))) (λ d. none (faults.roles_order d));
        lines = good_unless pair_before dec-pair pair-on 512 _ f.lines (λ x. none (faults.many_lines x)) (λ l i. (holds (dec-listed l.0 f.roles) (λ x. none (faults.senior_unlisted l i x)), holds (dec-listed l.1 f.roles) (λ x. none (faults.junior_unlisted l i x)))) (λ d. none (faults.lines_order d));
        assignments = good_unless pair_before dec-pair pair-on 2048 _ f.assignments (λ x. none (faults.many_assignments x)) (λ a i. (holds (dec-listed a.0 f.users) (λ x. none (faults.user_unlisted a i x)), holds (dec-listed a.1 f.roles) (λ x. none (faults.role_unlisted a i x)))) (λ d. none (faults.assignments_order d));
        grants = good_unless grant_before dec-grant grant-on 2048 _ f.grants (λ x. none (faults.many_grants x)) (λ g i. (holds (dec-listed g.0 f.roles) (λ x. none (faults.holder_unlisted g i x)), below 15 g.1 (λ x. none (faults.operation_beyond g i x)), below 255 g.2 (λ x. none (faults.object_beyond g i x)))) (λ d. none (faults.grants_order d));
        ssd = sets_good f.ssd (λ x. none (faults.many_ssd x)) (λ d. none (faults.ssd_order d)) (λ e i x. none (faults.in_ssd e i x)) (λ e i. (every-elim _ f.ssd six.ssd.1 e i).1);
        dsd = sets_good f.dsd (λ x. none (faults.many_dsd x)) (λ d. none (faults.dsd_order d)) (λ e i x. none (faults.in_dsd e i x)) (λ e i. (every-elim _ f.dsd six.dsd.1 e i).1);
        sessions = good_unless (λ a b. a.number < b.number) (λ a b. dec_lt a.number b.number) (λ a b c. less-on a.number b.number c.number) 64 (FineSession f) f.sessions (λ x. none (faults.many_sessions x)) (λ e i. record { number = below 63 e.number (λ x. none (faults.in_sessions e i (number_beyond x))); owner = holds (dec-listed e.owner f.users) (λ x. none (faults.in_sessions e i (owner_unlisted x))); active = a_list e.active (λ x. none (faults.in_sessions e i (in_active x))) }) (λ d. none (faults.sessions_order d));
      }
