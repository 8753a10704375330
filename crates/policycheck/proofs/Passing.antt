-- What the tests share: of all the elements of a list or all numbers, and of some number. Assumes nothing.
use mathlib.Core.Bool.{Bool, true, false, not}
use mathlib.Core.List.{List}
use mathlib.Core.Path.{◌≡◌, refl, sym, ap, subst, ◌∙◌}
use Prim.Native.Nat.{ℕ, ◌≤◌, ◌<◌, ◌^◌}
use native.Mathlib.Decide.{dec_lt}
use native.Mathlib.Omega.{arith}
use denote.Param.Members.{Mut}
use lib.Dec.{eqb}
use lib.ListN.{length, get_or, get_or-eq_default}
use borrow.Author.Tests.{eqb-true, eq-eqb, not-true, not-false}
use Rattle.std.proofs.Common.{Option}
use Rattle.std.specs.Bool.{MatchBool}
use Rattle.std.specs.Fn.{Called}
use Rattle.std.specs.Iterator.{ChecksAll, ChecksAny}
use Rattle.std.specs.List.{AllWithin, HoldsAt, range_with_len}
use Rattle.std.specs.declared.ops.Range.{Range}
use Rattle.std.proofs.iter.Yields.{nat_range_steps}
use Rattle.std.proofs.lemmas.Iterator.{YieldsList, YieldsList-from_range, cases_from_all, cases_from_any}
use Rattle.std.proofs.lemmas.List.FromFn.{length-range_with_len, get_or-range_with_len}
use Rattle.roleset.specs.Bounded.{some}
use Rattle.roleset.specs.Roles.{has, subset}
use Rattle.roleset.proofs.BoundedLaws.{clash, some-intro, some-none}
use Rattle.roleset.proofs.Laws.{has-none, subset-intro}
use Rattle.hierarchy.specs.Lines.{table_of}
use Rattle.model.specs.Model.{RoleSet, Session, absent_set, closed_session}
use Rattle.state.specs.Stores.{Table}
use Rattle.policycheck.proofs.Ranges.{no_user, no_assigned, ranged}
use Rattle.policycheck.specs.Tests.{Tells, Inside, Backed, SetFine, SessionFine}

-- a test that fails, of what does not hold
pub tells-no : {b : Bool} {P : Type 0} → b ≡ false → (P → ⊥) → Tells b P
tells-no {b} e h = record { holds = λ t. clash b t e; says = λ p. absurd (h p) }

-- what asks for more than a test that fails does not hold either
pub refuted : {b : Bool} {P Q : Type 0} → Tells b P → not b ≡ true → (Q → P) → Tells false Q
refuted {b} t e h = tells-no refl (λ q. clash b (t.says (h q)) (not-true b e))

pub passes : {b : Bool} {P : Type 0} → Tells b P → not b ≡ false → P
passes {b = b} t e = t.holds (not-false b e)

-- a place that fails, and one that passes
pub stopped : {P : ℕ → Type 0} {b : Bool} (k : ℕ) → (P k → b ≡ true) → b ≡ false → Tells false ((j : ℕ) → P j)
stopped {b = b} k says e = tells-no refl (λ p. clash b (says (p k)) e)

pub met : (f : ℕ → Bool) {n k : ℕ} {b : Bool} → k < n → b ≡ f k → b ≡ true → true ≡ some n f
met f {n} {k} h e taken = sym (some-intro n f k h (sym e ∙ taken))

-- a test of a table that was lent
pub of-table : {b : Bool} {n roles : ℕ} {table : ℕ → ℕ} {x : List ℕ} → Table n table x → Tells b ((k : ℕ) → Inside roles (table_of x k)) → Tells b ((k : ℕ) → Inside roles (table k))
of-table {b} {roles = roles} t h = subst (λ (f : ℕ → ℕ). Tells b ((k : ℕ) → Inside roles (f k))) t.each h

-- ---- all of a list, or of the numbers below n

-- where each call tells of its element, `all` tells of each place
pub told-all : {S A F : Type 0} {steps : S → Option A → S → Type 0} {v : A → ℕ} {g : Mut F (A × Unit {0}) Bool} {s : S} (u : S) {f : F} {r : Bool} {ys : List ℕ} (P : ℕ → Type 0) → ChecksAll steps g s f r u → YieldsList steps v s ys → ((x : A) (b : Bool) (q : F) → Called g f (x, tt) b q → (q ≡ f) × Tells b (P (v x))) → Tells r ((k : ℕ) → k < length ys → P (get_or ys k 0))
told-all {v = v} {s} u {f} {r} {ys} P ran road tells = go r (cases_from_all u f r P (λ x. P x → ⊥) ran road (λ x q h. let t = tells x true q h in (t.0, t.1.holds refl)) (λ x q h p. let t = tells x false q h in clash false (t.1.says p) refl))
  where
    go : (b : Bool) → MatchBool b (AllWithin P ys 0 (length ys)) ((k : ℕ) × (k < length ys) × HoldsAt (λ x. P x → ⊥) ys k) → Tells b ((k : ℕ) → k < length ys → P (get_or ys k 0))
    go true h = record { holds = λ e k l. h k 0 (omega arith) l; says = λ p. refl }
    go false (k, l, fails) = record { holds = λ e. clash false e refl; says = λ p. absurd (fails 0 (p k l)) }

-- the same of the numbers below n, where it holds of all others
pub told-numbers : {F : Type 0} {g : Mut F (ℕ × Unit {0}) Bool} (u : Range ℕ) {f : F} {r : Bool} (n : ℕ) (P : ℕ → Type 0) → ChecksAll nat_range_steps g (record { start = 0; end = n }) f r u → ((k : ℕ) (b : Bool) (q : F) → Called g f (k, tt) b q → (q ≡ f) × Tells b (P k)) → ((j : ℕ) → n ≤ j → P j) → Tells r ((j : ℕ) → P j)
told-numbers u {r = r} n P ran tells past = record { holds = λ e j. go e j (dec_lt j n); says = λ p. t.says (λ k l. p (get_or (range_with_len 0 n) k 0)) }
  where
    t : Tells r ((k : ℕ) → k < length (range_with_len 0 n) → P (get_or (range_with_len 0 n) k 0))
    t = told-all u P ran (YieldsList-from_range 0 n n refl (omega arith)) tells

    go : r ≡ true → (j : ℕ) → Dec (j < n) → P j
    go e j (yes l) = let here : get_or (range_with_len 0 n) j 0 ≡ j = omega (arith, get_or-range_with_len 0 n j 0 l) in subst P here (t.holds e j (omega (arith, length-range_with_len 0 n)))
    go e j (no l) = past j (omega arith)

-- where each call tests its number, `any` says whether some number passes
pub told-some : {F : Type 0} {g : Mut F (ℕ × Unit {0}) Bool} (u : Range ℕ) {f : F} {r : Bool} (n : ℕ) (test : ℕ → Bool) → ChecksAny nat_range_steps g (record { start = 0; end = n }) f r u → ((k : ℕ) (b : Bool) (q : F) → Called g f (k, tt) b q → (q ≡ f) × (b ≡ test k)) → r ≡ some n test
told-some u {f} {r} n test ran tells = go r (cases_from_any u f r (λ k. test k ≡ true) (λ k. test k ≡ false) ran (YieldsList-from_range 0 n n refl (omega arith)) (λ k q h. sym (tells k true q h).1) (λ k q h. let t = tells k false q h in (t.0, sym t.1)))
  where
    all : List ℕ
    all = range_with_len 0 n

    here : (k : ℕ) → k < n → get_or all k 0 ≡ k
    here k l = omega (arith, get_or-range_with_len 0 n k 0 l)

    go : (b : Bool) → MatchBool b ((k : ℕ) × (k < length all) × HoldsAt (λ j. test j ≡ true) all k) (AllWithin (λ j. test j ≡ false) all 0 (length all)) → b ≡ some n test
    go true (k, l, passes) = let small : k < n = omega (arith, length-range_with_len 0 n) in sym (some-intro n test k small (subst (λ (j : ℕ). test j ≡ true) (here k small) (passes 0)))
    go false none = sym (some-none n test (λ k l. subst (λ (j : ℕ). test j ≡ false) (here k l) (none k 0 (omega arith) (omega (arith, length-range_with_len 0 n)))))

-- ---- what is all zero is fine

pub backed-none : (there : Bool) → Backed there 0
backed-none there r e = clash (has 0 r) e (has-none r)

pub inside-none : (roles : ℕ) → Inside roles 0
inside-none roles = record { small = omega arith; each = λ r e. clash (has 0 r) e (has-none r) }

pub set-none : (roles : ℕ) → SetFine roles absent_set
set-none roles = record { absent = λ e. refl; small = omega arith; members = inside-none roles }

pub session-none : (users : ℕ → Bool) (roles : ℕ) → SessionFine users roles closed_session
session-none users roles = record { closed = λ e. refl; owned = λ e. clash false e refl; active = inside-none roles }

-- what is not there, and has none of the rest, is all zero
pub absent-fine : (roles : ℕ) (set : RoleSet) → set.there ≡ false → set.card ≡ 0 → Tells (eqb set.roles 0) (SetFine roles set)
absent-fine roles set p q = record { holds = λ e. rw (zero (eqb-true set.roles 0 e)) (set-none roles); says = λ fine. eq-eqb set.roles 0 (ap (λ (x : RoleSet). x.roles) (fine.absent p)) }
  where
    zero : set.roles ≡ 0 → set ≡ absent_set
    zero r =
        ap {B = RoleSet} (λ (b : Bool). record { there = b; card = set.card; roles = set.roles }) p
        ∙ ap {B = RoleSet} (λ (n : ℕ). record { there = false; card = n; roles = set.roles }) q
        ∙ ap {B = RoleSet} (λ (n : ℕ). record { there = false; card = 0; roles = n }) r

pub closed-fine : (users : ℕ → Bool) (roles : ℕ) (x : Session) → x.live ≡ false → x.owner ≡ 0 → Tells (eqb x.active 0) (SessionFine users roles x)
closed-fine users roles x p q = record { holds = λ e. rw (zero (eqb-true x.active 0 e)) (session-none users roles); says = λ fine. eq-eqb x.active 0 (ap (λ (s : Session). s.active) (fine.closed p)) }
  where
    zero : x.active ≡ 0 → x ≡ closed_session
    zero r =
        ap {B = Session} (λ (b : Bool). record { live = b; owner = x.owner; active = x.active }) p
        ∙ ap {B = Session} (λ (n : ℕ). record { live = false; owner = n; active = x.active }) q
        ∙ ap {B = Session} (λ (n : ℕ). record { live = false; owner = 0; active = n }) r

-- the sets of a table, each of which is a number of the state
pub told-table : (roles : ℕ) (table : List ℕ) {r : Bool} → ((k : ℕ) → get_or table k 0 < 2 ^ 64) → Tells r ((k : ℕ) → k < length table → (x : ℕ) → has (get_or table k 0) x ≡ true → has roles x ≡ true) → Tells r ((k : ℕ) → Inside roles (table_of table k))
told-table roles table {r} small t = record { holds = λ e k. go e k (dec_lt k (length table)); says = λ p. t.says (λ k l. (p k).each) }
  where
    go : r ≡ true → (k : ℕ) → Dec (k < length table) → Inside roles (table_of table k)
    go e k (yes l) = record { small = small k; each = t.holds e k l }
    go e k (no l) = rw (get_or-eq_default table 0 {n = k} (omega arith)) (inside-none roles)

-- with no role active nothing is beyond what the owner holds
pub nothing-beyond : (active held : ℕ) → ((r : ℕ) → has active r ≡ false) → subset active held ≡ true
nothing-beyond active held h = subset-intro active held (λ r l e. clash _ e (h r))

-- what the tests share with the check
pub ruleset passing = (absent-fine, closed-fine, no_user, no_assigned, ranged, nothing-beyond)
