-- Demand 2 leaves one reviewer, and shuts out those with made-up lists. Assumes nothing.
use mathlib.Core.Bool.{Bool, true, false, not}
use mathlib.Core.List.Memᴰ
use mathlib.Core.List.{List, [], ◌∷◌, Memᴰ}
use mathlib.Core.Logic.{◌⊎◌, inl, inr}
use mathlib.Core.Path.{◌≡◌, refl, sym, ap, subst}
use Prim.Native.Nat.{ℕ, ◌+◌, ◌*◌, ◌<◌, ◌≤◌}
use native.Mathlib.Omega.{arith}
use lib.Dec.{ltb}
use lib.ListN.{length}
use borrow.Author.Tests.{le-ltb, lt-ltb}
use Rattle.roleset.specs.Roles.{has}
use Rattle.roleset.proofs.BoundedLaws.{clash}
use Rattle.roleset.proofs.Laws.{has-none}
use Rattle.numbers.specs.declared.Role.{Role}
use Rattle.hierarchy.specs.Lines.{one}
use Rattle.model.specs.Model.{Model, empty}
use Rattle.model.specs.Sheet.{Refusal, ◌when◌, Told}
use Rattle.model.specs.Words.{permission}
use Rattle.model.specs.declared.Kind.TheVariants.{Static, Dynamic}
use Rattle.model.specs.declared.Question.{Question}
use Rattle.model.specs.declared.Question.TheVariants.{Check, AssignedUsers, AssignedRoles, AuthUsers, AuthRoles, RolePerms, UserPerms, SessionRoles, SessionPerms, RoleOps, UserOps, Sets, SetRoles, SetCount}
use Rattle.benchsheet.specs.Lines.{at_the_bench, r}
use Rattle.demands.specs.Demand2.{Applies, FirstToApply, Exactly, place}
use Rattle.demands.specs.Reachable.{Reachable, start}
use Rattle.demands.specs.Reviews.{Listing, Answered, Reviewing}
use Rattle.demands.proofs.Lists.{one_list}
use Rattle.misreadings.specs.ShutOut.{Reviewer, ReviewersShutOut}
use Rattle.misreadings.proofs.Bench.{bench}
use Rattle.misreadings.proofs.ShutOut.{exactly-one, checked-one, bench-reachable, none-applies}

-- ---- one reviewer

listing-one : {m : Model} {room : ℕ} {beyond missing : Bool} {among : ℕ → Type 0} {t v : Told} → Listing m room beyond missing among t → Listing m room beyond missing among v → t ≡ v
listing-one {m} {room} {beyond} {missing} {t = t} {v = v} x y =
    let same = one_list x.whole y.whole x.ascending y.ascending (λ n h. (y.members n).1 ((x.members n).0 h)) (λ n h. (x.members n).1 ((y.members n).0 h)) in
    exactly-one m _ y.whole m t v (subst (λ (l : List ℕ). Exactly m (1 when beyond ∷ 2 when missing ∷ 15 when ltb room (length l) ∷ []) l m t) same x.tells) y.tells

answered-one : (m : Model) (room : ℕ) (q : Question) (t v : Told) → Answered m room q t → Answered m room q v → t ≡ v
answered-one m room (Check s op obj) t v x y = checked-one m s.number op obj t v x y
answered-one m room (AssignedUsers r) t v x y = listing-one x y
answered-one m room (AssignedRoles u) t v x y = listing-one x y
answered-one m room (AuthUsers r) t v x y = listing-one x y
answered-one m room (AuthRoles u) t v x y = listing-one x y
answered-one m room (RolePerms r) t v x y = listing-one x y
answered-one m room (UserPerms u) t v x y = listing-one x y
answered-one m room (SessionRoles s) t v x y = listing-one x y
answered-one m room (SessionPerms s) t v x y = listing-one x y
answered-one m room (RoleOps r obj) t v x y = listing-one x y
answered-one m room (UserOps u obj) t v x y = listing-one x y
answered-one m room (Sets Static) t v x y = listing-one x y
answered-one m room (Sets Dynamic) t v x y = listing-one x y
answered-one m room (SetRoles Static name) t v x y = listing-one x y
answered-one m room (SetRoles Dynamic name) t v x y = listing-one x y
answered-one m room (SetCount Static name) t v x y = listing-one x y
answered-one m room (SetCount Dynamic name) t v x y = listing-one x y

one-reviewer : (reviewer other : Reviewer) → Reviewing reviewer → Reviewing other → (m : Model) → Reachable m → (room : ℕ) (q : Question) → reviewer m room q ≡ other m room q
one-reviewer reviewer other f g m p room q = answered-one m room q (reviewer m room q) (other m room q) (f m p room q) (g m p room q)

-- ---- a list that is given

-- with this room the question is done, and all that are asked for are listed
record Given (told : ℕ → Told) (among : ℕ → Type 0) : Type 0 where
  room : ℕ
  done : (told room).answer ≡ 0
  lists : (k : ℕ) → among k → Memᴰ k (told room).results

-- A review that is not refused with 1 or 2 is done, given room for its whole list.
given : {m : Model} {beyond missing : Bool} {among : ℕ → Type 0} (told : ℕ → Told) → ((room : ℕ) → Listing m room beyond missing among (told room)) → beyond ≡ false → missing ≡ false → Given told among
given {m} {beyond} {missing} told f p q =
    let asked = f 0 in
    let x = f (length asked.whole) in
    let same = one_list x.whole asked.whole x.ascending asked.ascending (λ n h. (asked.members n).1 ((x.members n).0 h)) (λ n h. (x.members n).1 ((asked.members n).0 h)) in
    let fits = le-ltb (length asked.whole) (length x.whole) (omega (arith, ap length same)) in
    let done = x.tells.done.1 (none-applies _ (p, (q, (fits, tt)))) in
    record { room = length asked.whole; done = done; lists = λ k a. rw (x.tells.gives done) ((x.members k).1 a) }

-- a list in which something stands is not empty, and one in which nothing stands is
some-length : {k : ℕ} {l : List ℕ} → Memᴰ k l → 0 < length l
some-length (Memᴰ.head e) = omega arith
some-length (Memᴰ.tail h) = omega arith

none-length : (l : List ℕ) → ((k : ℕ) → Memᴰ k l → ⊥) → length l ≡ 0
none-length [] f = refl
none-length (a ∷ l) f = absurd (f a (Memᴰ.head refl))

-- ---- the reviewers that are shut out

-- The question `ssd-sets` gives the empty list on the empty policy and lists set 0 at the bench.
made-up-length : (reviewer : Reviewer) → Reviewing reviewer → (made : ℕ → Question → ℕ) → ((m : Model) (room : ℕ) (q : Question) → (reviewer m room q).answer ≡ 0 → length (reviewer m room q).results ≡ made room q) → ⊥
unfolding empty
made-up-length reviewer f made h =
    let y = given (λ room. reviewer at_the_bench room (Sets Static)) (λ room. f at_the_bench bench-reachable room (Sets Static)) refl refl in
    let x = f empty start y.room (Sets Static) in
    let nobody = none-length x.whole (λ k a. clash false ((x.members k).0 a) refl) in
    let done = x.tells.done.1 (none-applies _ (refl, (refl, (le-ltb y.room (length x.whole) (omega arith), tt)))) in
    let short = h empty y.room (Sets Static) done in
    let long = h at_the_bench y.room (Sets Static) y.done in
    omega (arith, ap length (x.tells.gives done), some-length (y.lists 0 bench.separated))

-- where 15 alone of the three applies, it is the first
fifteen-first : (c : Bool) → c ≡ true → FirstToApply (1 when false ∷ 2 when false ∷ 15 when c ∷ []) 15
fifteen-first c e = record { applies = Memᴰ.tail (Memᴰ.tail (Memᴰ.head (λ i. record { number = 15; holds = sym e i }))); first = only }
  where
    only : (k : ℕ) → Applies (1 when false ∷ 2 when false ∷ 15 when c ∷ []) k → 15 ≤ place k
    only k (Memᴰ.head p) = clash true refl (ap (λ (x : Refusal). x.holds) p)
    only k (Memᴰ.tail (Memᴰ.head p)) = clash true refl (ap (λ (x : Refusal). x.holds) p)
    only k (Memᴰ.tail (Memᴰ.tail (Memᴰ.head p))) = let z : k ≡ 15 = ap (λ (x : Refusal). x.number) p in rw z (omega arith)
    only k (Memᴰ.tail (Memᴰ.tail (Memᴰ.tail p))) = absurd (Memᴰ.not-nil p)

cut-to-room : (reviewer : Reviewer) → Reviewing reviewer → ((m : Model) (room : ℕ) (q : Question) → (reviewer m room q).answer ≡ 15 → ⊥) → ⊥
cut-to-room reviewer f h =
    let x = f at_the_bench bench-reachable 0 (Sets Static) in
    let long = lt-ltb 0 (length x.whole) (some-length ((x.members 0).1 bench.separated)) in
    h at_the_bench 0 (Sets Static) ((x.tells.refused 15 (λ e. omega arith)).1 (fifteen-first _ long))

-- At the bench role 2 inherits role 0, which holds operation 4 on object 30; role 2 itself does not.
direct-grants : (reviewer : Reviewer) → Reviewing reviewer → ((m : Model) (room : ℕ) (r : Role) (obj op : ℕ) → Memᴰ op (reviewer m room (RoleOps r obj)).results → has (m.holders (op * 256 + obj)) r.number ≡ true) → ⊥
direct-grants reviewer f h =
    let y = given (λ room. reviewer at_the_bench room (RoleOps (r 2) 30)) (λ room. f at_the_bench bench-reachable room (RoleOps (r 2) 30)) refl (ap not bench.senior) in
    let listed = y.lists 4 (record { role = 0; chosen = inr (one bench.lower); holds = bench.holds }) in
    clash (has (at_the_bench.holders (permission 4 30)) 2) (h at_the_bench y.room (r 2) 30 4 listed) bench.indirect

-- On the empty policy no role exists, so that 2 applies; and object 299 is 1 whatever the role.
missing-role : (reviewer : Reviewer) → Reviewing reviewer → ((m : Model) (room : ℕ) (r : Role) → has m.roles r.number ≡ false → (reviewer m room (AssignedUsers r)).answer ≡ 0) → ⊥
unfolding empty
missing-role reviewer f h = (f empty start 0 (AssignedUsers (r 0))).tells.done.0 (h empty 0 (r 0) (has-none 0)) 2 (Memᴰ.tail (Memᴰ.head (λ i. record { number = 2; holds = sym (ap not (has-none 0)) i })))

-- 1 is the first wherever it applies
one-first : (b c : Bool) → FirstToApply (1 when true ∷ 2 when b ∷ 15 when c ∷ []) 1
one-first b c = record { applies = Memᴰ.head refl; first = least }
  where
    least : (k : ℕ) → Applies (1 when true ∷ 2 when b ∷ 15 when c ∷ []) k → 1 ≤ place k
    least k (Memᴰ.head p) = let z : k ≡ 1 = ap (λ (x : Refusal). x.number) p in rw z (omega arith)
    least k (Memᴰ.tail (Memᴰ.head p)) = let z : k ≡ 2 = ap (λ (x : Refusal). x.number) p in rw z (omega arith)
    least k (Memᴰ.tail (Memᴰ.tail (Memᴰ.head p))) = let z : k ≡ 15 = ap (λ (x : Refusal). x.number) p in rw z (omega arith)
    least k (Memᴰ.tail (Memᴰ.tail (Memᴰ.tail p))) = absurd (Memᴰ.not-nil p)

object-299 : (reviewer : Reviewer) → Reviewing reviewer → ((m : Model) (room : ℕ) (r : Role) → (reviewer m room (RoleOps r 299)).answer ≡ 1 → ⊥) → ⊥
object-299 reviewer f h = h empty 0 (r 0) (((f empty start 0 (RoleOps (r 0) 299)).tells.refused 1 (λ e. omega arith)).1 (one-first _ _))

-- demand 2 leaves one reviewer; those with made-up lists are shut out
pub reviewers-shut-out : ReviewersShutOut
reviewers-shut-out = record { one_reviewer = one-reviewer; made_up_length = made-up-length; cut_to_room = cut-to-room; direct_grants = direct-grants; missing_role = missing-role; object299 = object-299 }
