-- The places of a table that have one of some roles, as each review names them. Assumes nothing.
use mathlib.Core.Bool.{Bool, true, false, not, ◌&&◌}
use mathlib.Core.List.{List}
use mathlib.Core.Path.{◌≡◌, refl, sym, ap, ap₂, ◌∙◌}
use Prim.Native.Nat.{ℕ, ◌<◌}
use lib.Dec.{leb}
use lib.ListN.{length}
use borrow.Author.Tests.{eq-eqb, eqb-true, leb-false}
use Rattle.roleset.specs.Bounded.{bit, some, members}
use Rattle.roleset.specs.Roles.{has, pack, those, none, with, common, is_empty}
use Rattle.roleset.proofs.BoundedLaws.{and_left, and_right, and_both, not_yes, yes-not, agree}
use Rattle.roleset.proofs.Laws.{has-common, has-with, has-none, those-ext, is_empty_false}
use Rattle.roleset.proofs.MembersLaws.{members-ext}
use Rattle.hierarchy.proofs.WalkLaws.{not-empty}
use Rattle.state.specs.Stores.{Table}
use Rattle.reviews.specs.Reviewing.{meets, touched, meeting}

-- the places that have one of the roles are the members that the test names
pub meeting-members : (roles : ℕ) (table : List ℕ) (n : ℕ) (f : ℕ → Bool) → length table ≡ n → ((k : ℕ) → k < n → f k ≡ touched roles table k) → members n f ≡ meeting roles table
unfolding meeting
meeting-members roles table n f h e = members-ext n f (touched roles table) e ∙ ap (λ (x : ℕ). members x (touched roles table)) (sym h)

-- which set comes first does not matter
pub meets-turned : (a b : ℕ) → meets a b ≡ meets b a
unfolding common
meets-turned a b = ap (λ (s : ℕ). not (is_empty s)) (those-ext (λ k. has a k && has b k) (λ k. has b k && has a k) (λ k l. turn (has a k) (has b k)))
  where
    turn : (x y : Bool) → (x && y) ≡ (y && x)
    turn true true = refl
    turn true false = refl
    turn false true = refl
    turn false false = refl

-- a role is in a set where the role alone meets the set
pub has-meets : (s r : ℕ) → r < 64 → has s r ≡ meets (with none r) s
has-meets s r l = agree (has s r) (meets (with none r) s) to back
  where
    shared : ℕ
    shared = common (with none r) s

    to : has s r ≡ true → not (is_empty shared) ≡ true
    to h = not_yes (is_empty shared) (not-empty shared r l (has-common (with none r) s r l ∙ and_both (has (with none r) r) (has s r) (has-with none r r l ∙ rw (has-none r) (eq-eqb r r refl)) h))

    back : not (is_empty shared) ≡ true → has s r ≡ true
    back h =
        let m = is_empty_false shared (yes-not (is_empty shared) h) in
        let p = sym (has-common (with none r) s m.0 m.1) ∙ m.2 in
        let q : m.0 ≡ r = eqb-true m.0 r (rw (has-none m.0) at (sym (has-with none r m.0 m.1) ∙ and_left (has (with none r) m.0) (has s m.0) p)) in
        rw (← q) (and_right (has (with none r) m.0) (has s m.0) p)

-- role 0, or no role
pub meets-bit : (b : Bool) → b ≡ meets 1 (bit b)
unfolding common is_empty those pack some has
meets-bit true = refl
meets-bit false = refl

-- ---- the lists of the tables of the state, where the code has found the roles asked for

-- the places whose set shares a role with those asked for, as with the permissions that roles hold
pub shared-listed : (n : ℕ) (f : ℕ → ℕ) (roles asked : ℕ) (table : List ℕ) → Table n f table → roles ≡ asked → meeting roles table ≡ members n (λ k. meets asked (f k))
shared-listed n f roles asked table t e = sym (meeting-members roles table n (λ k. meets asked (f k)) t.long (λ k l. ap₂ (λ (w : ℕ) (g : ℕ → ℕ). meets w (g k)) (sym e) (sym t.each)))

-- the same, with the place's set named first, as with the users that are authorised
pub turned-listed : (n : ℕ) (f : ℕ → ℕ) (roles asked : ℕ) (table : List ℕ) → Table n f table → roles ≡ asked → meeting roles table ≡ members n (λ k. meets (f k) asked)
turned-listed n f roles asked table t e = shared-listed n f roles asked table t e ∙ members-ext n (λ k. meets asked (f k)) (λ k. meets (f k) asked) (λ k l. meets-turned asked (f k))

-- the places whose set has the role
pub having-listed : (n : ℕ) (f : ℕ → ℕ) (roles r : ℕ) (table : List ℕ) → Table n f table → roles ≡ with none r → leb 64 r ≡ false → meeting roles table ≡ members n (λ k. has (f k) r)
having-listed n f roles r table t e h = shared-listed n f roles (with none r) table t e ∙ members-ext n (λ k. meets (with none r) (f k)) (λ k. has (f k) r) (λ k l. sym (has-meets (f k) r (leb-false 64 r h)))

-- the operations that the roles hold
pub operations-listed : (n : ℕ) (f : ℕ → ℕ) (roles asked : ℕ) → roles ≡ asked → members n (λ k. meets roles (f k)) ≡ members n (λ k. meets asked (f k))
operations-listed n f roles asked e = ap (λ (w : ℕ). members n (λ k. meets w (f k))) e
