-- How many members a table of sets of roles has in all: after a role is added to a set or taken from it, after a set is emptied, and after
-- a role is taken from every set. What a model keeps of how full its tables are moves by the same numbers. Assumes nothing.
use mathlib.Core.Bool.{Bool, true, false, not, ◌&&◌, and-true}
use mathlib.Core.Path.{◌≡◌, refl, ap, ◌∙◌}
use Prim.Native.Nat.{ℕ, zero, suc, ◌+◌, ◌-◌, ◌≤◌, ◌<◌}
use native.Mathlib.Omega.{arith}
use lib.Dec.{eqb}
use borrow.Author.Tests.{eqb-true}
use Rattle.roleset.specs.Bounded.{bit, tally, total}
use Rattle.roleset.specs.Roles.{has, with, without, none, count}
use Rattle.roleset.proofs.BoundedLaws.{tally-ext, total_mono, total-change}
use Rattle.roleset.proofs.Laws.{has-without, count-mono, count-with, count-without, count_none}
use Rattle.model.specs.Model.{put, standing}
use Rattle.model.specs.commands.Users.{holding}
use Rattle.model.proofs.Puts.{put_same, put_other}
use Rattle.sound.proofs.Members.{Within}

-- A table of smaller sets is no fuller.
pub no-fuller : (n : ℕ) (table table' : ℕ → ℕ) → ((k : ℕ) → k < n → Within (table k) (table' k)) → standing n table ≤ standing n table'
unfolding standing
no-fuller n table table' h = total_mono n (λ k. count (table k)) (λ k. count (table' k)) (λ k l. count-mono (table k) (table' k) (h k l))

-- ---- one set changed

-- What the set had is gone, and what it has now is there.
pub one-changed : (n : ℕ) (table : ℕ → ℕ) (i new : ℕ) → i < n → standing n (put table i new) + count (table i) ≡ standing n table + count new
unfolding standing
one-changed n table i new l = rw (put_same table i new) at (total-change n (λ k. count (put table i new k)) (λ k. count (table k)) i l (λ k lk d. ap count (put_other table i new k d)))

-- A role added to a set: one more,
pub one_more : (n : ℕ) (table : ℕ → ℕ) (i r : ℕ) → i < n → r < 64 → has (table i) r ≡ false → standing n (put table i (with (table i) r)) ≡ standing n table + 1
one_more n table i r li lr e = omega (arith, one-changed n table i (with (table i) r) li, count-with (table i) r lr e)

-- a role taken from a set: one less,
pub one_less : (n : ℕ) (table : ℕ → ℕ) (i r : ℕ) → i < n → r < 64 → has (table i) r ≡ true → standing n (put table i (without (table i) r)) ≡ standing n table - 1
one_less n table i r li lr e = omega (arith, one-changed n table i (without (table i) r) li, count-without (table i) r lr e)

-- and a set emptied: less what it had.
pub one-emptied : (n : ℕ) (table : ℕ → ℕ) (i : ℕ) → i < n → standing n (put table i none) ≡ standing n table - count (table i)
one-emptied n table i l = omega (arith, one-changed n table i none l, count_none)

-- ---- a role taken from every set

-- where it is in a set, that set has one less
stripped-one : (set r : ℕ) → r < 64 → (b : Bool) → has set r ≡ b → count (without set r) + bit b ≡ count set
unfolding count
stripped-one set r l true e = omega (arith, count-without set r l e)
stripped-one set r l false e = omega (arith, as_it_was)
  where
    kept : (k : ℕ) (b : Bool) → eqb k r ≡ b → (has set k && not b) ≡ has set k
    kept k true h = let gone : has set k ≡ false = ap (has set) (eqb-true k r h) ∙ e in rw gone
    kept k false h = and-true (has set k)

    as_it_was : count (without set r) ≡ count set
    as_it_was = tally-ext 64 (has (without set r)) (has set) (λ k lk. has-without set r k lk ∙ kept k (eqb k r) refl)

stripped-sum : (n : ℕ) (table : ℕ → ℕ) (r : ℕ) → r < 64 → standing n (λ k. without (table k) r) + holding n table r ≡ standing n table
unfolding standing total tally
stripped-sum zero table r l = refl
stripped-sum (suc n) table r l = omega (arith, stripped-sum n table r l, stripped-one (table n) r l (has (table n) r) refl)

-- Less by the sets that had it;
pub stripped : (n : ℕ) (table : ℕ → ℕ) (r : ℕ) → r < 64 → standing n (λ k. without (table k) r) ≡ standing n table - holding n table r
stripped n table r l = omega (arith, stripped-sum n table r l)

-- and where the role's own set goes then, less what that still had.
pub stripped-emptied : (n : ℕ) (table : ℕ → ℕ) (r : ℕ) → r < n → r < 64 → standing n (put (λ k. without (table k) r) r none) ≡ standing n table - (holding n table r + count (without (table r) r))
stripped-emptied n table r ln l = omega (arith, one-emptied n (λ k. without (table k) r) r ln, stripped n table r l)
