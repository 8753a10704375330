-- The numbers of a section's entries, in their order: those of the numbers that pass a test, and those of the members of a table's sets.
-- Assumes nothing.
use mathlib.Core.Bool.{Bool, true, false}
use mathlib.Core.List.{List, [], ◌∷◌, ◌++◌, append-nil, append_assoc, map}
use mathlib.Core.Path.{◌≡◌, refl, sym, ap, ap₂, ◌∙◌}
use Prim.Native.Nat.{ℕ, zero, suc, ◌+◌, ◌*◌, ◌≤◌, ◌<◌}
use native.Mathlib.Decide.{dec_lt}
use native.Mathlib.Numerals.{add-one}
use native.Mathlib.Omega.{arith}
use lib.ListN.{length, length-append}
use Rattle.std.proofs.lemmas.List.{map-append}
use Rattle.roleset.specs.Bounded.{only_if, members}
use Rattle.roleset.specs.Roles.{has, count}
use Rattle.roleset.proofs.Laws.{has-none}
use Rattle.roleset.proofs.MembersLaws.{members-start, members-ext, members-none, members-length, members-most}
use Rattle.policyform.specs.Encode.{pair_in}
use Rattle.policywrite.specs.Parts.{row, below}

pub below-none : (at : ℕ → List ℕ) → below at 0 ≡ []
unfolding below
below-none at = refl

pub below-more : (at : ℕ → List ℕ) (n : ℕ) → below at (n + 1) ≡ below at n ++ at n
unfolding below
below-more at n = rw (add-one n)

-- those that pass a test
pub below-members : (test : ℕ → Bool) (n : ℕ) → below (λ k. only_if (test k) k) n ≡ members n test
unfolding below members
below-members test zero = refl
below-members test (suc n) = ap (λ (l : List ℕ). l ++ only_if (test n) n) (below-members test n)

-- where none from k on passes the test, the members below n are those below k
pub members-skip : (k n : ℕ) (f : ℕ → Bool) → k ≤ n → ((j : ℕ) → k ≤ j → j < n → f j ≡ false) → members n f ≡ members k f
unfolding members
members-skip k zero f h none = let e : k ≡ 0 = omega arith in rw e
members-skip k (suc n) f h none = go (dec_lt k (suc n)) (members-skip k n f)
  where
    go : Dec (k < suc n) → (k ≤ n → ((j : ℕ) → k ≤ j → j < n → f j ≡ false) → members n f ≡ members k f) → members (suc n) f ≡ members k f
    go (yes p) ih = rw (none n (omega arith) (omega arith)) (append-nil (members n f) ∙ ih (omega arith) (λ j a b. none j a (omega arith)))
    go (no p) ih = let e : k ≡ suc n = omega arith in rw e

-- one number, or none
only-from : (a b : ℕ) (t : Bool) → only_if t (a + b) ≡ map (λ r. a + r) (only_if t b)
only-from a b true = refl
only-from a b false = refl

-- those below a + b are those below a and then those from a on
members-grid : (f : ℕ → Bool) (a b : ℕ) → members (a + b) f ≡ members a f ++ map (λ r. a + r) (members b (λ r. f (a + r)))
unfolding members
members-grid f a zero = let e : a + 0 ≡ a = omega arith in ap (λ (n : ℕ). members n f) e ∙ sym (append-nil (members a f))
members-grid f a (suc b) =
    let e : a + suc b ≡ suc (a + b) = omega arith in
    let low : List ℕ = members b (λ r. f (a + r)) in
    ap (λ (n : ℕ). members n f) e
    ∙ ap₂ (λ (x y : List ℕ). x ++ y) (members-grid f a b) (only-from a b (f (a + b)))
    ∙ append_assoc (members a f) (map (λ r. a + r) low) (map (λ r. a + r) (only_if (f (a + b)) b))
    ∙ ap (λ (x : List ℕ). members a f ++ x) (sym (map-append (λ r. a + r) low (only_if (f (a + b)) b)))

-- those of the members of the sets of a table
pub below-rows : (table : ℕ → ℕ) (n : ℕ) → below (row table) n ≡ members (64 * n) (pair_in table)
unfolding below
below-rows table zero = sym (members-start (pair_in table))
below-rows table (suc n) =
    let e : 64 * suc n ≡ 64 * n + 64 = omega arith in
    ap (λ (l : List ℕ). l ++ row table n) (below-rows table n)
    ∙ ap (λ (l : List ℕ). members (64 * n) (pair_in table) ++ map (λ r. 64 * n + r) l) (members-ext 64 (has (table n)) (λ r. pair_in table (64 * n + r)) (λ r l. ap₂ (λ (a b : ℕ). has (table a) b) (omega arith) (omega arith)))
    ∙ sym (members-grid (pair_in table) (64 * n) 64)
    ∙ ap (λ (k : ℕ). members k (pair_in table)) (sym e)

-- a place with no members has no entries
pub row-empty : (table : ℕ → ℕ) (k : ℕ) → table k ≡ 0 → row table k ≡ []
row-empty table k e = ap (λ (l : List ℕ). map (λ r. 64 * k + r) l) (ap (λ (s : ℕ). members 64 (has s)) e ∙ members-none 64 (has 0) (λ r l. has-none r))

-- there are as many members as are counted
pub many : (set : ℕ) → count set ≡ length (members 64 (has set))
unfolding count
many set = sym (members-length 64 (has set))

-- ---- what a loop has gone through, and what is ahead of it

pub ahead_more : (passed : List ℕ) {r : ℕ} {left rest whole : List ℕ} → left ≡ r ∷ rest → passed ++ left ≡ whole → (passed ++ (r ∷ [])) ++ rest ≡ whole
ahead_more passed {r} {rest = rest} e w = append_assoc passed (r ∷ []) rest ∙ ap (λ (l : List ℕ). passed ++ l) (sym e) ∙ w

pub ahead_none : (passed : List ℕ) {left whole : List ℕ} → left ≡ [] → passed ++ left ≡ whole → passed ≡ whole
ahead_none passed e w = sym (append-nil passed) ∙ ap (λ (l : List ℕ). passed ++ l) (sym e) ∙ w

pub ahead_few : (passed left : List ℕ) (set : ℕ) → passed ++ left ≡ members 64 (has set) → length passed ≤ 64
ahead_few passed left set w = omega (arith, length-append passed left, ap length w, members-most 64 (has set))
