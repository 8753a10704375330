-- How many pairs and grants there are, counted by entry number as the file does and table by table as the limits do. Assumes nothing.
use mathlib.Core.Bool.{Bool}
use mathlib.Core.Path.{◌≡◌, refl, sym, ap, ap₂, ◌∙◌}
use Prim.Native.Nat.{ℕ, zero, suc, ◌+◌, ◌*◌}
use native.Mathlib.Nat.{mul-suc}
use native.Mathlib.Omega.{arith}
use lib.ListN.{length}
use Rattle.roleset.specs.Bounded.{bit, tally, total, members}
use Rattle.roleset.specs.Roles.{has, count}
use Rattle.roleset.proofs.BoundedLaws.{tally-ext, total_ext}
use Rattle.roleset.proofs.MembersLaws.{members-length}
use Rattle.model.specs.Model.{standing}
use Rattle.policyform.specs.Encode.{pair_in, grant_in}

tally-add : (a b : ℕ) (f : ℕ → Bool) → tally (a + b) f ≡ tally a f + tally b (λ j. f (a + j))
unfolding tally
tally-add a zero f = let e : a + 0 ≡ a = omega arith in ap (λ (n : ℕ). tally n f) e ∙ omega arith
tally-add a (suc b) f = let e : a + suc b ≡ suc (a + b) = omega arith in ap (λ (n : ℕ). tally n f) e ∙ omega (arith, tally-add a b f)

-- row by row
grid-tally : (w n : ℕ) (f : ℕ → Bool) → tally (w * n) f ≡ total n (λ i. tally w (λ j. f (w * i + j)))
unfolding tally total
grid-tally w zero f = let e : w * 0 ≡ 0 = omega arith in ap (λ (n : ℕ). tally n f) e
grid-tally w (suc n) f = ap (λ (k : ℕ). tally k f) (mul-suc w n) ∙ tally-add (w * n) w f ∙ omega (arith, grid-tally w n f)

-- row by row or column by column
total-bits : (m : ℕ) (h : ℕ → Bool) (g : ℕ → ℕ) → total m (λ p. bit (h p) + g p) ≡ tally m h + total m g
unfolding tally total
total-bits zero h g = refl
total-bits (suc m) h g = omega (arith, total-bits m h g)

total-none : (m : ℕ) → total m (λ p. 0) ≡ 0
unfolding total
total-none zero = refl
total-none (suc m) = omega (arith, total-none m)

turn : (n m : ℕ) (g : ℕ → ℕ → Bool) → total n (λ r. tally m (λ p. g p r)) ≡ total m (λ p. tally n (g p))
unfolding tally total
turn zero m g = sym (total-none m)
turn (suc n) m g = ap (λ (k : ℕ). tally m (λ p. g p n) + k) (turn n m g) ∙ sym (total-bits m (λ p. g p n) (λ p. tally n (g p)))

pub pairs-count : (n : ℕ) (table : ℕ → ℕ) → length (members (64 * n) (pair_in table)) ≡ standing n table
unfolding standing count
pairs-count n table =
    members-length (64 * n) (pair_in table)
    ∙ grid-tally 64 n (pair_in table)
    ∙ total_ext n (λ i. tally 64 (λ j. pair_in table (64 * i + j))) (λ i. count (table i)) (λ i h. tally-ext 64 (λ j. pair_in table (64 * i + j)) (has (table i)) (λ j l. ap₂ (λ (a b : ℕ). has (table a) b) (omega arith) (omega arith)))

pub grants-count : (holders : ℕ → ℕ) → length (members 262144 (grant_in holders)) ≡ standing 4096 holders
unfolding standing count
grants-count holders =
    members-length 262144 (grant_in holders)
    ∙ grid-tally 4096 64 (grant_in holders)
    ∙ total_ext 64 (λ r. tally 4096 (λ p. grant_in holders (4096 * r + p))) (λ r. tally 4096 (λ p. has (holders p) r)) (λ r h. tally-ext 4096 (λ p. grant_in holders (4096 * r + p)) (λ p. has (holders p) r) (λ p l. ap₂ (λ (a b : ℕ). has (holders a) b) (omega arith) (omega arith)))
    ∙ turn 64 4096 (λ p r. has (holders p) r)
