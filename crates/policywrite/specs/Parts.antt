-- What is written: bytes, at a pen's place; the entries of a section, by their numbers; and the grants of one permission. Assumes nothing.
use Rattle.std.specs.Prelude.{Bool, ◌&&◌, List, [], ◌++◌, ◌≡◌, ℕ, zero, suc, ◌+◌, ◌*◌, ◌/◌, ◌%◌, ◌<◌, ◌^◌, eqb, length, map}
use Rattle.roleset.specs.Bounded.{members}
use Rattle.roleset.specs.Roles.{has}
use Rattle.text.specs.Places.{Wrote}
use Rattle.policywrite.specs.declared.Pen.{Pen}

-- The bytes are written into the same buffer, as long as the place past them is a number of 64 bits.
pub record Writes (before after : Pen) (bytes : List ℕ) : Type 0 where
  pub same : after.out.ghost_name ≡ before.out.ghost_name
  pub wrote : before.at + length bytes < 2 ^ 64 → Wrote before.out.now after.out.now before.at after.at bytes

-- the numbers of the members of the set at place k of a table, 64 to a place
abbrev pub row : (ℕ → ℕ) → ℕ → List ℕ
row table k = map (λ r. 64 * k + r) (members 64 (has (table k)))

-- what there is at each number below n, in their order
unfoldable pub below : (ℕ → List ℕ) → ℕ → List ℕ
below at zero = []
below at (suc n) = below at n ++ at n

-- grant k is of the permission p, to a role of the set
abbrev pub granted : ℕ → ℕ → ℕ → Bool
granted set p k = eqb (k % 4096) p && has set (k / 4096)
