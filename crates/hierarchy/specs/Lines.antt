-- Direct lines, what a role inherits through them, and chains: statements, as the paper words them.
-- `lines s` is the set of the roles directly below s. Assumes nothing.
use Rattle.std.specs.Prelude.{Bool, true, List, ◌⊎◌, ◌≡◌, ℕ, suc, ◌<◌, get_or}
use Rattle.roleset.specs.Roles.{has}

-- the lines that an array of junior sets holds: bit j of place s is the line (s, j)
abbrev pub table_of : List ℕ → ℕ → ℕ
table_of l k = get_or l k 0

-- "Direct line: a recorded pair (senior, junior)."
abbrev pub line : (ℕ → ℕ) → ℕ → ℕ → Bool
line lines s j = has (lines s) j

-- "Inherits: a role inherits another through a chain of direct lines, one or more, from senior to junior."
pub data Inherits (lines : ℕ → ℕ) : ℕ → ℕ → Type 0 where
  one : {s j : ℕ} → line lines s j ≡ true → Inherits lines s j
  more : {s k j : ℕ} → line lines s k ≡ true → Inherits lines k j → Inherits lines s j

-- a chain of n roles starts at s: s alone, or a line from s to a role at which a chain of one role less starts
pub data Chain (lines : ℕ → ℕ) : ℕ → ℕ → Type 0 where
  alone : {s : ℕ} → Chain lines 1 s
  down : {n s j : ℕ} → line lines s j ≡ true → Chain lines n j → Chain lines (suc n) s

-- no role inherits itself
pub record Acyclic (lines : ℕ → ℕ) : Type 0 where
  pub never : (r : ℕ) → Inherits lines r r → ⊥

-- "Roles 0 to 63": every line joins two of them
pub record Small (lines : ℕ → ℕ) : Type 0 where
  pub within : (s j : ℕ) → line lines s j ≡ true → (s < 64) × (j < 64)

-- a is b or inherits it
abbrev pub AtOrAbove : (ℕ → ℕ) → ℕ → ℕ → Type 0
AtOrAbove lines a b = (a ≡ b) ⊎ Inherits lines a b

-- some role of the set `from` is r or inherits r
pub record Under (lines : ℕ → ℕ) (from r : ℕ) : Type 0 where
  pub role : ℕ
  pub small : role < 64
  pub member : has from role ≡ true
  pub down : AtOrAbove lines role r
