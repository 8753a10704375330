-- The walk over junior sets, "the count of roles still allowed in the chain falling at each call". Assumes nothing.
use Rattle.std.specs.Prelude.{Bool, true, false, not, ◌&&◌, ◌↔◌, ◌≡◌, ℕ, zero, suc, ◌<◌}
use Rattle.roleset.specs.Bounded.{some}
use Rattle.roleset.specs.Roles.{has, those, none, with, union, is_empty}
use Rattle.hierarchy.specs.Lines.{line, Inherits, Small, AtOrAbove, Under}

-- the roles directly below some role of the front
unfoldable pub juniors_of : (ℕ → ℕ) → ℕ → ℕ
juniors_of lines front = those (λ j. some 64 (λ s. has front s && line lines s j))

-- The roles of the front and all that they inherit, in chains of as many roles as are allowed.
unfoldable pub walk : (ℕ → ℕ) → ℕ → ℕ → ℕ
walk lines zero front = none
walk lines (suc allowed) front = elim (is_empty front) [ true ↦ none | false ↦ union front (walk lines allowed (juniors_of lines front)) ]

-- the roles of a set and all that they inherit
unfoldable pub reach : (ℕ → ℕ) → ℕ → ℕ
reach lines from = walk lines 64 from

-- the lines turned round: senior and junior change places
unfoldable pub turned : (ℕ → ℕ) → ℕ → ℕ
turned lines j = those (λ s. line lines s j)

-- the role r and all that inherit it; no role where r is beyond 63
unfoldable pub at_or_above : (ℕ → ℕ) → ℕ → ℕ
at_or_above lines r = reach (turned lines) (with none r)

-- a chain of more roles than are allowed starts in the front
unfoldable pub longer_chain : (ℕ → ℕ) → ℕ → ℕ → Bool
longer_chain lines zero front = not (is_empty front)
longer_chain lines (suc allowed) front = elim (is_empty front) [ true ↦ false | false ↦ longer_chain lines allowed (juniors_of lines front) ]

-- some role inherits itself: a chain of more than 64 roles starts somewhere
unfoldable pub circular : (ℕ → ℕ) → Bool
circular lines = longer_chain lines 64 (those (λ k. true))

-- ---- what is handed back, and nothing beside it: over any lines between roles 0 to 63, with a circle among them or without

-- It is the set of the roles of `from` and of all that they inherit, and of no other.
pub record Reaches (lines : ℕ → ℕ) (from set : ℕ) : Type 0 where
  pub is : set ≡ reach lines from
  pub exactly : Small lines → (r : ℕ) → (has set r ≡ true) ↔ Under lines from r

-- It is the set of the role r and of all that inherit it, and of no other.
pub record ReachesUp (lines : ℕ → ℕ) (r set : ℕ) : Type 0 where
  pub is : set ≡ at_or_above lines r
  pub exactly : Small lines → r < 64 → (s : ℕ) → (has set s ≡ true) ↔ AtOrAbove lines s r

-- It says whether some role inherits itself.
pub record TellsCircle (lines : ℕ → ℕ) (told : Bool) : Type 0 where
  pub is : told ≡ circular lines
  pub exactly : Small lines → (told ≡ true) ↔ ((r : ℕ) × Inherits lines r r)
