-- What marking a role at the places of a set does to an array of sets: the contract of a step of `turned`. Assumes nothing.
use Rattle.std.specs.Prelude.{Bool, true, false, List, ◌≡◌, ℕ, ◌<◌, length}
use Rattle.roleset.specs.Roles.{has, with}
use Rattle.hierarchy.specs.Lines.{table_of}

-- the set s with the role r, or as it is
abbrev pub pick_with : Bool → ℕ → ℕ → ℕ
pick_with true s r = with s r
pick_with false s r = s

-- the table t, with the role r added at each place of the set `places`
abbrev pub marked : (ℕ → ℕ) → ℕ → ℕ → ℕ → ℕ
marked t places r k = pick_with (has places k) (t k) r

-- the array a after the role r was added at each place of the set: as long as before, and each place as said
pub record Marked (a after : List ℕ) (places r : ℕ) : Type 0 where
  pub size : length after ≡ 64
  pub each : (k : ℕ) → k < 64 → table_of after k ≡ marked (table_of a) places r k
