-- Numbers in the front of an array, zeros after them. Assumes nothing.
use Rattle.std.specs.Prelude.{List, ◌++◌, ◌≡◌, ℕ, ◌-◌, ◌≤◌, length, take, replicate}

unfoldable pub padded : List ℕ → List ℕ
padded ns = ns ++ replicate (256 - length ns) 0

-- an array holds so many numbers in its front, and only zeros after them
pub record Holds (count : ℕ) (array : List ℕ) : Type 0 where
  pub few : count ≤ 256
  pub as_many : length (take count array) ≡ count
  pub is : padded (take count array) ≡ array
