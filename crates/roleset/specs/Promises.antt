-- What the contracts of the operations say of their results. Assumes nothing.
use Rattle.std.specs.Prelude.{Bool, true, false, ◌≡◌, ℕ, ◌<◌}
use Rattle.roleset.specs.Roles.{has}

-- s is the set that the definition gives, and its members are the roles that pass the test
pub record Made (s set : ℕ) (test : ℕ → Bool) : Type 0 where
  pub is : s ≡ set
  pub each : (k : ℕ) → has s k ≡ test k

-- b is the test's answer, and it is yes exactly when the statement holds
pub record Answers (b test : Bool) (statement : Type 0) : Type 0 where
  pub is : b ≡ test
  pub yes_means : b ≡ true → statement
  pub means_yes : statement → b ≡ true

-- r is the lowest member of s
pub record Lowest (s r : ℕ) : Type 0 where
  pub member : has s r ≡ true
  pub first : (k : ℕ) → k < r → has s k ≡ false
