-- "Some k below n", "every k below n", "how many k below n": the three bounded words that the other definitions are made of.
-- Assumes nothing.
use Rattle.std.specs.Prelude.{Bool, true, false, ◌&&◌, ◌||◌, List, [], ◌∷◌, ◌++◌, ℕ, zero, suc, ◌+◌}

-- 1 for yes, 0 for no
abbrev pub bit : Bool → ℕ
bit true = 1
bit false = 0

-- some k below n passes the test
unfoldable pub some : ℕ → (ℕ → Bool) → Bool
some zero test = false
some (suc n) test = test n || some n test

-- every k below n passes the test
unfoldable pub every : ℕ → (ℕ → Bool) → Bool
every zero test = true
every (suc n) test = test n && every n test

-- how many k below n pass the test
unfoldable pub tally : ℕ → (ℕ → Bool) → ℕ
tally zero test = 0
tally (suc n) test = bit (test n) + tally n test

-- the sum of f k over the k below n
unfoldable pub total : ℕ → (ℕ → ℕ) → ℕ
total zero f = 0
total (suc n) f = f n + total n f

-- k alone, where the answer is yes
abbrev pub only_if : Bool → ℕ → List ℕ
only_if true k = k ∷ []
only_if false k = []

-- the k below n that pass the test, in ascending order with no repeats
unfoldable pub members : ℕ → (ℕ → Bool) → List ℕ
members zero test = []
members (suc n) test = members n test ++ only_if (test n) n
