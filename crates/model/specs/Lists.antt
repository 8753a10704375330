-- Lists of roles as commands take them: "A list of roles may be empty and must be strictly ascending". Assumes nothing.
use Rattle.std.specs.Prelude.{Bool, true, false, ◌&&◌, ◌||◌, List, [], ◌∷◌, ℕ, suc, eqb, leb}
use Rattle.roleset.specs.Roles.{those}

-- every number is at least the bound, and above the one before it
unfoldable pub rising : ℕ → List ℕ → Bool
rising bound [] = true
rising bound (a ∷ rest) = leb bound a && rising (suc a) rest

-- strictly ascending
abbrev pub ascending : List ℕ → Bool
ascending l = rising 0 l

-- some number of the list is at least n
unfoldable pub some_from : ℕ → List ℕ → Bool
some_from n [] = false
some_from n (a ∷ rest) = leb n a || some_from n rest

-- k is in the list
unfoldable pub listed : List ℕ → ℕ → Bool
listed [] k = false
listed (a ∷ rest) k = eqb k a || listed rest k

-- the set of the listed roles
unfoldable pub set_of : List ℕ → ℕ
set_of l = those (listed l)

-- the list up to and including the first number that passes the test, or all of it where none does
unfoldable pub up_to_first : (ℕ → Bool) → List ℕ → List ℕ
up_to_first test [] = []
up_to_first test (k ∷ rest) = k ∷ elim (test k) [ true ↦ [] | false ↦ up_to_first test rest ]
