-- Numbers as a script writes them, and as a reader takes them. Assumes nothing.
use Rattle.std.specs.Prelude.{true, false, List, [], ◌∷◌, ◌++◌, ℕ, ◌+◌, ◌*◌, ◌/◌, ◌%◌, leb}

-- the digit of n at the place p (1, 10, 100, ..), as a byte
abbrev pub digit : ℕ → ℕ → ℕ
digit p n = 48 + n / p % 10

-- the digit at the place p, where the number reaches so far
unfoldable pub lead : ℕ → ℕ → List ℕ
lead p n = elim (leb p n) [ true ↦ digit p n ∷ [] | false ↦ [] ]

-- "A number is 1 to 5 digits, at most 65,535, with no leading zero except 0 itself."
unfoldable pub decimal : ℕ → List ℕ
decimal n = lead 10000 n ++ (lead 1000 n ++ (lead 100 n ++ (lead 10 n ++ (digit 1 n ∷ []))))

-- a number after one space, and numbers one after another: what follows the first word of a line
abbrev pub space : ℕ
space = 32

unfoldable pub numbered : List ℕ → List ℕ
numbered [] = []
numbered (n ∷ rest) = (space ∷ decimal n) ++ numbered rest

-- How a reader takes a number: leniently, any bytes for digits. What it took is written again and compared, so nothing rests on it but `value-decimal`.
abbrev pub taken : ℕ → ℕ → ℕ
taken v b = (10 * v + b % 16) % 65536

unfoldable pub taken_from : ℕ → List ℕ → ℕ
taken_from v [] = v
taken_from v (b ∷ rest) = taken_from (taken v b) rest

abbrev pub value : List ℕ → ℕ
value text = taken_from 0 text
