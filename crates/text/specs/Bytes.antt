-- What the formats are written in: sixteen-bit numbers, lists of entries, and sections. Assumes nothing.
use Rattle.std.specs.Prelude.{List, [], ◌∷◌, ◌++◌, ℕ, ◌/◌, ◌%◌, length}

-- "Sixteen-bit numbers, low byte first."
abbrev pub two : ℕ → List ℕ
two x = x % 256 ∷ x / 256 % 256 ∷ []

-- entry after entry, each as `put` writes it
unfoldable pub flat : (ℕ → List ℕ) → List ℕ → List ℕ
flat put [] = []
flat put (k ∷ ks) = put k ++ flat put ks

-- the entries "after their count"
unfoldable pub section : (ℕ → List ℕ) → List ℕ → List ℕ
section put ks = two (length ks) ++ flat put ks
