-- A text in parts: each part ends before a stop byte, or at the end of the text. Lines are the parts that end at LF, words and numbers those that end at a space. Assumes nothing.
use Rattle.std.specs.Prelude.{true, false, List, [], ◌∷◌, ℕ, ◌+◌, min, eqb, length, drop}

-- the byte goes in front of the first part
abbrev pub joined : ℕ → List (List ℕ) → List (List ℕ)
joined b [] = (b ∷ []) ∷ []
joined b (part ∷ parts) = (b ∷ part) ∷ parts

-- "A line ends at LF; the last may lack it, and nothing after the last LF is no line."
unfoldable pub parts_of : ℕ → List ℕ → List (List ℕ)
parts_of stop [] = []
parts_of stop (b ∷ rest) = elim (eqb b stop) [ true ↦ [] ∷ parts_of stop rest | false ↦ joined b (parts_of stop rest) ]

-- the first part
unfoldable pub up_to : ℕ → List ℕ → List ℕ
up_to stop [] = []
up_to stop (b ∷ rest) = elim (eqb b stop) [ true ↦ [] | false ↦ b ∷ up_to stop rest ]

-- the part that starts at a place of a text
abbrev pub part_at : ℕ → List ℕ → ℕ → List ℕ
part_at stop s at = up_to stop (drop at s)

-- the place past that part and its stop byte, which is never past the end of the text
abbrev pub place_past : ℕ → List ℕ → ℕ → ℕ
place_past stop s at = min (at + length (part_at stop s at) + 1) (length s)
