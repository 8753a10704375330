-- The words of a script, and how many numbers each takes. Assumes nothing.
use Rattle.std.specs.Prelude.{Bool, true, false, List, [], ◌∷◌, ◌≡◌, refl, ℕ, suc, eqb, leb, get_or, length}
use Prim.Native.String.{String}
use Rattle.words.specs.Bytes.{bytes, same}

-- a word of a script: its bytes, the numbers that it takes, and whether a list of roles of any length follows them
pub record Word : Type 0 where
  pub spelling : List ℕ
  pub numbers : ℕ
  pub listed : Bool

abbrev word : String → ℕ → Word
word text n = record { spelling = bytes text; numbers = n; listed = false }

abbrev listing : String → ℕ → Word
listing text n = record { spelling = bytes text; numbers = n; listed = true }

-- every word, in the order of its number; a new word comes last
unfoldable pub words : List Word
words =
    word "user" 1 ∷
    word "role" 1 ∷
    word "nouser" 1 ∷
    word "norole" 1 ∷
    word "assign" 2 ∷
    word "deassign" 2 ∷
    word "grant" 3 ∷
    word "revoke" 3 ∷
    word "inherit" 2 ∷
    word "disinherit" 2 ∷
    listing "session" 1 ∷
    word "activate" 3 ∷
    word "drop" 3 ∷
    word "end" 2 ∷
    listing "ssd" 2 ∷
    word "nossd" 1 ∷
    word "ssd-add" 2 ∷
    word "ssd-drop" 2 ∷
    word "ssd-card" 2 ∷
    listing "dsd" 2 ∷
    word "nodsd" 1 ∷
    word "dsd-add" 2 ∷
    word "dsd-drop" 2 ∷
    word "dsd-card" 2 ∷
    word "check" 3 ∷
    word "assigned-users" 1 ∷
    word "assigned-roles" 1 ∷
    word "auth-users" 1 ∷
    word "auth-roles" 1 ∷
    word "role-perms" 1 ∷
    word "user-perms" 1 ∷
    word "session-roles" 1 ∷
    word "session-perms" 1 ∷
    word "role-ops" 2 ∷
    word "user-ops" 2 ∷
    word "ssd-sets" 0 ∷
    word "ssd-roles" 1 ∷
    word "ssd-count" 1 ∷
    word "dsd-sets" 0 ∷
    word "dsd-roles" 1 ∷
    word "dsd-count" 1 ∷
    word "end-all" 1 ∷
    []

-- how many there are
abbrev pub word_count : ℕ
word_count = 42

pub words_count : length words ≡ word_count
unfolding words
words_count = refl

-- the word with a number; there is none past the last
abbrev pub word_of : ℕ → Word
word_of k = get_or words k (record { spelling = []; numbers = 0; listed = false })

unfoldable pub spelling : ℕ → List ℕ
spelling k = (word_of k).spelling

-- the word may be followed by n numbers
abbrev pub fitting : Word → ℕ → Bool
fitting w n = elim w.listed [ true ↦ leb w.numbers n | false ↦ eqb n w.numbers ]

unfoldable pub takes : ℕ → ℕ → Bool
takes k n = fitting (word_of k) n

-- the number of the word with these bytes, or the count of the words where none has them
unfoldable pub place_in : List Word → List ℕ → ℕ
place_in [] text = 0
place_in (w ∷ rest) text = elim (same text w.spelling) [ true ↦ 0 | false ↦ suc (place_in rest text) ]

unfoldable pub which : List ℕ → ℕ
which text = place_in words text
