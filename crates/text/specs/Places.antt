-- Writing into a buffer and reading out of one at a place. Assumes nothing.
use Rattle.std.specs.Prelude.{true, false, List, ◌≡◌, ℕ, zero, suc, ◌+◌, ◌*◌, ltb, length, get_or}
use Rattle.std.proofs.lemmas.List.Edits.{sets}

-- the buffer after the bytes were stored from a place on (what would stand past its end is dropped), and the place past them
pub record Wrote (before after : List ℕ) (at place : ℕ) (bytes : List ℕ) : Type 0 where
  pub buffer : after ≡ sets before at bytes
  pub next : place ≡ at + length bytes

-- the sixteen-bit number at a place, low byte first; past the end the bytes are 0
unfoldable pub word_at : List ℕ → ℕ → ℕ
word_at s at = get_or s at 0 + 256 * get_or s (at + 1) 0

-- n, or the most where n is above it
unfoldable pub at_most : ℕ → ℕ → ℕ
at_most most n = elim (ltb most n) [ true ↦ most | false ↦ n ]

-- a step taken so many times
unfoldable pub again : {A : Type 0} → (A → A) → ℕ → A → A
again step zero a = a
again step (suc n) a = again step n (step a)

-- A section as it is read, without asking whether it is one: the count at the place, and then so many steps, at most `most`. A step
-- takes the place and what was read so far to the next place and what is read then.
unfoldable pub read_section : {A : Type 0} → List ℕ → ℕ → (ℕ × A → ℕ × A) → ℕ → A → ℕ × A
read_section bytes most step at a = again step (at_most most (word_at bytes at)) (at + 2, a)
