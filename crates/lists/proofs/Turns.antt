-- One turn of reading a list: what was found so far, with what the rest of the list holds, is what the whole list holds. Assumes nothing.
use mathlib.Core.Bool.{Bool, false, ◌&&◌, ◌||◌, and-true, and-false, or-false, and_assoc, or_assoc}
use mathlib.Core.List.{List, ◌∷◌}
use mathlib.Core.Path.{◌≡◌, ap, ◌∙◌}
use Prim.Native.Nat.{ℕ, ◌+◌, ◌≤◌, ◌<◌, ◌^◌}
use native.Mathlib.Numerals.{add-one}
use lib.Dec.{leb}
use borrow.Author.Tests.{le-leb, lt-leb}
use lib.ListN.{length, get_or, drop, drop_of_length-le}
use lib.Seq.{drop-cons}
use Rattle.roleset.specs.Roles.{has, those, with}
use Rattle.roleset.proofs.Laws.{has-none, has-with, those-ext, those-has}
use Rattle.model.specs.Lists.{rising, some_from, listed, set_of}

-- the next number, and the rest after it
next : (l : List ℕ) (i : ℕ) → i < length l → drop i l ≡ get_or l i 0 ∷ drop (i + 1) l
next l i h = rw (add-one i) (drop-cons l i 0 h)

-- the set so far, and the roles of the rest
unfoldable pub joining : ℕ → List ℕ → ℕ
joining s l = those (λ k. has s k || listed l k)

module _ (l : List ℕ) (i : ℕ) (h : i < length l) where
  -- The number is above the one before, and the rest above it.
  pub turn_rising : (a : Bool) (bound : ℕ) → ((a && leb bound (get_or l i 0)) && rising (get_or l i 0 + 1) (drop (i + 1) l)) ≡ (a && rising bound (drop i l))
  unfolding rising
  turn_rising a bound = rw (next l i h, add-one (get_or l i 0)) (and_assoc a _ _)

  -- A number below the bound: not ascending, whatever follows.
  pub turn_low : (a : Bool) (bound : ℕ) → get_or l i 0 < bound → (a && rising bound (drop i l)) ≡ false
  unfolding rising
  turn_low a bound p = rw (next l i h, lt-leb bound (get_or l i 0) p) (and-false a)

  -- Any other: ascending if it was so far and the rest is, above it.
  pub turn_high : (a : Bool) (bound : ℕ) → bound ≤ get_or l i 0 → (a && rising bound (drop i l)) ≡ (a && rising (get_or l i 0 + 1) (drop (i + 1) l))
  unfolding rising
  turn_high a bound p = rw (next l i h, le-leb bound (get_or l i 0) p, add-one (get_or l i 0))

  -- The number is at least n, or one of the rest is.
  pub turn_beyond : (b : Bool) (n : ℕ) → ((b || leb n (get_or l i 0)) || some_from n (drop (i + 1) l)) ≡ (b || some_from n (drop i l))
  unfolding some_from
  turn_beyond b n = rw (next l i h) (or_assoc b _ _)

  -- A number within the range leaves it to the rest.
  pub turn_within : (b : Bool) (n : ℕ) → get_or l i 0 < n → (b || some_from n (drop i l)) ≡ (b || some_from n (drop (i + 1) l))
  unfolding some_from
  turn_within b n p = rw (next l i h, lt-leb n (get_or l i 0) p)

  -- The number joins the set.
  pub turn_joins : (s : ℕ) → joining (with s (get_or l i 0)) (drop (i + 1) l) ≡ joining s (drop i l)
  unfolding joining listed
  turn_joins s = rw (next l i h) (those-ext _ _ (λ k p. ap (λ (b : Bool). b || listed (drop (i + 1) l) k) (has-with s (get_or l i 0) k p) ∙ or_assoc (has s k) _ _))

-- Before the first number.
pub joining-start : (l : List ℕ) → joining 0 l ≡ set_of l
unfolding joining set_of
joining-start l = those-ext _ _ (λ k p. rw (has-none k))

-- After the last one.
module _ (l : List ℕ) (i : ℕ) (h : length l ≤ i) where
  pub end_rising : (a : Bool) (bound : ℕ) → (a && rising bound (drop i l)) ≡ a
  unfolding rising
  end_rising a bound = rw (drop_of_length-le l h) (and-true a)

  pub end_beyond : (b : Bool) (n : ℕ) → (b || some_from n (drop i l)) ≡ b
  unfolding some_from
  end_beyond b n = rw (drop_of_length-le l h) (or-false b)

  pub end_joins : (s : ℕ) → s < 2 ^ 64 → joining s (drop i l) ≡ s
  unfolding joining listed
  end_joins s p = rw (drop_of_length-le l h) (those-ext _ _ (λ k q. or-false (has s k)) ∙ those-has s p)
