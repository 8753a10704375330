-- The laws of a text in parts. Assumes nothing.
use mathlib.Core.Bool.{Bool, true, false, cond}
use mathlib.Core.List.{List, [], ◌∷◌}
use mathlib.Core.Path.{◌≡◌, refl, sym, ap, ◌∙◌}
use Prim.Native.Nat.{ℕ, suc, ◌+◌, ◌≤◌, ◌<◌}
use native.Mathlib.Omega.{arith}
use native.Mathlib.Decide.{dec_lt}
use native.Mathlib.Numerals.{add-one}
use lib.Dec.{eqb}
use lib.ListN.{length, get_or, take, drop, drop_of_length-le, length-drop}
use lib.Seq.{drop-cons, drop-drop}
use borrow.Author.Tests.{eq-eqb, ne_eqb}
use Rattle.std.specs.List.{position_or_len}
use Rattle.std.proofs.lemmas.List.Recursion.{is_position_or_len}
use Rattle.textlines.specs.Parts.{joined, parts_of, up_to, part_at, place_past}

-- ---- the first part, byte by byte

pub at-stop : (stop b : ℕ) (rest : List ℕ) → eqb b stop ≡ true → up_to stop (b ∷ rest) ≡ []
unfolding up_to
at-stop stop b rest e = ap (λ (t : Bool). elim t [ true ↦ [] | false ↦ b ∷ up_to stop rest ]) e

pub before-stop : (stop b : ℕ) (rest : List ℕ) → eqb b stop ≡ false → up_to stop (b ∷ rest) ≡ b ∷ up_to stop rest
unfolding up_to
before-stop stop b rest e = ap (λ (t : Bool). elim t [ true ↦ [] | false ↦ b ∷ up_to stop rest ]) e

pub cut : (stop b : ℕ) (rest : List ℕ) → eqb b stop ≡ true → parts_of stop (b ∷ rest) ≡ [] ∷ parts_of stop rest
unfolding parts_of
cut stop b rest e = ap (λ (t : Bool). elim t [ true ↦ [] ∷ parts_of stop rest | false ↦ joined b (parts_of stop rest) ]) e

pub kept : (stop b : ℕ) (rest : List ℕ) → eqb b stop ≡ false → parts_of stop (b ∷ rest) ≡ joined b (parts_of stop rest)
unfolding parts_of
kept stop b rest e = ap (λ (t : Bool). elim t [ true ↦ [] ∷ parts_of stop rest | false ↦ joined b (parts_of stop rest) ]) e

-- the first part is the front of the text
pub up-front : (stop : ℕ) (l : List ℕ) → take (length (up_to stop l)) l ≡ up_to stop l
unfolding up_to
up-front stop [] = refl
up-front stop (b ∷ l) = go (eqb b stop) refl (up-front stop l)
  where
    go : (t : Bool) → eqb b stop ≡ t → take (length (up_to stop l)) l ≡ up_to stop l → take (length (up_to stop (b ∷ l))) (b ∷ l) ≡ up_to stop (b ∷ l)
    go true e h = rw (at-stop stop b l e)
    go false e h = rw (before-stop stop b l e) (ap (λ (x : List ℕ). b ∷ x) h)

pub up-short : (stop : ℕ) (l : List ℕ) → length (up_to stop l) ≤ length l
unfolding up_to
up-short stop [] = omega arith
up-short stop (b ∷ l) = go (eqb b stop) refl (up-short stop l)
  where
    go : (t : Bool) → eqb b stop ≡ t → length (up_to stop l) ≤ length l → length (up_to stop (b ∷ l)) ≤ length (b ∷ l)
    go true e h = rw (at-stop stop b l e) (omega arith)
    go false e h = rw (before-stop stop b l e) (omega arith)

-- and it ends at the first stop byte
pub up-place : (stop : ℕ) (l : List ℕ) → length (up_to stop l) ≡ position_or_len (λ b. eqb b stop) l
unfolding up_to
up-place stop = is_position_or_len (λ l. length (up_to stop l)) (λ b. eqb b stop) refl (λ b l. go b l (eqb b stop))
  where
    go : (b : ℕ) (l : List ℕ) (t : Bool) → length {A = ℕ} (elim t [ true ↦ [] | false ↦ b ∷ up_to stop l ]) ≡ cond t 0 (1 + length (up_to stop l))
    go b l true = refl
    go b l false = omega arith

-- the first part, and then the parts of what comes after it and its stop byte
abbrev pub After : ℕ → List ℕ → List ℕ
After stop l = drop (suc (length (up_to stop l))) l

one_more : (stop b : ℕ) (l : List ℕ) → joined b (parts_of stop l) ≡ (b ∷ up_to stop l) ∷ parts_of stop (After stop l) → parts_of stop (b ∷ l) ≡ up_to stop (b ∷ l) ∷ parts_of stop (After stop (b ∷ l))
one_more stop b l h = go (eqb b stop) refl
  where
    go : (t : Bool) → eqb b stop ≡ t → parts_of stop (b ∷ l) ≡ up_to stop (b ∷ l) ∷ parts_of stop (After stop (b ∷ l))
    go true e = rw (at-stop stop b l e) (cut stop b l e)
    go false e = rw (before-stop stop b l e) (kept stop b l e ∙ h)

parts_next : (stop b : ℕ) (l : List ℕ) → parts_of stop (b ∷ l) ≡ up_to stop (b ∷ l) ∷ parts_of stop (After stop (b ∷ l))
unfolding parts_of up_to
parts_next stop b [] = one_more stop b [] refl
parts_next stop b (x ∷ l) = one_more stop b (x ∷ l) (ap (joined b) (parts_next stop x l))

-- ---- at a place of a text

module _ (stop : ℕ) (s : List ℕ) (at : ℕ) where
  -- at a stop byte, at another byte, and at the end
  pub part_stops : at < length s → get_or s at 0 ≡ stop → part_at stop s at ≡ []
  part_stops h e = rw (drop-cons s at 0 h) (at-stop stop (get_or s at 0) (drop (suc at) s) (eq-eqb (get_or s at 0) stop e))

  pub part_goes_on : at < length s → (get_or s at 0 ≡ stop → ⊥) → part_at stop s at ≡ get_or s at 0 ∷ part_at stop s (at + 1)
  part_goes_on h n = rw (drop-cons s at 0 h, add-one at) (before-stop stop (get_or s at 0) (drop (suc at) s) (ne_eqb (get_or s at 0) stop n))

  pub part_none : length s ≤ at → part_at stop s at ≡ []
  unfolding up_to
  part_none h = rw (drop_of_length-le s h)

  -- the part ends within the text
  pub part_within : at ≤ length s → at + length (part_at stop s at) ≤ length s
  part_within h = omega (arith, up-short stop (drop at s), length-drop at s)

  pub part_front : take (length (part_at stop s at)) (drop at s) ≡ part_at stop s at
  part_front = up-front stop (drop at s)

  -- what is left after a part
  pub after : drop (place_past stop s at) s ≡ After stop (drop at s)
  after = go (dec_lt (at + length (part_at stop s at) + 1) (length s))
    where
      whole : drop (at + length (part_at stop s at) + 1) s ≡ After stop (drop at s)
      whole = let e : at + length (part_at stop s at) + 1 ≡ at + suc (length (part_at stop s at)) = omega arith in rw e (sym (drop-drop (suc (length (part_at stop s at))) at s))

      go : Dec (at + length (part_at stop s at) + 1 < length s) → drop (place_past stop s at) s ≡ After stop (drop at s)
      go (yes h) = let e : place_past stop s at ≡ at + length (part_at stop s at) + 1 = omega arith in rw e whole
      go (no h) = let e : place_past stop s at ≡ length s = omega arith in let p : length s ≤ length s = omega arith in let q : length s ≤ at + length (part_at stop s at) + 1 = omega arith in rw e (drop_of_length-le s p ∙ sym (drop_of_length-le s q) ∙ whole)

  pub parts_at : at < length s → parts_of stop (drop at s) ≡ part_at stop s at ∷ parts_of stop (drop (place_past stop s at) s)
  parts_at h = rw (after, drop-cons s at 0 h) (parts_next stop (get_or s at 0) (drop (suc at) s))

  pub parts_none : length s ≤ at → parts_of stop (drop at s) ≡ []
  unfolding parts_of
  parts_none h = rw (drop_of_length-le s h)

  pub past_more : at < length s → at < place_past stop s at
  past_more h = omega arith
