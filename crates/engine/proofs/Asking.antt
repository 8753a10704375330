-- Any question in a lent buffer: a review has asked for its room itself, and `check` has its two results there, or none. Assumes nothing.
use mathlib.Core.List.{List, [], ◌∷◌}
use mathlib.Core.Path.{◌≡◌, refl, ap, ◌∙◌}
use Prim.Native.Nat.{ℕ, ◌<◌, ◌≤◌}
use native.Mathlib.Omega.{arith}
use lib.ListN.{length, drop, set, length-set, length-append}
use borrow.Author.Tests.{le-ltb, lt-ltb}
use Rattle.std.specs.Prelude.{Result, Ok, Err}
use Rattle.roleset.specs.Bounded.{bit}
use Rattle.numbers.specs.declared.Refusal.{Refusal}
use Rattle.numbers.specs.declared.Refusal.TheVariants.{BufferShort}
use Rattle.model.specs.Model.{Model}
use Rattle.model.specs.Sheet.{Told}
use Rattle.model.specs.declared.Question.{Question}
use Rattle.state.specs.Results.{told_of}
use Rattle.checking.specs.Answering.{told_checked}
use Rattle.checking.specs.declared.Checked.{Checked}
use Rattle.reviews.specs.Reviewing.{Reviewed, Asked, fitted, AskedAny}

-- results that stand in the buffer fit
fits-already : (told : Told) (before after : List ℕ) (x : Result ℕ Refusal) → length after ≡ length before → Reviewed told before after x → Reviewed (fitted (length before) told) before after x
unfolding fitted
fits-already told before after x e r = rw same r
  where
    room : length told.results ≤ length before
    room = omega (arith, e, ap length r.buffer, length-append told.results (drop (length told.results) before))

    same : fitted (length before) told ≡ told
    same = rw (le-ltb (length before) (length told.results) room, fitted)

-- an arm of `ask`: what its own function tells of the question that was asked
pub asked_arm : (m : Model) {q r : Question} (before after : List ℕ) (x : Result ℕ Refusal) → q ≡ r → length after ≡ length before → Asked m r before after x → AskedAny m q before after x
asked_arm m before after x e same told = rw e (fits-already _ before after x same told)

-- ---- `check`: refused; done with no room for its two results; done with room

module _ (m : Model) (told : Told) (before : List ℕ) where
  pub check_refused : (refusal : Refusal) → told_checked m (Err refusal) ≡ told → Reviewed (fitted (length before) told) before before (Err refusal)
  unfolding told_of
  check_refused refusal tells = rw (← tells) (fits-already _ before before _ refl (record { answer = refl; count = refl; buffer = refl }))

  pub check_short : (c : Checked) → told_checked m (Ok c) ≡ told → length before < 2 → Reviewed (fitted (length before) told) before before (Err BufferShort)
  unfolding fitted told_of
  check_short c tells h = rw (← tells, lt-ltb (length before) 2 h, fitted) (record { answer = refl; count = refl; buffer = refl })

  pub check_done : (c : Checked) → told_checked m (Ok c) ≡ told → 2 ≤ length before → Reviewed (fitted (length before) told) before (set (set before 0 (bit c.yes)) 1 c.looked) (Ok 2)
  unfolding told_of
  check_done c tells h = rw (← tells) (fits-already _ before _ _ (length-set (set before 0 (bit c.yes)) 1 c.looked ∙ length-set before 0 (bit c.yes)) (record { answer = refl; count = refl; buffer = first before h }))
    where
      first : (l : List ℕ) → 2 ≤ length l → set (set l 0 (bit c.yes)) 1 c.looked ≡ bit c.yes ∷ c.looked ∷ drop 2 l
      first [] h = absurd (omega (arith, h))
      first (k ∷ []) h = absurd (omega (arith, h))
      first (k ∷ j ∷ l) h = refl
