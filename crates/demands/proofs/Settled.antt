-- What holds of whatever is settled by a list of refusals: demand 1, and which numbers are not answered. Assumes nothing.
use mathlib.Core.Bool.{Bool, true, false, not, ◌&&◌}
use mathlib.Core.List.{List, [], ◌∷◌}
use mathlib.Core.Path.{◌≡◌, refl, sym, subst, ◌∙◌}
use Prim.Native.Nat.{ℕ, ◌<◌}
use native.Mathlib.Omega.{arith}
use lib.Dec.{eqb}
use borrow.Author.Tests.{eqb-false, not-true}
use Rattle.roleset.proofs.BoundedLaws.{clash, and_left, and_right}
use Rattle.std.proofs.Common.{Option, Some, None, Ok}
use Rattle.numbers.specs.Answers.{Answer, answer_of}
use Rattle.numbers.proofs.Answers.{number-back}
use Rattle.model.specs.Model.{Model}
use Rattle.model.specs.Sheet.{Refusal, verdict, settle}
use Rattle.sound.proofs.Sheet.{refusal-changes-nothing, settle-answer}
use Rattle.demands.specs.Demand1.{OnSheet, Harmless}

-- no number of the list is n
abbrev pub lacks : ℕ → List Refusal → Bool
lacks n [] = true
lacks n (r ∷ rest) = not (eqb r.number n) && lacks n rest

verdict-lacks : (n : ℕ) (rs : List Refusal) → 0 < n → lacks n rs ≡ true → verdict rs ≡ n → ⊥
unfolding verdict
verdict-lacks n [] p e = λ z. omega arith
verdict-lacks n (r ∷ rest) p e = go r.holds (verdict-lacks n rest p (and_right (not (eqb r.number n)) (lacks n rest) e))
  where
    go : (b : Bool) → (verdict rest ≡ n → ⊥) → (elim b as (λ _. ℕ) [ true ↦ r.number | false ↦ verdict rest ]) ≡ n → ⊥
    go true ih = eqb-false r.number n (not-true (eqb r.number n) (and_left (not (eqb r.number n)) (lacks n rest) e))
    go false ih = ih

-- the answer is no number that the list lacks
pub settled-lacks : (n : ℕ) (rs : List Refusal) (m : Model) (results : List ℕ) (after : Model) → 0 < n → lacks n rs ≡ true → (settle rs m results after).answer ≡ n → ⊥
settled-lacks n rs m results after p e z = verdict-lacks n rs p e (sym (settle-answer rs m results after) ∙ z)

-- some answer has the number
unfoldable pub numbered : ℕ → Bool
numbered n = elim (answer_of n) [ None ↦ false | Some a ↦ true ]

pub numbered-on : (n : ℕ) → numbered n ≡ true → OnSheet n
unfolding numbered
numbered-on n h = go (answer_of n) refl
  where
    go : (x : Option Answer) → answer_of n ≡ x → OnSheet n
    go None e = clash false (rw (numbered, e) at h) refl
    go (Some a) e = (a, sym (number-back n a e))

-- and so has every number of the list
abbrev pub all_numbered : List Refusal → Bool
all_numbered [] = true
all_numbered (r ∷ rest) = numbered r.number && all_numbered rest

verdict-on : (rs : List Refusal) → all_numbered rs ≡ true → OnSheet (verdict rs)
unfolding verdict
verdict-on [] e = (Ok tt, refl)
verdict-on (r ∷ rest) e = go r.holds (verdict-on rest (and_right (numbered r.number) (all_numbered rest) e))
  where
    go : (b : Bool) → OnSheet (verdict rest) → OnSheet (elim b as (λ _. ℕ) [ true ↦ r.number | false ↦ verdict rest ])
    go true ih = numbered-on r.number (and_left (numbered r.number) (all_numbered rest) e)
    go false ih = ih

-- one law for all: whatever is settled by numbers of the sheet is harmless
pub settled-harmless : (rs : List Refusal) (m : Model) (results : List ℕ) (after : Model) → all_numbered rs ≡ true → Harmless m (settle rs m results after)
settled-harmless rs m results after h = record { unchanged = λ n. (refusal-changes-nothing rs m results after n).0; silent = λ n. (refusal-changes-nothing rs m results after n).1; on_sheet = subst OnSheet (sym (settle-answer rs m results after)) (verdict-on rs h) }
