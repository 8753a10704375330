-- Each answer has a number of its own, by which it is found again. Assumes nothing.
use mathlib.Core.Bool.{Bool, true, false}
use mathlib.Core.List.{List, [], ◌∷◌}
use mathlib.Core.Path.{◌≡◌, refl, sym, ap, ◌∙◌}
use Prim.Native.Nat.{ℕ, ◌<◌}
use native.Mathlib.Omega.{arith}
use lib.Dec.{eqb, lit<}
use borrow.Author.Tests.{eqb-true, ne_eqb}
use Rattle.std.proofs.Common.{Option, Some, None, Result, Ok, Err}
use Rattle.numbers.specs.Answers.{Answer, number_of, refusal_number, with_number, answer_of, sheet}
use Rattle.numbers.specs.declared.Refusal.{Refusal}
use Rattle.numbers.specs.declared.Refusal.TheVariants.{
  BeyondRange,
  Missing,
  OtherOwner,
  AlreadyThere,
  NotThere,
  InheritsItself,
  BadCardinality,
  StandsInSet,
  NotAuthorised,
  BreaksStatic,
  BreaksDynamic,
  TableFull,
  NotOfForm,
  BufferShort,
  HasOpenSessions,
}
use Rattle.numbers.specs.declared.NoRefusal.{NoRefusal}

-- an answer's number finds it again
pub answer_back : (a : Answer) → answer_of (number_of a) ≡ Some a
unfolding with_number
answer_back (Ok tt) = refl
answer_back (Err BeyondRange) = refl
answer_back (Err Missing) = refl
answer_back (Err OtherOwner) = refl
answer_back (Err AlreadyThere) = refl
answer_back (Err NotThere) = refl
answer_back (Err InheritsItself) = refl
answer_back (Err BadCardinality) = refl
answer_back (Err StandsInSet) = refl
answer_back (Err NotAuthorised) = refl
answer_back (Err BreaksStatic) = refl
answer_back (Err BreaksDynamic) = refl
answer_back (Err TableFull) = refl
answer_back (Err NotOfForm) = refl
answer_back (Err BufferShort) = refl
answer_back (Err HasOpenSessions) = refl

-- the answer that is named; done where none is
named : Option Answer → Answer
named None = Ok tt
named (Some a) = a

-- different answers have different numbers
pub number-one-to-one : (a b : Answer) → number_of a ≡ number_of b → a ≡ b
unfolding named
number-one-to-one a b e = ap named (sym (answer_back a) ∙ (ap answer_of e ∙ answer_back b))

-- a refusal's number is not 0, done
pub refused-not-0 : (r : Refusal) → refusal_number r ≡ 0 → ⊥
refused-not-0 BeyondRange e = omega arith
refused-not-0 Missing e = omega arith
refused-not-0 OtherOwner e = omega arith
refused-not-0 AlreadyThere e = omega arith
refused-not-0 NotThere e = omega arith
refused-not-0 InheritsItself e = omega arith
refused-not-0 BadCardinality e = omega arith
refused-not-0 StandsInSet e = omega arith
refused-not-0 NotAuthorised e = omega arith
refused-not-0 BreaksStatic e = omega arith
refused-not-0 BreaksDynamic e = omega arith
refused-not-0 TableFull e = omega arith
refused-not-0 NotOfForm e = omega arith
refused-not-0 BufferShort e = omega arith
refused-not-0 HasOpenSessions e = omega arith

-- different refusals have different numbers
pub refusal-one-to-one : (a b : Refusal) → refusal_number a ≡ refusal_number b → a ≡ b
refusal-one-to-one a b e = let z : ◌≡◌ {A = Answer} (Err a) (Err b) = number-one-to-one (Err a) (Err b) e in cc

-- no answer is none
nothing_is : (a : Answer) → None ≡ Some a → ⊥
nothing_is a e = let z : ◌≡◌ {A = ℕ} 0 1 = ap (λ (x : Option Answer). elim x [ None ↦ 0 | Some b ↦ 1 ]) e in omega arith

found_number : (n : ℕ) (a : Answer) (l : List Answer) → with_number n l ≡ Some a → number_of a ≡ n
unfolding with_number named
found_number n a [] h = absurd (nothing_is a h)
found_number n a (x ∷ l) h = go (eqb (number_of x) n) refl (found_number n a l)
  where
    go : (b : Bool) → eqb (number_of x) n ≡ b → (with_number n l ≡ Some a → number_of a ≡ n) → number_of a ≡ n
    go true e ih = sym (ap (λ (y : Option Answer). number_of (named y)) (rw (e, with_number) at h)) ∙ eqb-true (number_of x) n e
    go false e ih = ih (rw (e, with_number) at h)

-- an answer that a number finds has this number
pub number-back : (n : ℕ) (a : Answer) → answer_of n ≡ Some a → number_of a ≡ n
number-back n a e = found_number n a sheet e

-- where a number finds none, no answer has it
pub nothing-named : (n : ℕ) → answer_of n ≡ None → (a : Answer) → number_of a ≡ n → ⊥
nothing-named n e a h = nothing_is a (sym e ∙ (ap answer_of (sym h) ∙ answer_back a))

-- a number that is an answer's finds it
pub named_by : (a : Answer) (n : ℕ) → n ≡ number_of a → Some a ≡ answer_of n
named_by a n e = sym (ap answer_of e ∙ answer_back a)

-- the number is that of none of these answers
abbrev pub Unnamed : ℕ → List Answer → Type 0
Unnamed n [] = Unit {0}
Unnamed n (a ∷ rest) = (n ≡ number_of a → ⊥) × Unnamed n rest

-- so it finds none of them
pub unnamed : (n : ℕ) (l : List Answer) → Unnamed n l → None ≡ with_number n l
unfolding with_number
unnamed n [] u = refl
unnamed n (a ∷ l) u = rw (ne_eqb (number_of a) n (λ e. u.0 (sym e)), with_number) (unnamed n l u.1)

-- there are no further numbers
pub number-below : (a : Answer) → number_of a < 17
number-below (Ok tt) = lit< tt
number-below (Err BeyondRange) = lit< tt
number-below (Err Missing) = lit< tt
number-below (Err OtherOwner) = lit< tt
number-below (Err AlreadyThere) = lit< tt
number-below (Err NotThere) = lit< tt
number-below (Err InheritsItself) = lit< tt
number-below (Err BadCardinality) = lit< tt
number-below (Err StandsInSet) = lit< tt
number-below (Err NotAuthorised) = lit< tt
number-below (Err BreaksStatic) = lit< tt
number-below (Err BreaksDynamic) = lit< tt
number-below (Err TableFull) = lit< tt
number-below (Err NotOfForm) = lit< tt
number-below (Err BufferShort) = lit< tt
number-below (Err HasOpenSessions) = lit< tt

-- a number that no refusal has, and that is not 0, names no answer
pub names_none : (n : ℕ) → (n ≡ 0 → ⊥) → ((r : Refusal) → refusal_number r ≡ n → ⊥) → None ≡ answer_of n
names_none n h u = unnamed n sheet (h, (other BeyondRange, (other Missing, (other OtherOwner, (other AlreadyThere, (other NotThere, (other InheritsItself, (other BadCardinality, (other StandsInSet, (other NotAuthorised, (other BreaksStatic, (other BreaksDynamic, (other TableFull, (other NotOfForm, (other BufferShort, (other HasOpenSessions, tt))))))))))))))))
  where
    other : (r : Refusal) → n ≡ refusal_number r → ⊥
    other r e = u r (sym e)
