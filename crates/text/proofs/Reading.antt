-- Laws of reading: what was written is read back. Assumes nothing.
use mathlib.Core.Bool.{Bool, true, false}
use mathlib.Core.List.{List, [], ◌∷◌, ◌++◌, append_assoc, foldl}
use mathlib.Core.Path.{◌≡◌, refl, sym, ap, ◌∙◌}
use Prim.Native.Nat.{ℕ, zero, suc, ◌+◌, ◌/◌, ◌%◌, ◌≤◌, ◌<◌}
use native.Mathlib.Omega.{arith}
use lib.Dec.{ltb}
use borrow.Author.Tests.{le-ltb, ltb-false}
use Rattle.roleset.specs.Bounded.{only_if, members}
use lib.ListN.{length, drop, get_or, length-append}
use lib.Seq.{get_or-drop, drop-drop, drop-append_seam}
use Rattle.text.specs.Bytes.{two, flat, section}
use Rattle.text.specs.Places.{word_at, again, at_most, read_section}

-- what stands from a place on
pub record Stands (bytes : List ℕ) (at : ℕ) (front rest : List ℕ) : Type 0 where
  pub here : drop at bytes ≡ front ++ rest

-- past the front stands the rest
pub stands-past : {bytes : List ℕ} {at : ℕ} {x rest : List ℕ} → Stands bytes at x rest → drop (at + length x) bytes ≡ rest
stands-past {bytes} {at} {x} {rest} s = sym (drop-drop (length x) at bytes) ∙ ap (λ (l : List ℕ). drop (length x) l) s.here ∙ drop-append_seam x rest

pub stands-left : {bytes : List ℕ} {at : ℕ} {rest : List ℕ} (x y : List ℕ) → Stands bytes at (x ++ y) rest → Stands bytes at x (y ++ rest)
stands-left {bytes} {at} {rest} x y s = record { here = s.here ∙ append_assoc x y rest }

pub stands-right : {bytes : List ℕ} {at : ℕ} {rest : List ℕ} (x y : List ℕ) → Stands bytes at (x ++ y) rest → Stands bytes (at + length x) y rest
stands-right x y s = record { here = stands-past (stands-left x y s) }

-- a number that was written is read back
pub word_back : {bytes : List ℕ} {at : ℕ} {rest : List ℕ} (x : ℕ) → x < 65536 → Stands bytes at (two x) rest → word_at bytes at ≡ x
unfolding word_at
word_back {bytes} {at} {rest} x h s =
    let low : get_or bytes at 0 ≡ x % 256 = ap (λ (n : ℕ). get_or bytes n 0) (omega arith) ∙ sym (get_or-drop at bytes 0 0) ∙ ap (λ (l : List ℕ). get_or l 0 0) s.here in
    let high : get_or bytes (at + 1) 0 ≡ x / 256 % 256 = sym (get_or-drop at bytes 1 0) ∙ ap (λ (l : List ℕ). get_or l 1 0) s.here in
    omega arith

-- every number of the list is so
abbrev pub Each : (ℕ → Type 0) → List ℕ → Type 0
Each P [] = Unit
Each P (k ∷ ks) = P k × Each P ks

each_append : (P : ℕ → Type 0) (x y : List ℕ) → Each P x → Each P y → Each P (x ++ y)
each_append P [] y p q = q
each_append P (k ∷ x) y p q = (p.0, each_append P x y p.1 q)

-- the members below n pass the test
pub each_member : (n : ℕ) (test : ℕ → Bool) → Each (λ k. (k < n) × (test k ≡ true)) (members n test)
unfolding members
each_member n test = go n (omega arith)
  where
    only : (b : Bool) (i : ℕ) → i < n → test i ≡ b → Each (λ k. (k < n) × (test k ≡ true)) (only_if b i)
    only true i h e = ((h, e), tt)
    only false i h e = tt

    go : (i : ℕ) → i ≤ n → Each (λ k. (k < n) × (test k ≡ true)) (members i test)
    go zero h = tt
    go (suc i) h = each_append (λ k. (k < n) × (test k ≡ true)) (members i test) (only_if (test i) i) (go i (omega arith)) (only (test i) i (omega arith) refl)

pub at-most : (most n : ℕ) → n ≤ most → at_most most n ≡ n
unfolding at_most
at-most most n h = rw (at_most, le-ltb most n h)

pub at-most-le : (most n : ℕ) → at_most most n ≤ most
unfolding at_most
at-most-le most n = go (ltb most n) refl
  where
    go : (b : Bool) → ltb most n ≡ b → elim b [ true ↦ most | false ↦ n ] ≤ most
    go true e = omega arith
    go false e = ltb-false most n e

-- Entry after entry: where a step reads the entry that stands at its place, all of them are read, and the place is past them.
module _ {A : Type 0} (bytes : List ℕ) (put : ℕ → List ℕ) (act : A → ℕ → A) (step : ℕ × A → ℕ × A) (P : ℕ → Type 0) (one : (k at : ℕ) (a : A) (rest : List ℕ) → P k → Stands bytes at (put k) rest → step (at, a) ≡ (at + length (put k), act a k)) where
  pub again_flat : (ks : List ℕ) → Each P ks → (at : ℕ) (a : A) (rest : List ℕ) → Stands bytes at (flat put ks) rest → again step (length ks) (at, a) ≡ (at + length (flat put ks), foldl act a ks)
  unfolding flat again
  again_flat [] p at a rest s = ap (λ (n : ℕ). (n, a)) (omega arith)
  again_flat (k ∷ ks) p at a rest s =
      ap (again step (length ks)) (one k at a (flat put ks ++ rest) p.0 (stands-left (put k) (flat put ks) s))
      ∙ again_flat ks p.1 (at + length (put k)) (act a k) rest (stands-right (put k) (flat put ks) s)
      ∙ ap (λ (n : ℕ). (n, foldl act (act a k) ks)) (omega (arith, length-append (put k) (flat put ks)))

  pub section_back : (most : ℕ) → most < 65536 → (ks : List ℕ) → length ks ≤ most → Each P ks → (at : ℕ) (a : A) (rest : List ℕ) → Stands bytes at (section put ks) rest → read_section bytes most step at a ≡ (at + length (section put ks), foldl act a ks)
  unfolding section read_section
  section_back most l ks h p at a rest s =
      ap (λ (n : ℕ). again step n (at + 2, a)) (ap (at_most most) (word_back (length ks) (omega arith) (stands-left (two (length ks)) (flat put ks) s)) ∙ at-most most (length ks) h)
      ∙ again_flat ks p (at + 2) a rest (stands-right (two (length ks)) (flat put ks) s)
      ∙ ap (λ (n : ℕ). (n, foldl act a ks)) (omega (arith, length-append (two (length ks)) (flat put ks)))
