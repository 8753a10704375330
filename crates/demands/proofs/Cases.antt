-- Whether a number of a list of refusals applies, as a test. Assumes nothing.
use mathlib.Core.Bool.{Bool, true, false, ◌&&◌}
use mathlib.Core.List.Memᴰ
use mathlib.Core.List.{List, [], ◌∷◌, Memᴰ}
use mathlib.Core.Logic.{◌↔◌}
use mathlib.Core.Path.{◌≡◌, refl, sym, ap, subst, ◌∙◌}
use Prim.Native.Nat.{ℕ, ◌≤◌, ◌<◌}
use native.Mathlib.Omega.{arith}
use lib.Dec.{eqb, ltb}
use borrow.Author.Tests.{eqb-true, eqb-false, eq-eqb, ltb-true}
use Rattle.roleset.proofs.BoundedLaws.{clash, never, and_left, and_right}
use Rattle.model.specs.Sheet.{Refusal, ◌when◌}
use Rattle.sound.proofs.Sheet.{AllClear, ordered, rising, rank, rising-each, rising-ordered}
use Rattle.demands.specs.Conditions.{NoneBefore}
use Rattle.demands.specs.Demand2.{Applies, place}
use Rattle.demands.proofs.Exact.{applies-none}

-- the condition of the number n, and no where the list does not have it
abbrev pub asked : ℕ → List Refusal → Bool
asked n [] = false
asked n (r ∷ rest) = elim (eqb r.number n) [ true ↦ r.holds | false ↦ asked n rest ]

asked_here : (n : ℕ) (r : Refusal) (rest : List Refusal) (b : Bool) → eqb r.number n ≡ b → asked n (r ∷ rest) ≡ (elim b as (λ _. Bool) [ true ↦ r.holds | false ↦ asked n rest ])
asked_here n r rest b e = ap (λ (x : Bool). elim x as (λ _. Bool) [ true ↦ r.holds | false ↦ asked n rest ]) e

pub asked-applies : (n : ℕ) (cases : List Refusal) → asked n cases ≡ true → Applies cases n
asked-applies n [] h = clash false h refl
asked-applies n (r ∷ rest) h = go (eqb r.number n) refl (asked-applies n rest)
  where
    go : (b : Bool) → eqb r.number n ≡ b → (asked n rest ≡ true → Applies rest n) → Applies (r ∷ rest) n
    go true e ih = let q = eqb-true r.number n e in let y = sym (asked_here n r rest true e) ∙ h in Memᴰ.head (λ i. record { number = sym q i; holds = sym y i })
    go false e ih = Memᴰ.tail (ih (sym (asked_here n r rest false e) ∙ h))

-- In a list in the order of the sheet no number stands twice.
pub applies-asked : (n : ℕ) (cases : List Refusal) → ordered cases ≡ true → Applies cases n → asked n cases ≡ true
applies-asked n [] o a = absurd (Memᴰ.not-nil a)
applies-asked n (r ∷ rest) o (Memᴰ.head e) = asked_here n r rest true (eq-eqb r.number n (sym (ap (λ (x : Refusal). x.number) e))) ∙ sym (ap (λ (x : Refusal). x.holds) e)
applies-asked n (r ∷ rest) o (Memᴰ.tail a) = go (eqb r.number n) refl (applies-asked n rest (rising-ordered (rank r.number) rest o) a)
  where
    go : (b : Bool) → eqb r.number n ≡ b → asked n rest ≡ true → asked n (r ∷ rest) ≡ true
    go true e ih = absurd (let l = rising-each (rank r.number) rest o (n when true) a in let q = ap rank (eqb-true r.number n e) in omega arith)
    go false e ih = asked_here n r rest false e ∙ ih

-- A number that comes before n does not apply, where none before n does.
pub not_yet : (n k : ℕ) (cases : List Refusal) → NoneBefore cases n → place k < place n → asked k cases ≡ false
not_yet n k cases none l = never (asked k cases) (λ h. let z = none k (asked-applies k cases h) in let y : ⊥ = omega arith in y)

-- every number of the list comes before the place given
abbrev pub earlier : ℕ → List Refusal → Bool
earlier p [] = true
earlier p (r ∷ rest) = ltb (rank r.number) p && earlier p rest

earlier-each : (p : ℕ) (cases : List Refusal) → earlier p cases ≡ true → (k : ℕ) → Applies cases k → place k < p
earlier-each p [] o k a = absurd (Memᴰ.not-nil a)
earlier-each p (r ∷ rest) o k (Memᴰ.head e) = subst (λ (x : ℕ). rank x < p) (sym (ap (λ (x : Refusal). x.number) e)) (ltb-true (rank r.number) p (and_left (ltb (rank r.number) p) (earlier p rest) o))
earlier-each p (r ∷ rest) o k (Memᴰ.tail a) = earlier-each p rest (and_right (ltb (rank r.number) p) (earlier p rest) o) k a

-- Where they all do, none of them applies.
pub all-clear : (n : ℕ) (cases : List Refusal) → earlier (place n) cases ≡ true → NoneBefore cases n → AllClear cases
all-clear n cases o none = applies-none cases (λ k a. let l = earlier-each (place n) cases o k a in let z = none k a in let y : ⊥ = omega arith in y)
