-- Laws of writing: runs of bytes after each other, and entries after each other. Assumes nothing.
use mathlib.Core.List.{List, [], ◌∷◌, ◌++◌, append-nil, append_assoc}
use mathlib.Core.Path.{◌≡◌, refl, sym, ap, ap₂, ◌∙◌}
use Prim.Native.Nat.{ℕ, suc, ◌+◌, ◌≤◌, ◌<◌}
use native.Mathlib.Omega.{arith}
use lib.ListN.{length, set, length-append}
use lib.Seq.{sets, set_comm, length-sets}
use Rattle.text.specs.Bytes.{flat}
use Rattle.text.specs.Places.{Wrote}

-- ---- runs of stores

pub sets-append : (l : List ℕ) (i : ℕ) (x y : List ℕ) → sets l i (x ++ y) ≡ sets (sets l i x) (i + length x) y
sets-append l i [] y = ap (λ (j : ℕ). sets l j y) (omega arith)
sets-append l i (a ∷ x) y = sets-append (set l i a) (suc i) x y ∙ ap (λ (j : ℕ). sets (sets (set l i a) (suc i) x) j y) (omega arith)

-- a store before a run may come after it
set-sets : (l : List ℕ) (i j b : ℕ) (y : List ℕ) → i < j → set (sets l j y) i b ≡ sets (set l i b) j y
set-sets l i j b [] h = refl
set-sets l i j b (a ∷ y) h = set-sets (set l j a) i (suc j) b y (omega arith) ∙ ap (λ (m : List ℕ). sets m (suc j) y) (set_comm l j i a b (λ e. omega arith))

sets-sets : (l : List ℕ) (i j : ℕ) (x y : List ℕ) → i + length x ≤ j → sets (sets l j y) i x ≡ sets (sets l i x) j y
sets-sets l i j [] y h = refl
sets-sets l i j (a ∷ x) y h = ap (λ (m : List ℕ). sets m (suc i) x) (set-sets l i j a y (omega arith)) ∙ sets-sets (set l i a) (suc i) j x y (omega arith)

-- what stands in front may be stored last
pub sets-front : (l : List ℕ) (i : ℕ) (x y : List ℕ) → sets (sets l (i + length x) y) i x ≡ sets l i (x ++ y)
sets-front l i x y = sets-sets l i (i + length x) x y (omega arith) ∙ sym (sets-append l i x y)

-- ---- one run after another

pub wrote_none : (l : List ℕ) (at : ℕ) → Wrote l l at at []
wrote_none l at = record { buffer = refl; next = omega arith }

pub wrote-more : {a b d : List ℕ} {i j k : ℕ} {x y : List ℕ} → Wrote a b i j x → Wrote b d j k y → Wrote a d i k (x ++ y)
wrote-more {a} {b} {d} {i} {j} {k} {x} {y} p q = record { buffer = q.buffer ∙ ap₂ (λ (l : List ℕ) (n : ℕ). sets l n y) p.buffer p.next ∙ sym (sets-append a i x y); next = omega (arith, p.next, q.next, length-append x y) }

pub wrote-length : {a b : List ℕ} {i j : ℕ} {x : List ℕ} → Wrote a b i j x → length b ≡ length a
wrote-length {a} {b} {i} {j} {x} p = ap length p.buffer ∙ length-sets a i x

-- ---- entries

pub flat-one : (put : ℕ → List ℕ) (k : ℕ) → flat put (k ∷ []) ≡ put k
unfolding flat
flat-one put k = append-nil (put k)

pub flat_append : (put : ℕ → List ℕ) (x y : List ℕ) → flat put (x ++ y) ≡ flat put x ++ flat put y
unfolding flat
flat_append put [] y = refl
flat_append put (k ∷ x) y = ap (λ (l : List ℕ). put k ++ l) (flat_append put x y) ∙ sym (append_assoc (put k) (flat put x) (flat put y))

pub flat-none : (put : ℕ → List ℕ) → flat put [] ≡ []
unfolding flat
flat-none put = refl
