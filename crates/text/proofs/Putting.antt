-- Laws of putting: a text after another, where it ends, and that it stands where it was put. Assumes nothing.
use mathlib.Core.List.{List, [], ◌∷◌, ◌++◌}
use mathlib.Core.Path.{◌≡◌, refl, sym, ap, ap₂, ◌∙◌}
use Prim.Native.Nat.{ℕ, suc, ◌+◌, ◌≤◌}
use native.Mathlib.Omega.{arith}
use native.Mathlib.Decide.{dec_le}
use lib.ListN.{length, set, take, length-append}
use lib.Seq.{sets, set_out, sets-eq, length-sets, take-append_seam}
use Rattle.text.specs.Putting.{Put}
use Rattle.text.proofs.Writing.{sets-append}

-- past the end of a buffer nothing is stored
sets-out : (l : List ℕ) (i : ℕ) (text : List ℕ) → length l ≤ i → sets l i text ≡ l
sets-out l i [] h = refl
sets-out l i (b ∷ text) h = let e : set l i b ≡ l = set_out l i b (omega arith) in ap (λ (m : List ℕ). sets m (suc i) text) e ∙ sets-out l (suc i) text (omega arith)

pub put-none : (l : List ℕ) (at : ℕ) → Put l at [] l at
put-none l at = record { holds = refl; ends = omega arith }

-- one text and then another is both, joined
pub put_then : {l l' l'' a b : List ℕ} {at next last : ℕ} → Put l at a l' next → Put l' next b l'' last → Put l at (a ++ b) l'' last
put_then {l} {l'} {l''} {a} {b} {at} {next} {last} p q =
    record { holds = q.holds ∙ ap (λ (m : List ℕ). sets m next b) p.holds ∙ stored (dec_le (at + length a) (length l)) ∙ sym (sets-append l at a b); ends = omega (arith, p.ends, q.ends, length-append a b, same) }
  where
    same : length l' ≡ length l
    same = ap length p.holds ∙ length-sets l at a

    stored : Dec (at + length a ≤ length l) → sets (sets l at a) next b ≡ sets (sets l at a) (at + length a) b
    stored (yes h) = let e : next ≡ at + length a = omega (arith, p.ends) in ap (λ (k : ℕ). sets (sets l at a) k b) e
    stored (no h) = sets-out (sets l at a) next b (omega (arith, p.ends, length-sets l at a)) ∙ sym (sets-out (sets l at a) (at + length a) b (omega (arith, length-sets l at a)))

-- the next place is never past the end of the buffer
pub put-within : {l l' a : List ℕ} {at next : ℕ} → Put l at a l' next → at ≤ length l → next ≤ length l
put-within {l} {l'} {a} {at} p h = omega (arith, p.ends)

pub put-length : {l l' a : List ℕ} {at next : ℕ} → Put l at a l' next → length l' ≡ length l
put-length {l} {l'} {a} {at} p = ap length p.holds ∙ length-sets l at a

-- a text that was put at the front of a buffer with room for it stands there
pub put_front : {l l' a : List ℕ} {next : ℕ} → Put l 0 a l' next → length a ≤ length l → take next l' ≡ a
put_front {l} {l'} {a} {next} p h =
    let e : next ≡ length a = omega (arith, p.ends) in
    let r : 0 + length a ≤ length l = omega arith in
    ap₂ (λ (n : ℕ) (x : List ℕ). take n x) e (p.holds ∙ sets-eq a l 0 r) ∙ take-append_seam a _
