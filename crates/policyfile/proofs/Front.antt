-- The front of a buffer that the file was written to, and its comparison with the bytes. Assumes nothing.
use mathlib.Core.Bool.{Bool, true, false}
use mathlib.Core.List.{List}
use mathlib.Core.Path.{◌≡◌, refl, sym, ap, ap₂, ◌∙◌}
use Prim.Native.Nat.{ℕ, ◌+◌, ◌≤◌, ◌<◌}
use native.Mathlib.Omega.{arith}
use lib.ListN.{length, get_or, take, drop, get_or-append}
use lib.Seq.{sets, sets-eq, ext_get_or, take-append_seam}
use Rattle.roleset.proofs.BoundedLaws.{clash}
use Rattle.text.specs.Places.{Wrote}
use Rattle.policycheck.specs.Tests.{Tells}

-- what was written at the front of a buffer with room for it stands there
pub front : {l l' x : List ℕ} {n : ℕ} → Wrote l l' 0 n x → n ≤ length l → take n l' ≡ x
front {l} {l'} {x} {n} w h =
    let e : n ≡ length x = omega (arith, w.next) in
    let r : 0 + length x ≤ length l = omega arith in
    ap₂ (λ (k : ℕ) (s : List ℕ). take k s) e (w.buffer ∙ sets-eq x l 0 r) ∙ take-append_seam x _

pub front_at : (l x : List ℕ) (i : ℕ) → length x ≤ length l → i < length x → get_or (sets l 0 x) i 0 ≡ get_or x i 0
front_at l x i h k = ap (λ (y : List ℕ). get_or y i 0) (sets-eq x l 0 (omega arith)) ∙ get_or-append x (drop (0 + length x) l) 0 i k

-- the comparison with the bytes tells whether the file is the bytes, where they are as long
pub compared : (l x bytes buffer : List ℕ) (b : Bool) → buffer ≡ sets l 0 x → length x ≤ length l → length x ≡ length bytes → Tells b ((i : ℕ) → i < length bytes → get_or buffer i 0 ≡ get_or bytes i 0) → Tells b (x ≡ bytes)
compared l x bytes buffer b e h n t = record {
  holds = λ y. ext_get_or 0 x bytes n (λ i k. sym (at i k) ∙ t.holds y i (omega arith));
  says = λ p. t.says (λ i k. at i (omega arith) ∙ ap (λ (z : List ℕ). get_or z i 0) p);
}
  where
    at : (i : ℕ) → i < length x → get_or buffer i 0 ≡ get_or x i 0
    at i k = ap (λ (z : List ℕ). get_or z i 0) e ∙ front_at l x i h k

-- the two answers
pub tells-yes : (P : Type 0) → P → Tells true P
tells-yes P p = record { holds = λ e. p; says = λ q. refl }

pub tells-no : (P : Type 0) → (P → ⊥) → Tells false P
tells-no P h = record { holds = λ e. clash false e refl; says = λ p. absurd (h p) }
