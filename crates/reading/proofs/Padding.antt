-- Numbers in the front of an array, zeros after them, and one number more. Assumes nothing.
use mathlib.Core.List.{List, ◌++◌}
use mathlib.Core.Path.{◌≡◌, sym, ap, ◌∙◌}
use Prim.Native.Nat.{ℕ, ◌-◌, ◌+◌, ◌≤◌, ◌<◌}
use native.Mathlib.Omega.{arith}
use lib.ListN.{length, take, drop, replicate, set, length-append, length-replicate}
use Rattle.std.proofs.Math.Seq.{drop-append_seam}
use Rattle.std.proofs.lemmas.List.{length-take-le, take-append-drop, drop-set-lt, drop-replicate, drop-drop, length-set}
use Rattle.reading.specs.Padding.{padded, Holds}

-- an array of 256 with zeros past so many places
pub holds : (count : ℕ) (array : List ℕ) → count ≤ 256 → length array ≡ 256 → drop count array ≡ replicate (256 - count) 0 → Holds count array
unfolding padded
holds count array few long zeros =
    let as_many : length (take count array) ≡ count = length-take-le count array (omega arith) in
    record {
      few = few;
      as_many = as_many;
      is = ap (λ (n : ℕ). take count array ++ replicate (256 - n) 0) as_many ∙ ap (λ (l : List ℕ). take count array ++ l) (sym zeros) ∙ take-append-drop count array;
    }

module _ (count : ℕ) (array : List ℕ) (h : Holds count array) where
  long : length array ≡ 256
  unfolding padded
  long = ap length (sym h.is) ∙ omega (arith, length-append (take count array) (replicate (256 - length (take count array)) 0), length-replicate {A = ℕ} (256 - length (take count array)) 0, h.as_many, h.few)

  zeros : drop count array ≡ replicate (256 - count) 0
  unfolding padded
  zeros =
      ap (λ (l : List ℕ). drop count l) (sym h.is)
      ∙ ap (λ (n : ℕ). drop n (padded (take count array))) (sym h.as_many)
      ∙ drop-append_seam (take count array) (replicate (256 - length (take count array)) 0)
      ∙ ap (λ (n : ℕ). replicate (256 - n) 0) h.as_many

  pub one_more : (x : ℕ) → count < 256 → Holds (count + 1) (set array count x)
  one_more x p =
      let fewer : (256 - count) - 1 ≡ 256 - (count + 1) = omega arith in
      holds (count + 1) (set array count x) (omega arith) (length-set array count x ∙ long)
      (drop-set-lt (count + 1) array count x (omega arith)
      ∙ sym (drop-drop 1 count array) ∙ ap (λ (l : List ℕ). drop 1 l) zeros
      ∙ drop-replicate 1 (256 - count) 0 ∙ ap (λ (n : ℕ). replicate n 0) fewer)
