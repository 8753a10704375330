-- A section whose entries are written first and whose count is written last, and how long entries of one width are. Assumes nothing.
use mathlib.Core.List.{List, [], ◌∷◌, ◌++◌}
use mathlib.Core.Path.{◌≡◌, ap, ◌∙◌}
use Prim.Native.Nat.{ℕ, ◌+◌, ◌*◌}
use native.Mathlib.Nat.{mul-suc}
use native.Mathlib.Omega.{arith}
use lib.ListN.{length, length-append}
use lib.Seq.{sets}
use Rattle.text.specs.Bytes.{two, flat, section}
use Rattle.text.specs.Places.{Wrote}
use Rattle.text.proofs.Writing.{sets-front}

-- entries of one width
pub flat-length : (put : ℕ → List ℕ) (w : ℕ) → ((k : ℕ) → length (put k) ≡ w) → (ks : List ℕ) → length (flat put ks) ≡ w * length ks
unfolding flat
flat-length put w h [] = omega arith
flat-length put w h (k ∷ ks) = omega (arith, length-append (put k) (flat put ks), h k, flat-length put w h ks, mul-suc w (length ks))

-- the count is written in front of the entries
pub section-counted : (put : ℕ → List ℕ) (ks : List ℕ) {a b d : List ℕ} {at i n j : ℕ} → n ≡ length ks → Wrote a b (at + 2) i (flat put ks) → Wrote b d at j (two n) → Wrote a d at i (section put ks)
unfolding section
section-counted put ks {a} {at = at} {n = n} e u x =
    let entries = flat put ks in
    record { buffer = x.buffer ∙ ap (λ (l : List ℕ). sets l at (two n)) u.buffer ∙ sets-front a at (two n) entries ∙ ap (λ (c : ℕ). sets a at (two c ++ entries)) e; next = omega (arith, u.next, length-append (two (length ks)) entries) }
