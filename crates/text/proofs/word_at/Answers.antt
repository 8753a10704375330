-- The bytes from the place on are two or more, the last one, or none. Assumes nothing.
use mathlib.Core.List.{List}
use mathlib.Core.Path.{◌≡◌, sym, ap, ◌∙◌}
use Prim.Native.Nat.{ℕ, ◌+◌, ◌-◌, ◌*◌, ◌≤◌}
use native.Mathlib.Omega.{arith}
use native.Mathlib.Decide.{dec_le}
use Rattle.std.proofs.Common.{min}
use Rattle.std.proofs.lemmas.List.{take_rest}
use lib.ListN.{length, get_or, take, drop, get_or-eq_default}
use lib.Seq.{get_or-drop}
use Rattle.text.specs.Places.{word_at}
use Rattle.text.proofs.word_at.Goals as goal

-- the bytes from a place on
abbrev from : List ℕ → ℕ → List ℕ
from l m = take (length l - m) (drop m l)

byte : (l : List ℕ) (at m i : ℕ) → m ≡ min at (length l) → get_or (from l m) i 0 ≡ get_or l (at + i) 0
byte l at m i e = rw (take_rest l m, get_or-drop m l i 0) (go (dec_le at (length l)))
  where
    go : Dec (at ≤ length l) → get_or l (m + i) 0 ≡ get_or l (at + i) 0
    go (yes h) = ap (λ (n : ℕ). get_or l n 0) (omega arith)
    go (no h) = get_or-eq_default l 0 (omega arith) ∙ sym (get_or-eq_default l 0 (omega arith))

word : (l : List ℕ) (at m n : ℕ) → m ≡ min at (length l) → n ≡ get_or (from l m) 0 0 + 256 * get_or (from l m) 1 0 → n ≡ word_at l at
unfolding word_at
word l at m n e h =
    let here : at + 0 ≡ at = omega arith in
    let low : get_or (from l m) 0 0 ≡ get_or l at 0 = byte l at m 0 e ∙ ap (λ (n : ℕ). get_or l n 0) here in
    omega (arith, h, low, byte l at m 1 e)

pub returns-in-empty : goal.returns-in-empty
returns-in-empty c = word _ _ _ _ c.min.ensures (omega (arith, get_or-eq_default (from c.args.bytes.now c.min.result) 0 {n = 0} (omega arith), get_or-eq_default (from c.args.bytes.now c.min.result) 0 {n = 1} (omega arith)))

pub returns-in-len1 : goal.returns-in-len1
returns-in-len1 c = word _ _ _ _ c.min.ensures (omega (arith, c.from.ensures, get_or-eq_default (from c.args.bytes.now c.min.result) 0 {n = 1} (omega arith)))

pub returns-in-len2-up : goal.returns-in-len2-up
returns-in-len2-up c = word _ _ _ _ c.min.ensures (omega (arith, c.from_le_bytes.ensures))
