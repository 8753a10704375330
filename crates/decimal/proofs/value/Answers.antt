-- One digit more is taken. Assumes nothing.
use mathlib.Core.Path.{◌≡◌, ap, ◌∙◌}
use Prim.Native.Nat.{ℕ, ◌+◌, ◌*◌, ◌%◌, ◌≤◌, ◌<◌}
use native.Mathlib.Numerals.{add-one}
use native.Mathlib.Omega.{arith}
use lib.ListN.{length, get_or, drop, drop_of_length-le}
use lib.Seq.{drop-cons}
use Rattle.decimal.specs.Decimal.{taken, taken_from}
use Rattle.decimal.proofs.value.Goals as goal

-- wrapping each operation by itself leaves the same
wrapped : (v b : ℕ) → (v * 10 % 65536 + b % 16) % 65536 ≡ taken v b
wrapped v b = omega arith

pub loop-b-preserved : goal.loop-b-preserved
unfolding taken_from
loop-b-preserved c =
    let text = c.args.text.now in
    let i = c.loop-b.b-index in
    let l : i < length text = omega arith in
    let e : (c.loop-b.v * 10 % 65536 + c.from.result) % 65536 ≡ taken c.loop-b.v (get_or text i 0) = ap (λ (n : ℕ). (c.loop-b.v * 10 % 65536 + n) % 65536) c.from.ensures ∙ wrapped c.loop-b.v (get_or text i 0) in
    ap (λ (n : ℕ). taken_from n (drop (i + 1) text)) e ∙ rw (drop-cons text i 0 l, ← add-one) at c.loop-b.invariant

pub returns : goal.returns
unfolding taken_from
returns c =
    let l : length c.args.text.now ≤ c.loop-b.b-index = omega arith in
    rw (drop_of_length-le c.args.text.now l) at c.loop-b.invariant
