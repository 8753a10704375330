-- The part from the place to its end; past the text it is empty. Assumes nothing.
use mathlib.Core.Path.{◌≡◌, sym, ap, ◌∙◌}
use Prim.Native.Nat.{ℕ, ◌≤◌, ◌-◌}
use native.Mathlib.Omega.{arith}
use lib.ListN.{length, take, drop}
use Rattle.textlines.specs.Parts.{part_at}
use Rattle.textlines.proofs.Laws.{part_within, part_front, part_none}
use Rattle.textlines.proofs.part_at.Goals as goal

pub slice_bounds-result-end : goal.slice_bounds-result-end
slice_bounds-result-end c = omega (arith, c.end_of-end.ensures, part_within c.args.stop c.args.s.now c.args.at c.if-at-s.true)

pub returns-then-at-s : goal.returns-then-at-s
returns-then-at-s c =
    let e : c.end_of-end.result - c.args.at ≡ length (part_at c.args.stop c.args.s.now c.args.at) = omega (arith, c.end_of-end.ensures) in
    ap (λ (n : ℕ). take n (drop c.args.at c.args.s.now)) e ∙ part_front c.args.stop c.args.s.now c.args.at

pub returns-else-at-s : goal.returns-else-at-s
returns-else-at-s c = let h : length c.args.s.now ≤ c.args.at = omega arith in sym (part_none c.args.stop c.args.s.now c.args.at h)
