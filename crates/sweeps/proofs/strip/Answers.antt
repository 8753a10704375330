-- The loop's invariant: the sets passed are without the role, and the others as before; those that had it are counted. Assumes nothing.
use mathlib.Core.Bool.{Bool}
use mathlib.Core.Path.{◌≡◌, refl, sym, ap, ◌∙◌}
use Prim.Native.Nat.{ℕ, ◌<◌}
use native.Mathlib.Omega.{arith}
use lib.ListN.{length}
use lib.Seq.{ext_get_or}
use Rattle.roleset.specs.Bounded.{bit, tally}
use Rattle.roleset.specs.Roles.{has, without}
use Rattle.roleset.proofs.BoundedLaws.{tally-le, tally-step}
use Rattle.hierarchy.specs.Lines.{table_of}
use Rattle.sweeps.proofs.Strips.{strip_at, strip_length}
use Rattle.sweeps.proofs.Sweeping.{swept_start, swept_store}
use Rattle.sweeps.proofs.strip.Goals as goal
use Rattle.sweeps.proofs.strip.Goals.{then-has, else-has}

pub loop-set-init : goal.loop-set-init
unfolding tally
loop-set-init c = (swept_start _ _ _ _ refl (λ k. refl), refl)

pub overflow_add-n : goal.overflow_add-n
overflow_add-n c =
    omega (arith, c.loop-set.invariant.1, tally-le c.loop-set.set-index (λ j. has (table_of c.args.table.now j) c.args.r.number))

pub loop-set-preserved : goal.loop-set-preserved
loop-set-preserved c =
    let first = c.args.table.now in
    let r = c.args.r.number in
    let k = c.loop-set.set-index in
    let l : k < length first = omega (arith, c.loop-set.invariant.0.long) in
    let here : table_of c.loop-set.table k ≡ table_of first k = c.loop-set.invariant.0.left k (omega arith) in
    let f : ℕ → Bool = λ j. has (table_of first j) r in
    let had : f k ≡ c.has.result = ap (λ (s : ℕ). has s r) (sym here) ∙ sym c.has.ensures in (
      swept_store _ _ (length first) k c.loop-set.table c.without.result l (c.without.ensures.is ∙ ap (λ (s : ℕ). without s r) here) c.loop-set.invariant.0,
      elim c.if-has.branch [
        | then-has w ↦ omega (arith, tally-step k f, ap bit (had ∙ w.if-has.true), w.n-is, c.loop-set.invariant.1)
        | else-has w ↦ omega (arith, tally-step k f, ap bit (had ∙ w.if-has.false), w.n-is, c.loop-set.invariant.1)
      ],
    )

pub shape_of-table : goal.shape_of-table
shape_of-table c = c.loop-set.invariant.0.long

pub returns : goal.returns
returns c =
    let first = c.args.table.now in
    let r = c.args.r.number in
    let s = c.loop-set.invariant.0 in
    let whole : c.loop-set.set-index ≡ length first = omega (arith, s.long) in
    record {
      stripped = ext_get_or 0 c.loop-set.table _ (s.long ∙ sym (strip_length first r)) (λ k p. s.done k (omega (arith, s.long)) ∙ sym (strip_at first r k));
      had = rw whole at c.loop-set.invariant.1;
    }
