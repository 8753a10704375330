-- The loop's invariant: each finding so far, with what the rest of the list holds, is that of the whole list. Assumes nothing.
use mathlib.Core.Path.{refl, sym, ◌∙◌}
use Prim.Native.Nat.{◌≤◌, ◌<◌}
use native.Mathlib.Omega.{arith}
use lib.ListN.{length}
use Rattle.roleset.proofs.Laws.{with-small}
use Rattle.lists.proofs.Turns.{turn_rising, turn_beyond, turn_joins, joining-start, end_rising, end_beyond, end_joins}
use Rattle.lists.proofs.read.Goals as goal

pub loop-r-init : goal.loop-r-init
loop-r-init c = (omega arith, refl, refl, joining-start _)

pub loop-r-preserved : goal.loop-r-preserved
loop-r-preserved c =
    let list = c.args.list.now in
    let at = c.loop-r in
    let l : at.r-index < length list = omega arith in (
      rw c.with-roles.ensures.is (with-small _ _),
      rw (c.from.ensures, c.from-bound.ensures) (turn_rising list at.r-index l at.ascending at.bound ∙ at.invariant.1),
      turn_beyond list at.r-index l at.beyond 64 ∙ at.invariant.2,
      rw c.with-roles.ensures.is (turn_joins list at.r-index l at.roles ∙ at.invariant.3),
    )

pub returns : goal.returns
returns c =
    let at = c.loop-r in
    let list = c.args.list.now in
    let l : length list ≤ at.r-index = omega arith in
    record {
      ascending = sym (end_rising list at.r-index l at.ascending at.bound) ∙ at.invariant.1;
      beyond = sym (end_beyond list at.r-index l at.beyond 64) ∙ at.invariant.2;
      roles = sym (end_joins list at.r-index l at.roles at.invariant.0) ∙ at.invariant.3;
    }
