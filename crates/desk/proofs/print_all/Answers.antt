-- Each piece stands next in what the script prints, and after the last one all of it was handed out. Assumes nothing.
use Rattle.std.proofs.Common.{arith, rules}
use Rattle.std.proofs.lemmas.Bool.{not-true, not-false}
use Rattle.streams.proofs.Writing.{on_err}
use Rattle.desk.proofs.Going.{begins, going_prints, going_writes, going_leaves, part_within, part_next, part_small, part_fewer, part_room, going_front, going_on}
use Rattle.desk.proofs.print_all.Goals as goal

pub loop-run-init : goal.loop-run-init
loop-run-init g c = record { room = search rules; going = begins _ _ _ _ _ c.requires.gives c.at_first-run.ensures }

pub slice_bounds-buf-end : goal.slice_bounds-buf-end
slice_bounds-buf-end g c = part_within _ _ _ _ _ _ _ _ _ _ _ c.loop-run.invariant.room c.loop-run.invariant.going (not-true _ c.loop-run-test.true) c.next-piece.ensures

pub invariant_of-next-clause-next : goal.invariant_of-next-clause-next
invariant_of-next-clause-next g c = ∣ part_next _ _ _ _ _ _ _ _ _ _ _ c.loop-run.invariant.room c.loop-run.invariant.going (not-true _ c.loop-run-test.true) c.next-piece.ensures ∣₁

pub invariant_of-next-clause-in_range : goal.invariant_of-next-clause-in_range
invariant_of-next-clause-in_range g c =
    omega (
      arith,
      c.requires.script_len_bound,
      part_small _ _ _ _ _ _ _ _ _ _ _ c.loop-run.invariant.room c.loop-run.invariant.going (not-true _ c.loop-run-test.true) c.next-piece.ensures,
    )

pub loop-run-smaller : goal.loop-run-smaller
loop-run-smaller g c = part_fewer _ _ _ _ _ _ _ _ _ _ _ c.loop-run.invariant.room c.loop-run.invariant.going (not-true _ c.loop-run-test.true) c.next-piece.ensures

pub loop-run-preserved : goal.loop-run-preserved
loop-run-preserved g c = record {
  room = part_room _ _ _ _ _ _ _ _ _ _ _ c.loop-run.invariant.room c.loop-run.invariant.going (not-true _ c.loop-run-test.true) c.next-piece.ensures;
  going = going_on _ _ _ _ _ _ _ _ _ _ _ c.loop-run.invariant.room c.loop-run.invariant.going (not-true _ c.loop-run-test.true) c.next-piece.ensures _ (g.W.Write.contents c.write_next.new.out) c.in_ok-count.ensures.counts c.in_ok-count.ensures.writes;
}

pub returns-clause-prints : goal.returns-clause-prints
returns-clause-prints g c = going_prints _ _ _ _ _ _ _ c.loop-run.invariant.going (not-false _ c.loop-run-test.false)

pub returns-clause-writes : goal.returns-clause-writes
returns-clause-writes g c = going_writes _ _ _ _ _ _ _ c.loop-run.invariant.going (not-false _ c.loop-run-test.false)

pub returns-clause-leaves : goal.returns-clause-leaves
returns-clause-leaves g c = going_leaves _ _ _ _ _ _ _ c.loop-run.invariant.going (not-false _ c.loop-run-test.false)

pub returns-in_err-count-clause-front : goal.returns-in_err-count-clause-front
returns-in_err-count-clause-front g c = on_err c.from_residual.result _ (going_front _ _ _ _ _ _ _ _ _ _ _ c.loop-run.invariant.room c.loop-run.invariant.going (not-true _ c.loop-run-test.true) c.next-piece.ensures (g.W.Write.contents c.write_next.new.out) c.in_err-count.ensures.front)
