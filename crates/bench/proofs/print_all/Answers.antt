-- Each piece stands next in what the script prints, and after the last one all of it was handed out. Assumes nothing.
use borrow.Author.Tests.{not-true, not-false}
use Rattle.std.proofs.Common.{rules, arith, ◌≡◌, ℕ, ◌+◌, ◌≤◌, length, take, length-take-le, sym, ◌∙◌, subst}
use Rattle.model.specs.Model.{empty}
use Rattle.text.proofs.Putting.{put-length}
use Rattle.streams.specs.Writing.{Next}
use Rattle.streams.proofs.Writing.{writes_none, writes_on, writes_front, writes_all, on_err}
use Rattle.script.specs.Script.{run_script}
use Rattle.program.proofs.Placing.{Handing, hands-all, hands_none, hands_on, piece_within, piece_next, calls_fewer, count_small}
use Rattle.bench.proofs.print_all.Goals as goal

pub loop-run-init : goal.loop-run-init
loop-run-init g c = record {
  room = search rules;
  handing = hands-all _ _ _ _ c.begin-run.ensures.state c.begin-run.ensures.run;
  printed = writes_none _ (run_script c.args.script.now);
}

pub slice_bounds-buf-end : goal.slice_bounds-buf-end
slice_bounds-buf-end g c = piece_within _ _ _ _ _ _ _ _ _ (omega (arith, c.loop-run.invariant.room)) c.loop-run.invariant.handing (not-true _ c.loop-run-test.true) c.next-piece.ensures

pub invariant_of-next-clause-next : goal.invariant_of-next-clause-next
unfolding run_script
invariant_of-next-clause-next g c = ∣ piece_next _ _ _ _ _ _ _ _ _ (omega (arith, c.loop-run.invariant.room)) c.loop-run.invariant.handing (not-true _ c.loop-run-test.true) c.next-piece.ensures ∣₁

pub invariant_of-next-clause-in_range : goal.invariant_of-next-clause-in_range
invariant_of-next-clause-in_range g c =
    let room : 24582 ≤ length c.loop-run.buf = omega (arith, c.loop-run.invariant.room) in
    omega (
      arith,
      c.requires,
      count_small _ _ _ _ _ _ _ _ _ room c.loop-run.invariant.handing (not-true _ c.loop-run-test.true) c.next-piece.ensures,
      length-take-le c.next-piece.result.len c.next-piece.new.buf (piece_within _ _ _ _ _ _ _ _ _ room c.loop-run.invariant.handing (not-true _ c.loop-run-test.true) c.next-piece.ensures),
    )

pub loop-run-smaller : goal.loop-run-smaller
loop-run-smaller g c = calls_fewer _ _ _ _ _ _ _ _ _ (omega (arith, c.loop-run.invariant.room)) c.loop-run.invariant.handing (not-true _ c.loop-run-test.true) c.next-piece.ensures

pub loop-run-preserved : goal.loop-run-preserved
unfolding run_script
loop-run-preserved g c =
    let room : 24582 ≤ length c.loop-run.buf = omega (arith, c.loop-run.invariant.room) in
    let next : Next (run_script c.args.script.now) c.loop-run.count (take c.next-piece.result.len c.next-piece.new.buf) = piece_next _ _ _ _ _ _ _ _ _ room c.loop-run.invariant.handing (not-true _ c.loop-run-test.true) c.next-piece.ensures in
    let long : length (take c.next-piece.result.len c.next-piece.new.buf) ≡ c.next-piece.result.len = length-take-le _ _ (piece_within _ _ _ _ _ _ _ _ _ room c.loop-run.invariant.handing (not-true _ c.loop-run-test.true) c.next-piece.ensures) in
    let counted : c.in_ok-count.count ≡ c.loop-run.count + length (take c.next-piece.result.len c.next-piece.new.buf) = c.in_ok-count.ensures.counts in
    let wrote : c.in_ok-count.count ≡ c.loop-run.count + c.next-piece.result.len = omega (arith, counted, long) in
    record {
      room = put-length c.next-piece.ensures.puts.text ∙ c.loop-run.invariant.room;
      handing = subst (λ (n : ℕ). Handing empty c.args.script.now c.next-piece.new.state c.next-piece.result.run n) (sym wrote) (hands_on _ _ _ _ _ _ _ _ _ room c.loop-run.invariant.handing (not-true _ c.loop-run-test.true) c.next-piece.ensures);
      printed = writes_on (g.W.Write.contents c.args.out.now) (g.W.Write.contents c.loop-run.out) (g.W.Write.contents c.write_next.new.out) (run_script c.args.script.now) _ _ _ counted c.loop-run.invariant.printed c.in_ok-count.ensures.writes next;
    }

pub returns-clause-all : goal.returns-clause-all
unfolding run_script
returns-clause-all g c = hands_none _ _ _ _ _ c.loop-run.invariant.handing (not-false _ c.loop-run-test.false)

pub returns-clause-prints : goal.returns-clause-prints
unfolding run_script
returns-clause-prints g c = writes_all (g.W.Write.contents c.args.out.now) (g.W.Write.contents c.loop-run.out) (run_script c.args.script.now) _ (hands_none _ _ _ _ _ c.loop-run.invariant.handing (not-false _ c.loop-run-test.false)) c.loop-run.invariant.printed

pub returns-in_err-count-clause-front : goal.returns-in_err-count-clause-front
unfolding run_script
returns-in_err-count-clause-front g c =
    let room : 24582 ≤ length c.loop-run.buf = omega (arith, c.loop-run.invariant.room) in
    let next : Next (run_script c.args.script.now) c.loop-run.count (take c.next-piece.result.len c.next-piece.new.buf) = piece_next _ _ _ _ _ _ _ _ _ room c.loop-run.invariant.handing (not-true _ c.loop-run-test.true) c.next-piece.ensures in
    on_err c.from_residual.result _ (writes_front (g.W.Write.contents c.args.out.now) (g.W.Write.contents c.loop-run.out) (g.W.Write.contents c.write_next.new.out) (run_script c.args.script.now) _ _ c.loop-run.invariant.handing.within c.loop-run.invariant.printed next c.in_err-count.ensures.front)
