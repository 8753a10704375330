-- The answer's line comes first and, where the file was loaded, the file again; then all was handed out. Assumes nothing.
use Rattle.std.proofs.Common.{arith, length-take, sym}
use Rattle.std.proofs.lemmas.Result.{IfOk-weaker, on_ok_weaker, on_err_weaker}
use Rattle.streams.proofs.Writing.{on_err}
use Rattle.reload.proofs.Pieces.{answered, answer_next, answer_all, answer_prints, answer_front, saved_fits, saved_next, saved_all, saved_prints, saved_front}
use Rattle.reload.proofs.print_all.Goals as goal

pub invariant_of-first-clause-next : goal.invariant_of-first-clause-next
invariant_of-first-clause-next g c =
    ∣ answer_next _ _ _ _ _ _ (answered _ c.start.new.state _ _ _ _ _ c.start.ensures c.load-answer.ensures c.put_answer-len.ensures (omega arith)) ∣₁

pub invariant_of-first-clause-in_range : goal.invariant_of-first-clause-in_range
invariant_of-first-clause-in_range g c = omega (arith, length-take c.put_answer-len.result c.put_answer-len.new.line)

pub returns-in_err-count-clause-front : goal.returns-in_err-count-clause-front
returns-in_err-count-clause-front g c =
    let x = answered _ c.start.new.state _ _ _ _ _ c.start.ensures c.load-answer.ensures c.put_answer-len.ensures (omega arith) in
    on_err c.from_residual.result _ (answer_front _ _ _ _ _ _ x (g.W.Write.contents c.args.out.now) (g.W.Write.contents c.write_next.new.out) c.in_err-count.ensures.front)

pub returns-then-is_err-clause-all : goal.returns-then-is_err-clause-all
returns-then-is_err-clause-all g c =
    let x = answered _ c.start.new.state _ _ _ _ _ c.start.ensures c.load-answer.ensures c.put_answer-len.ensures (omega arith) in
    answer_all _ _ _ _ _ _ x (sym c.if-is_err.ensures.value) _ c.in_ok-count.ensures.counts

pub returns-then-is_err-clause-prints : goal.returns-then-is_err-clause-prints
returns-then-is_err-clause-prints g c =
    let x = answered _ c.start.new.state _ _ _ _ _ c.start.ensures c.load-answer.ensures c.put_answer-len.ensures (omega arith) in
    answer_prints _ _ _ _ _ _ x (sym c.if-is_err.ensures.value) (g.W.Write.contents c.args.out.now) (g.W.Write.contents c.write_next.new.out) c.in_ok-count.ensures.writes

pub unwrap-size-requires : goal.unwrap-size-requires
unwrap-size-requires g c =
    let x = answered _ c.start.new.state _ _ _ _ _ c.start.ensures c.load-answer.ensures c.put_answer-len.ensures (omega arith) in
    saved_fits _ _ _ _ _ _ x (sym c.if-is_err.ensures.value) _ _ _ (omega arith) c.save.ensures

pub invariant_of-second-clause-next : goal.invariant_of-second-clause-next
invariant_of-second-clause-next g c =
    let x = answered _ c.start.new.state _ _ _ _ _ c.start.ensures c.load-answer.ensures c.put_answer-len.ensures (omega arith) in
    ∣ saved_next _ _ _ _ _ _ x (sym c.if-is_err.ensures.value) _ _ _ (omega arith) c.save.ensures _ c.unwrap-size.ensures _ c.in_ok-count.ensures.counts ∣₁

pub invariant_of-second-clause-in_range : goal.invariant_of-second-clause-in_range
invariant_of-second-clause-in_range g c =
    omega (
      arith,
      c.in_ok-count.ensures.counts,
      length-take c.put_answer-len.result c.put_answer-len.new.line,
      length-take c.unwrap-size.result c.save.new.out,
    )

pub returns-clause-all : goal.returns-clause-all
returns-clause-all g c =
    let x = answered _ c.start.new.state _ _ _ _ _ c.start.ensures c.load-answer.ensures c.put_answer-len.ensures (omega arith) in
    IfOk-weaker c.write_next-2.result _ _ (saved_all _ _ _ _ _ _ x (sym c.if-is_err.ensures.value) _ _ _ (omega arith) c.save.ensures _ c.unwrap-size.ensures _ c.in_ok-count.ensures.counts) c.write_next-2.ensures.counts

pub returns-clause-prints : goal.returns-clause-prints
returns-clause-prints g c =
    let x = answered _ c.start.new.state _ _ _ _ _ c.start.ensures c.load-answer.ensures c.put_answer-len.ensures (omega arith) in
    on_ok_weaker c.write_next-2.result (saved_prints _ _ _ _ _ _ x (sym c.if-is_err.ensures.value) _ _ _ (omega arith) c.save.ensures _ c.unwrap-size.ensures _ c.in_ok-count.ensures.counts (g.W.Write.contents c.args.out.now) (g.W.Write.contents c.write_next.new.out) (g.W.Write.contents c.write_next-2.new.out) c.in_ok-count.ensures.writes) c.write_next-2.ensures.writes

pub returns-clause-front : goal.returns-clause-front
returns-clause-front g c =
    let x = answered _ c.start.new.state _ _ _ _ _ c.start.ensures c.load-answer.ensures c.put_answer-len.ensures (omega arith) in
    on_err_weaker c.write_next-2.result (saved_front _ _ _ _ _ _ x (sym c.if-is_err.ensures.value) _ _ _ (omega arith) c.save.ensures _ c.unwrap-size.ensures _ c.in_ok-count.ensures.counts (g.W.Write.contents c.args.out.now) (g.W.Write.contents c.write_next.new.out) (g.W.Write.contents c.write_next-2.new.out) c.in_ok-count.ensures.writes) c.write_next-2.ensures.front
