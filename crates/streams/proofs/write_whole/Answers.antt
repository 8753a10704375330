-- What each write took comes after what was written before.
use Rattle.std.proofs.Common.{arith, ℕ, ◌≤◌, List, length, take, drop, subst, length-drop}
use Rattle.std.proofs.lemmas.List.{take_rest}
use Rattle.std.specs.Io.KnownBytes.{Appends}
use Rattle.streams.proofs.Writing.{writes_more}
use Rattle.streams.proofs.write_whole.Goals as goal

pub loop-done-preserved : goal.loop-done-preserved
loop-done-preserved g c =
    let rest = take_rest c.args.bytes.now c.loop-done.done in
    let took : c.in_ok-more.more ≤ length (drop c.loop-done.done c.args.bytes.now) = subst (λ (r : List ℕ). c.in_ok-more.more ≤ length r) rest c.in_ok-more.ensures.bound in
    record {
      within = omega (arith, took, c.loop-done.invariant.within, length-drop c.loop-done.done c.args.bytes.now);
      written = writes_more (g.W.Write.contents c.args.out.now) (g.W.Write.contents c.loop-done.out) (g.W.Write.contents c.write.new.self) _ _ _ c.loop-done.invariant.written (subst (λ (r : List ℕ). Appends (g.W.Write.contents c.loop-done.out) (g.W.Write.contents c.write.new.self) (take c.in_ok-more.more r)) rest c.in_ok-more.ensures.bytes);
    }
