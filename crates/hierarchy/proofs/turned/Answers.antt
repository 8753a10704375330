-- Place k holds the seniors of k among the roles passed. Assumes nothing.
use mathlib.Core.Path.{◌≡◌, refl, sym, ◌∙◌}
use native.Mathlib.Omega.{arith}
use Rattle.hierarchy.specs.Lines.{table_of}
use Rattle.hierarchy.proofs.Marking.{seniors-begin, seniors-step, seniors-end, zeros}
use Rattle.hierarchy.proofs.turned.Goals as goal

pub loop-s-init : goal.loop-s-init
loop-s-init c = (refl, λ k l. zeros k l ∙ sym (seniors-begin (table_of c.args.juniors.now) k))

pub loop-s-preserved : goal.loop-s-preserved
loop-s-preserved c =
    let lines = table_of c.args.juniors.now in
    (c.mark.ensures.size, λ k l. c.mark.ensures.each k l ∙ rw (c.loop-s.invariant.1 k l) (seniors-step lines c.loop-s.s k))

pub returns : goal.returns
returns c = λ k l.
    let full : c.loop-s.s ≡ 64 = omega arith in
    c.loop-s.invariant.1 k l ∙ rw full (seniors-end (table_of c.args.juniors.now) k)
