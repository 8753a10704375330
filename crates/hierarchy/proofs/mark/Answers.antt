-- Marking the places that are left gives what is asked. Assumes nothing.
use mathlib.Core.Path.{sym, ◌∙◌}
use lib.ListN.{length-set}
use Rattle.roleset.proofs.Laws.{has-none}
use Rattle.roleset.proofs.Taking.{next, at-end}
use Rattle.hierarchy.proofs.Marking.{mark-step}
use Rattle.hierarchy.proofs.mark.Goals as goal

pub bounds-t-at : goal.bounds-t-at
bounds-t-at c = (next c.loop-j.j-iterator.fits c.next.new.self.fits c.in-Some.ensures.steps).small

pub bounds-t-at-in-loop-j : goal.bounds-t-at-in-loop-j
bounds-t-at-in-loop-j c = (next c.loop-j.j-iterator.fits c.next.new.self.fits c.in-Some.ensures.steps).small

pub loop-j-preserved : goal.loop-j-preserved
loop-j-preserved c =
    let head = c.loop-j in
    let taken = next head.j-iterator.fits c.next.new.self.fits c.in-Some.ensures.steps in
    (length-set head.t c.in-Some.j c.with.result ∙ head.invariant.0, λ k l. rw (c.with.ensures.is, taken.rest) (mark-step head.t head.j-iterator.rest c.in-Some.j c.args.s head.invariant.0 taken.small taken.lowest.member k l ∙ head.invariant.1 k l))

pub returns : goal.returns
returns c =
    let head = c.loop-j in
    let none = at-end head.j-iterator.fits c.in-None.ensures.steps.0 in
    record { size = head.invariant.0; each = λ k l. sym (rw (none, has-none k)) ∙ head.invariant.1 k l }
