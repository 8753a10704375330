-- Marking the roles that are left gives what is asked. Assumes nothing.
use mathlib.Core.Path.{refl, ◌∙◌}
use native.Mathlib.Omega.{arith}
use Rattle.roleset.proofs.Laws.{has-without}
use Rattle.roleset.proofs.Taking.{Next, next, at-end}
use Rattle.hierarchy.specs.Lines.{table_of}
use Rattle.policyform.specs.Encode.{pair_in}
use Rattle.policywrite.proofs.Turning.{mark_within, none_left}
use Rattle.policywrite.proofs.mark.Goals as goal
use Rattle.policywrite.proofs.mark.Goals.{In-Some}

pub loop-r-init : goal.loop-r-init
loop-r-init c = λ k l. rw (c.into_iter-r-iterator.ensures.into_iter_gives, c.members-r-items.ensures) refl

-- the role taken is the next one that is left
taken : (c : In-Some) → Next c.loop-r.r-iterator.rest c.in-Some.r c.next.new.self.rest
taken c = next c.loop-r.r-iterator.fits c.next.new.self.fits c.in-Some.ensures.steps

pub loop-r-preserved : goal.loop-r-preserved
loop-r-preserved c =
    let head = c.loop-r in
    let t = taken (goal.at.loop-r-preserved c).In-Some in
    λ k l. rw c.with.ensures.is (mark_within head.rows _ c.in-Some.r c.args.p k (omega arith) t.small c.requires (omega arith) head.r-iterator.rest c.next.new.self.rest l t.lowest.member (λ m h. rw t.rest (has-without head.r-iterator.rest c.in-Some.r m h))) ∙ head.invariant k l

pub returns : goal.returns
returns c = λ k l. none_left (pair_in (table_of c.loop-r.rows) k) c.loop-r.r-iterator.rest _ k (at-end c.loop-r.r-iterator.fits c.in-None.ensures.steps.0) ∙ c.loop-r.invariant k l

pub bounds-rows-row : goal.bounds-rows-row
bounds-rows-row c = omega (arith, (taken (goal.at.bounds-rows-row c).In-Some).small)

pub bounds-rows-row-in-loop-r : goal.bounds-rows-row-in-loop-r
bounds-rows-row-in-loop-r c = omega (arith, (taken (goal.at.bounds-rows-row-in-loop-r c).In-Some).small)
