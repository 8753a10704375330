-- What is met so far, with the juniors of the roles that are left, is what is asked. Assumes nothing.
use mathlib.Core.Path.{◌≡◌, sym, ◌∙◌}
use native.Mathlib.Omega.{arith}
use Rattle.std.proofs.Common.{rules}
use Rattle.roleset.proofs.Laws.{union-small}
use Rattle.roleset.proofs.Taking.{next, at-end}
use Rattle.hierarchy.proofs.Fronts.{juniors_step, juniors_begin, juniors_end}
use Rattle.hierarchy.proofs.juniors_of.Goals as goal

pub loop-s-init : goal.loop-s-init
loop-s-init g c =
    let all : c.into_iter-s-iterator.result.rest ≡ c.args.front = search rules in
    (omega arith, rw all (juniors_begin (g.L.Lines.table c.args.lines.now) c.args.front))

pub loop-s-preserved : goal.loop-s-preserved
loop-s-preserved g c =
    let lines = g.L.Lines.table c.args.lines.now in
    let at = c.loop-s in
    let taken = next at.s-iterator.fits c.next.new.self.fits c.in-Some.ensures.steps in
    (rw c.union-met.ensures.is (union-small _ _), rw (c.union-met.ensures.is, c.below.ensures, taken.rest) (juniors_step lines at.s-iterator.rest c.in-Some.s taken.small taken.lowest.member at.met ∙ at.invariant.1))

pub returns : goal.returns
returns g c =
    let at = c.loop-s in
    let none = at-end at.s-iterator.fits c.in-None.ensures.steps.0 in
    sym (juniors_end (g.L.Lines.table c.args.lines.now) at.met at.invariant.0) ∙ (rw none at at.invariant.1)
