-- One permission after the other, and past the last there are no grants. Assumes nothing.
use Rattle.std.proofs.Common.{◌≡◌, ◌∙◌, arith}
use Rattle.roles.proofs.Grants.{grants-start, grants-more, grants-end}
use Rattle.roles.proofs.ungrant_all.Goals as goal

pub loop-p-init : goal.loop-p-init
loop-p-init c = grants-start _ _

pub loop-p-preserved : goal.loop-p-preserved
loop-p-preserved c = grants-more _ _ _ _ _ (omega arith) c.loop-p.invariant c.ungrant.ensures

pub returns : goal.returns
returns c =
    let whole : c.loop-p.p ≡ 4096 = omega arith in
    (rw whole at c.loop-p.invariant) ∙ grants-end _ _
