-- The walk over the turned lines depends on the turned array only through its 64 places. Assumes nothing.
use mathlib.Core.Path.{◌∙◌}
use Rattle.roleset.specs.Roles.{none, with}
use Rattle.hierarchy.specs.Lines.{table_of}
use Rattle.hierarchy.specs.Walks.{turned, at_or_above}
use Rattle.hierarchy.proofs.WalkLaws.{reach-ext}
use Rattle.hierarchy.proofs.AboveLaws.{above-reaches}
use Rattle.hierarchy.proofs.at_or_above.Goals as goal

pub returns : goal.returns
unfolding at_or_above
returns c =
    let lines = table_of c.args.juniors.now in
    above-reaches lines c.args.r.number c.reach.result (c.reach.ensures.is ∙ rw c.with.ensures.is (reach-ext (table_of c.turned.result) (turned lines) (with none c.args.r.number) c.turned.ensures))
