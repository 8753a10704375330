-- It is the walk with 64 roles allowed, begun with none met. Assumes nothing.
use mathlib.Core.Path.{◌∙◌}
use Rattle.hierarchy.specs.Walks.{reach}
use Rattle.hierarchy.proofs.Fronts.{walk-begun}
use Rattle.hierarchy.proofs.WalkLaws.{reach_reaches}
use Rattle.hierarchy.proofs.reach.Goals as goal

pub returns : goal.returns
unfolding reach
returns g c =
    let lines = g.L.Lines.table c.args.lines.now in
    reach_reaches lines c.args.from c.walk_from.result (c.walk_from.ensures ∙ walk-begun lines 64 c.args.from)
