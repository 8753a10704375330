-- The rule is asked of what the walk meets. Assumes nothing.
use mathlib.Core.Path.{◌≡◌, ap, ◌∙◌}
use Rattle.model.specs.Words.{breaks_some}
use Rattle.state.specs.View.{view}
use Rattle.sessions.proofs.breaks_dynamic.Goals as goal

pub returns : goal.returns
returns c =
    let m = view c.args.state.now in
    let ruled : c.breaks_some.result ≡ breaks_some m.dsd c.reach-effective.result = c.breaks_some.ensures in
    ruled ∙ ap (breaks_some m.dsd) c.reach-effective.ensures.is
