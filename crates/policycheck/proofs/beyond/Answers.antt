-- The owner's roles are walked for. Assumes nothing.
use mathlib.Core.Bool.{not}
use mathlib.Core.Path.{ap, ◌∙◌}
use Rattle.roleset.specs.Roles.{subset}
use Rattle.model.specs.Words.{reached}
use Rattle.state.specs.View.{view}
use Rattle.policycheck.proofs.beyond.Goals as goal

pub returns : goal.returns
returns c = ap not (c.subset.ensures.is ∙ ap (subset c.args.session.active) (c.reach-authorised.ensures.is ∙ ap (reached (view c.args.state.now)) c.held_by.ensures))
