-- A circle among the lines is the lowest rule. Assumes nothing.
use mathlib.Core.Bool.{true}
use mathlib.Core.Path.{◌≡◌, sym}
use Rattle.std.proofs.Common.{rules}
use Rattle.hierarchy.specs.Walks.{circular}
use Rattle.model.specs.Sheet.{verdict}
use Rattle.policyform.specs.Rules.{rules_broken}
use Rattle.state.specs.View.{view}
use Rattle.policycheck.proofs.broken.Goals as goal

pub returns-then-circular : goal.returns-then-circular
unfolding rules_broken verdict
returns-then-circular c = let circling : circular (view c.args.state.now).juniors ≡ true = search rules in sym (rw circling)
