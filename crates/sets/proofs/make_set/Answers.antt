-- Past the refusals the new set is stored, among those of its own kind. Assumes nothing.
use mathlib.Core.Path.{◌≡◌}
use native.Mathlib.Omega.{arith}
use Rattle.model.specs.Sheet.{verdict, settle}
use Rattle.model.specs.commands.Sets.{a_set, make_set}
use Rattle.state.specs.Stores.{in_range, set_stored}
use Rattle.state.specs.View.{view, told}
use Rattle.state.proofs.Stored.{storing}
use Rattle.sets.proofs.make_set.Goals as goal

pub returns : goal.returns
unfolding told make_set settle verdict
returns c =
    let before = view c.args.state.now in
    let stored : view c.put_set.new.state ≡ in_range 16 c.args.name.number before (set_stored c.args.kind before c.args.name.number (a_set c.args.n c.read-read.result.roles)) = c.put_set.ensures in
    grind (arith, storing)
