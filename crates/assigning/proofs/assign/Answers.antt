-- What the static rule is asked of: all that the user would be authorised for. Assumes nothing.
use Rattle.std.proofs.Common.{◌≡◌, arith}
use Rattle.roleset.specs.Roles.{with}
use Rattle.model.specs.Sheet.{verdict, settle}
use Rattle.model.specs.Words.{reached, breaks_some}
use Rattle.model.specs.commands.Assigning.{assign}
use Rattle.state.specs.View.{view, told}
use Rattle.assigning.proofs.Laws.{assigning}
use Rattle.assigning.proofs.assign.Goals as goal

pub returns-then-breaks_some : goal.returns-then-breaks_some
unfolding told assign settle verdict
returns-then-breaks_some c =
    let m = view c.args.state.now in
    let asked : c.breaks_some.result ≡ breaks_some m.ssd (reached m (with (m.assigned c.args.u.number) c.args.r.number)) = cc in
    grind (arith, assigning)
