-- Past the refusals the lowest free session is open for the user, and the dynamic rule was asked of the listed roles. Assumes nothing.
use mathlib.Core.Path.{◌≡◌}
use native.Mathlib.Omega.{arith}
use Rattle.model.specs.Sheet.{verdict, settle}
use Rattle.model.specs.Words.{reached, breaks_some}
use Rattle.model.specs.commands.Sessions.{session, opened}
use Rattle.state.specs.Results.{told_of}
use Rattle.state.specs.View.{view}
use Rattle.sessions.proofs.Rules.{asking}
use Rattle.sessions.proofs.session.Goals as goal

pub returns : goal.returns
unfolding told_of session settle verdict opened
returns c =
    let before = view c.args.state.now in
    let asked : c.breaks_dynamic.result ≡ breaks_some before.dsd (reached before c.read-asked.result.roles) = c.breaks_dynamic.ensures in
    grind (arith, asking)
