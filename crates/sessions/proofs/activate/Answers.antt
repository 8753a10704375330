-- Who is not authorised for the role does not activate it: it is asked among all the roles that the user's own inherit. Assumes nothing.
use mathlib.Core.Path.{◌≡◌}
use native.Mathlib.Omega.{arith}
use Rattle.roleset.specs.Roles.{has}
use Rattle.model.specs.Sheet.{verdict, settle}
use Rattle.model.specs.commands.Sessions.{activate}
use Rattle.state.specs.View.{told}
use Rattle.sessions.proofs.Rules.{asking}
use Rattle.sessions.proofs.activate.Goals as goal

pub returns-then-not-has : goal.returns-then-not-has
unfolding told activate settle verdict
returns-then-not-has c =
    let among : c.has-2.result ≡ has c.reach-authorised.result c.args.r.number = c.has-2.ensures in
    grind (arith, asking)
