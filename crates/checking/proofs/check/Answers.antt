-- Past the refusals the roles that the walk meets are looked at. Assumes nothing.
use mathlib.Core.Path.{◌≡◌}
use native.Mathlib.Omega.{arith}
use Rattle.model.specs.Sheet.{verdict, settle}
use Rattle.model.specs.commands.Sessions.{check, permitted, looked}
use Rattle.state.specs.Results.{told_of}
use Rattle.checking.proofs.Looking.{found, seen}
use Rattle.checking.proofs.check.Goals as goal

pub returns : goal.returns
unfolding told_of check settle verdict permitted looked
returns c =
    let roles = c.reach-effective.result in
    let holders = c.holders_of-holders.result in
    let answered : c.look.result ≡ record { yes = found roles holders; looked = seen roles holders } = c.look.ensures in
    grind arith
