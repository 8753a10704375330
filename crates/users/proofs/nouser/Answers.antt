-- A user with open sessions is refused past the two tests before; past all three, what went with the user is counted. Assumes nothing.
use Rattle.std.proofs.Common.{◌≡◌, ◌-◌, arith}
use Rattle.roleset.specs.Roles.{count}
use Rattle.model.specs.Sheet.{verdict, settle, refused}
use Rattle.model.specs.commands.Users.{nouser, without_user}
use Rattle.state.specs.View.{view, told}
use Rattle.state.proofs.Stored.{storing}
use Rattle.users.proofs.nouser.Goals as goal

pub returns-then-has_open : goal.returns-then-has_open
unfolding told nouser settle verdict
returns-then-has_open c =
    let told_16 : refused 16 (view c.args.state.now) ≡ nouser (view c.args.state.now) c.args.u.number = grind (arith, storing) in
    told_16

pub returns : goal.returns
unfolding told nouser settle verdict without_user
returns c =
    let m = view c.args.state.now in
    let left : c.saturating_sub-left.result ≡ m.assignment_count - count (m.assigned c.args.u.number) = cc in
    grind (arith, storing)
