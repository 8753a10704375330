-- Past all three refusals, the role is gone from every table, what went is counted, and the sessions shed. Assumes nothing.
use Rattle.std.proofs.Common.{◌≡◌, ◌<◌, arith}
use borrow.Author.Tests.{leb-false}
use Rattle.model.specs.Sheet.{verdict, settle}
use Rattle.model.specs.Words.{shed}
use Rattle.model.specs.commands.Users.{norole, without_role, in_set}
use Rattle.state.specs.View.{view, told}
use Rattle.roles.proofs.Gone.{few, role_gone}
use Rattle.roles.proofs.norole.Goals as goal

-- at most 64 lines go to the role, and at most 64 from it
pub overflow_add-lines : goal.overflow_add-lines
overflow_add-lines c =
    omega (arith, few _ _ _ _ c.juniors_table.ensures c.strip-above.ensures, c.count-below.ensures.1)

pub returns : goal.returns
unfolding told norole settle verdict
returns c =
    let dynamic : c.in_set-else-in_set.result ≡ in_set (view c.args.state.now).dsd c.args.r.number = cc in
    let place : c.args.r.number < 64 = grind (arith, leb-false) in
    let stored : view c.put_all_active.new.state ≡ shed (without_role (view c.args.state.now) c.args.r.number) = role_gone c.args.state.now _ _ _ _ c.args.r.number _ _ c.shed-kept.result place c.juniors_table.ensures c.assigned_table.ensures c.strip-above.ensures c.strip.ensures c.shed-kept.ensures _ _ _ c.count-below.ensures.0 c.put_without.ensures c.put_all_active.ensures in
    grind arith
