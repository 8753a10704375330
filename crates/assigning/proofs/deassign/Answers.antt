-- Past all three refusals, the stores take the role from the user's, count it, and shed the sessions. Assumes nothing.
use Rattle.std.proofs.Common.{◌≡◌, ◌-◌, ◌<◌, arith}
use borrow.Author.Tests.{leb-false}
use Rattle.roleset.specs.Roles.{without}
use Rattle.model.specs.Sheet.{verdict, settle}
use Rattle.model.specs.Words.{shed}
use Rattle.model.specs.commands.Assigning.{deassign, deassigned}
use Rattle.state.specs.View.{view, told}
use Rattle.assigning.proofs.Laws.{deassigned_stored}
use Rattle.assigning.proofs.deassign.Goals as goal

pub returns : goal.returns
unfolding told deassign settle verdict
returns c =
    let m = view c.args.state.now in
    let u = c.args.u.number in
    let r = c.args.r.number in
    let place : u < 256 = grind (arith, leb-false) in
    let new : c.without-new.result ≡ without (m.assigned u) r = cc in
    let left : c.saturating_sub-left.result ≡ m.assignment_count - 1 = cc in
    let stored : view c.put_all_active.new.state ≡ shed (deassigned m u r) = deassigned_stored c.args.state.now _ _ u r _ _ place new c.juniors_table-juniors.ensures c.assigned_table-assigned.ensures c.shed-kept.ensures _ _ _ left c.put_assigned.ensures c.put_all_active.ensures in
    grind arith
