-- Past all three refusals, the stores take the line away, count it, and shed the sessions. Assumes nothing.
use Rattle.std.proofs.Common.{◌≡◌, ◌-◌, ◌<◌, arith}
use borrow.Author.Tests.{leb-false}
use Rattle.roleset.specs.Roles.{without}
use Rattle.model.specs.Sheet.{verdict, settle}
use Rattle.model.specs.Words.{shed}
use Rattle.model.specs.commands.Inheriting.{disinherit, unlined}
use Rattle.state.specs.View.{view, told}
use Rattle.sweeps.proofs.Shedding.{view-past}
use Rattle.inheriting.proofs.Laws.{unlined_stored}
use Rattle.inheriting.proofs.disinherit.Goals as goal

pub returns : goal.returns
unfolding told disinherit settle verdict
returns c =
    let m = view c.args.state.now in
    let senior = c.args.senior.number in
    let junior = c.args.junior.number in
    let place : senior < 64 = grind (arith, leb-false) in
    let new : c.without-fewer.result ≡ without (m.juniors senior) junior = cc in
    let left : c.saturating_sub-standing.result ≡ m.line_count - 1 = cc in
    let stored : view c.put_all_active.new.state ≡ shed (unlined m senior junior) = unlined_stored m senior junior place _ new _ _ _ c.juniors_table-juniors.ensures c.assigned_table-assigned.ensures c.shed-kept.ensures (view-past c.args.state.now) _ _ _ left c.put_juniors.ensures c.put_all_active.ensures in
    grind arith
