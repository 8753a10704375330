-- Where the role does not hold the permission, nothing is stored. Assumes nothing.
use Rattle.std.proofs.Common.{◌<◌, ◌^◌, sym, ◌∙◌, arith}
use Rattle.state.specs.View.{view}
use Rattle.roles.proofs.Grants.{not_held}
use Rattle.roles.proofs.ungrant.Goals as goal

pub returns-else-has : goal.returns-else-has
returns-else-has c =
    let small : c.holders_of-old.result < 2 ^ 64 = omega arith in
    not_held (view c.args.state.now) c.args.p c.args.r.number c.holders_of-old.result c.holders_of-old.ensures small (sym c.has.ensures ∙ c.if-has.false)
