-- The number 0 has no members; a set that is 0 without its lowest role has one. Assumes nothing.
use mathlib.Core.Path.{◌≡◌, sym, ap, ◌∙◌}
use native.Mathlib.Omega.{arith}
use borrow.Author.Tests.{eqb-true}
use Rattle.roleset.specs.Roles.{without, count}
use Rattle.roleset.proofs.Laws.{count_none, count-without, is_empty-zero}
use Rattle.roleset.proofs.few.Goals as goal

pub returns-in-None : goal.returns-in-None
returns-in-None c e = omega (arith, ap count (is_empty-zero c.args.s c.ranges.s.fits c.in-None.ensures) ∙ count_none)

pub returns-in-Some : goal.returns-in-Some
returns-in-Some c e =
    let r = c.in-Some.r in
    let low = c.in-Some.ensures in
    let rest : count (without c.args.s r) ≡ 0 = ap count (sym c.without.ensures.is ∙ eqb-true c.without.result 0 e) ∙ count_none in
    omega (arith, count-without c.args.s r low.0 low.1.member, rest)
