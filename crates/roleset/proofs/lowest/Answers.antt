-- The lowest bit that is 1 is the lowest member; the number 0 has no bit that is 1. Assumes nothing.
use mathlib.Core.Path.{ap, ◌∙◌}
use Rattle.roleset.specs.Roles.{is_empty}
use Rattle.roleset.proofs.Laws.{is_empty-none, member-small}
use Rattle.roleset.proofs.Machine.{trailing-member}
use Rattle.roleset.proofs.Taking.{not-zero}
use Rattle.roleset.proofs.lowest.Goals as goal

pub returns-then-s-eq0 : goal.returns-then-s-eq0
returns-then-s-eq0 c = ap is_empty c.if-s-eq0.true ∙ is_empty-none

pub returns : goal.returns
returns c =
    let low = trailing-member c.args.s (not-zero c.args.s c.ranges.s.fits c.if-s-eq0.false) in
    (member-small c.args.s _ c.ranges.s.fits low.member, low)
