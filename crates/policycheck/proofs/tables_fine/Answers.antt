-- The five tests, in the words of the policy: the first that fails ends them. Assumes nothing.
use Rattle.std.proofs.Common.{arith, refl}
use Rattle.std.proofs.lemmas.Grind.{common_steps}
use Rattle.policycheck.proofs.Passing.{tells-no, of-table}
use Rattle.policycheck.proofs.Ranges.{roles-small}
use Rattle.policycheck.proofs.tables_fine.Goals as goal

pub returns-then-not-seniors : goal.returns-then-not-seniors
returns-then-not-seniors c = tells-no refl (λ p. let x = c.seniors.ensures.says p.seniors in grind (arith, common_steps))

pub returns-then-not-within : goal.returns-then-not-within
returns-then-not-within c =
    let lined = of-table c.juniors.ensures c.within.ensures in
    tells-no refl (λ p. let x = lined.says p.juniors in grind (arith, common_steps))

pub returns-then-not-assignees : goal.returns-then-not-assignees
returns-then-not-assignees c = tells-no refl (λ p. let x = c.assignees.ensures.says p.assignees in grind (arith, common_steps))

pub returns-then-not-within-2 : goal.returns-then-not-within-2
returns-then-not-within-2 c =
    let given = of-table c.assigned.ensures c.within-2.ensures in
    tells-no refl (λ p. let x = given.says p.assigned in grind (arith, common_steps))

pub returns : goal.returns
returns c =
    let lined = of-table c.juniors.ensures c.within.ensures in
    let given = of-table c.assigned.ensures c.within-2.ensures in
    let held = of-table c.holders.ensures c.within-3.ensures in
    record {
      holds = λ e. record {
        roles = roles-small c.args.state.now c.fits-state;
        seniors = c.seniors.ensures.holds (grind (arith, common_steps));
        juniors = lined.holds (grind (arith, common_steps));
        assignees = c.assignees.ensures.holds (grind (arith, common_steps));
        assigned = given.holds (grind (arith, common_steps));
        holders = held.holds e;
      };
      says = λ p. held.says p.holders;
    }
