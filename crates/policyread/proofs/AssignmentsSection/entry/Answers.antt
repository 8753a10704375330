-- The assignment that the next two numbers name is added. Assumes nothing.
use mathlib.Core.Path.{◌∙◌}
use Rattle.policyread.specs.Steps.{assignment_added}
use Rattle.policyread.proofs.InOrder.{pair_there}
use Rattle.policyread.proofs.AssignmentsSection.entry.Goals as goal

pub returns : goal.returns
returns c =
    pair_there assignment_added c.word.ensures.value c.word.ensures.left c.word-2.ensures.value c.word-2.ensures.left
    (c.put_assigned.ensures ∙ rw (c.with-roles.ensures.is, c.assigned_to.ensures))
