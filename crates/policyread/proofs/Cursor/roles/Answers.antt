-- The roles are those of the entries read. Assumes nothing.
use native.Mathlib.Omega.{arith}
use Rattle.policyread.specs.Steps.{read_role}
use Rattle.policyread.proofs.InOrder.{none_read, read_more, section_read, role_there}
use Rattle.policyread.proofs.Cursor.roles.Goals as goal

pub loop-init : goal.loop-init
loop-init c = none_read read_role

pub loop-preserved : goal.loop-preserved
loop-preserved c = read_more read_role _ c.loop.invariant (role_there c.word.ensures.value c.word.ensures.left c.with-roles.ensures.is)

pub returns : goal.returns
returns c = section_read read_role 64 c.count-end.ensures.value c.count-end.ensures.left (omega arith) c.loop.invariant
