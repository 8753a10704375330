-- The roles are those of the entries read. Assumes nothing.
use Rattle.policyread.specs.Steps.{Read, read_role}
use Rattle.policyread.proofs.InOrder.{repeated}
use Rattle.policyread.proofs.Cursor.roles.Given as goal

abbrev pub invariant-loop : goal.invariant-loop
invariant-loop l = Read (repeated l.counter read_role) l.initial.self 0 l.self l.roles
