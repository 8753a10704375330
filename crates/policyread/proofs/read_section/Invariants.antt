-- The state holds the entries read. Assumes nothing.
use Rattle.state.specs.View.{view}
use Rattle.policyread.specs.Steps.{Read}
use Rattle.policyread.proofs.InOrder.{repeated}
use Rattle.policyread.proofs.read_section.Given as goal

abbrev pub invariant-loop : goal.invariant-loop
invariant-loop g l = Read (repeated l.counter (g.S.Section.step l.section)) l.initial.file (view l.initial.state) l.file (view l.state)
