-- The state holds the entries read. Assumes nothing.
use native.Mathlib.Omega.{arith}
use Rattle.policyread.proofs.InOrder.{none_read, read_more, section_read}
use Rattle.policyread.proofs.read_section.Goals as goal

pub loop-init : goal.loop-init
loop-init g c = none_read _

pub loop-preserved : goal.loop-preserved
loop-preserved g c = read_more _ _ c.loop.invariant c.entry.ensures

pub returns : goal.returns
returns g c = section_read _ _ c.count-end.ensures.value c.count-end.ensures.left (omega arith) c.loop.invariant
