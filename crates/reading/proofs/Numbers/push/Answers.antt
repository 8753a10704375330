-- The number stands at the first place that was zero. Assumes nothing.
use native.Mathlib.Omega.{arith}
use Rattle.reading.proofs.Padding.{one_more}
use Rattle.reading.proofs.Numbers.push.Goals as goal

pub invariant_of-self : goal.invariant_of-self
invariant_of-self c = one_more _ _ c.self.invariant _ (omega arith)
