-- The part is written over, and the count is stored. Assumes nothing.
use native.Mathlib.Omega.{arith}
use Rattle.state.proofs.Stored.{assignments_stored}
use Rattle.state.proofs.stores.put_assignments.Goals as goal

pub returns : goal.returns
returns c = rw c.copy_from_slice.ensures.after (assignments_stored c.args.state.now c.args.assigned.now (omega arith) (omega arith) c.args.standing)
