-- The part is written over, and the count is stored. Assumes nothing.
use native.Mathlib.Omega.{arith}
use Rattle.state.proofs.Stored.{lines_stored}
use Rattle.state.proofs.stores.put_lines.Goals as goal

pub returns : goal.returns
returns c = rw c.copy_from_slice.ensures.after (lines_stored c.args.state.now c.args.juniors.now (omega arith) (omega arith) c.args.standing)
