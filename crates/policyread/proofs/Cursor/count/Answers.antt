-- The lower of the next number and the most. Assumes nothing.
use Rattle.std.proofs.Common.{arith}
use Rattle.text.specs.Places.{at_most}
use Rattle.policyread.proofs.Cursor.count.Goals as goal

pub returns-clause-value : goal.returns-clause-value
unfolding at_most
returns-clause-value c = grind arith
