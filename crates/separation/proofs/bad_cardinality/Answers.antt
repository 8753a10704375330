-- Below 2 it is bad, however many roles there are. Assumes nothing.
use borrow.Author.Tests.{lt-ltb}
use Rattle.separation.proofs.bad_cardinality.Goals as goal

pub returns-then-few : goal.returns-then-few
returns-then-few c = rw (lt-ltb c.args.n 2 c.if-few.true)
