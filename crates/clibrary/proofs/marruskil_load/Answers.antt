-- The load's own promise, with the answer's number. Assumes nothing.
use Rattle.state.specs.View.{told}
use Rattle.clibrary.proofs.marruskil_load.Goals as goal

pub returns : goal.returns
unfolding told
returns c = rw c.number_of.ensures c.load.ensures
