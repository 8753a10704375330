-- The number and LF, one after another. Assumes nothing.
use Rattle.text.proofs.Putting.{put_then}
use Rattle.reload.proofs.put_answer.Goals as goal

pub returns : goal.returns
returns c = put_then (rw c.number_of.ensures at c.put_number-last.ensures) c.put.ensures
