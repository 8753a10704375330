-- The word, the two counts and LF, one after another. Assumes nothing.
use Rattle.text.proofs.Putting.{put_then}
use Rattle.script.specs.Script.{total_text}
use Rattle.script.proofs.total_text.Goals as goal

pub returns : goal.returns
unfolding total_text
returns c = put_then c.put_text-first.ensures (put_then c.put_numbers-last.ensures c.put.ensures)
