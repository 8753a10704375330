-- The answer's number, its results and LF, one after another. Assumes nothing.
use Rattle.text.specs.Putting.{Put}
use Rattle.text.proofs.Putting.{put_then}
use Rattle.decimal.specs.Decimal.{numbered}
use Rattle.script.specs.Script.{answer_text}
use Rattle.script.proofs.answer_text.Goals as goal

pub returns : goal.returns
unfolding answer_text
returns c =
    let results : Put c.put_number-first.new.buf c.put_number-first.result (numbered c.args.results.now) c.put_numbers-last.new.buf c.put_numbers-last.result = c.put_numbers-last.ensures in
    put_then c.put_number-first.ensures (put_then results c.put.ensures)
