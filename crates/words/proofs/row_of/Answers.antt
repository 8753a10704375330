-- The row at the number, by the table. Assumes nothing.
use Rattle.words.proofs.Numbers.{row-told, row-word}
use Rattle.words.proofs.row_of.Goals as goal

pub returns : goal.returns
returns c =
    record {
      row = rw c.from.ensures at (row-told c.rows.result.now c.rows.ensures.rows _ _ c.get.ensures.lookup);
      word = rw c.from.ensures at (row-word c.rows.result.now c.rows.ensures.rows _ _ c.get.ensures.lookup c.rows.ensures.in_order);
    }
