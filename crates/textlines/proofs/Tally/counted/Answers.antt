-- One line more, by value. Assumes nothing.
use Rattle.textlines.specs.Tallies.{counted, one_more}
use Rattle.textlines.proofs.Tally.counted.Goals as goal

pub returns-then-ok : goal.returns-then-ok
unfolding counted one_more
returns-then-ok c = rw (c.if-ok.true, c.saturating_add.ensures)

pub returns-else-ok : goal.returns-else-ok
unfolding counted one_more
returns-else-ok c = rw (c.if-ok.false, c.saturating_add-else-ok.ensures)
