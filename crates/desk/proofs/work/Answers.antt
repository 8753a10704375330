-- The state holds the policy that the file gives, or the file does not load. Assumes nothing.
use Rattle.desk.proofs.Going.{given, denied}
use Rattle.desk.proofs.work.Goals as goal

pub run_script-requires : goal.run_script-requires
run_script-requires g c = given _ _ (rw (c.start.ensures, c.in-Ok.is) at c.load.ensures)

pub refuse-requires : goal.refuse-requires
refuse-requires g c = denied _ _ _ (rw (c.start.ensures, c.in-Err.is) at c.load.ensures)
