-- The table of the kind. Assumes nothing.
use Rattle.sweeps.proofs.own_roles.Goals as goal

pub returns-in-Dynamic : goal.returns-in-Dynamic
returns-in-Dynamic c = rw c.in-Dynamic.is c.active.ensures
