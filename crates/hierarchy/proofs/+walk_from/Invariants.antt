-- Each call allows the chain one role fewer. Assumes nothing.
use Rattle.hierarchy.proofs.+walk_from.Given as goal

abbrev pub decreases-walk_from : goal.decreases-walk_from
decreases-walk_from g l = l.allowed
