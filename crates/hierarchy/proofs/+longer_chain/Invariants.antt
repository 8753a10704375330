-- Each call allows the chain one role fewer. Assumes nothing.
use Rattle.hierarchy.proofs.+longer_chain.Given as goal

abbrev pub decreases-longer_chain : goal.decreases-longer_chain
decreases-longer_chain l = l.allowed
