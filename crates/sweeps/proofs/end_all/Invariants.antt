-- The loop's invariant: the sessions passed are ended if they are the user's, and all else is as before. Assumes nothing.
use Rattle.state.specs.View.{view}
use Rattle.sweeps.proofs.SweepSteps.{Ended}
use Rattle.sweeps.proofs.end_all.Given as goal

abbrev pub invariant-loop-k : goal.invariant-loop-k
invariant-loop-k l = Ended (view l.initial.state) l.u.number l.k (view l.state)
