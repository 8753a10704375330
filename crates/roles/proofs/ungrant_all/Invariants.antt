-- The loop's invariant: the role holds no permission below p any longer, and the kept count is as many less as held one. Assumes nothing.
use Rattle.std.proofs.Common.{◌≡◌}
use Rattle.state.specs.View.{view}
use Rattle.roles.proofs.Grants.{so_far}
use Rattle.roles.proofs.ungrant_all.Given as goal

abbrev pub invariant-loop-p : goal.invariant-loop-p
invariant-loop-p l = view l.state ≡ so_far l.p l.r.number (view l.initial.state)
