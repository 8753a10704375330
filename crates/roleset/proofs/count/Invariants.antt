-- Of the roles passed, those in the set are counted. Assumes nothing.
use mathlib.Core.Path.{◌≡◌}
use Prim.Native.Nat.{◌≤◌, ◌-◌}
use Rattle.roleset.specs.Bounded.{tally}
use Rattle.roleset.specs.Roles.{has}
use Rattle.roleset.proofs.count.Given as goal

abbrev pub invariant-loop-r : goal.invariant-loop-r
invariant-loop-r l = (l.r ≤ 64) × (l.n ≡ tally l.r (has l.s))

abbrev pub decreases-loop-r : goal.decreases-loop-r
decreases-loop-r l = 64 - l.r
