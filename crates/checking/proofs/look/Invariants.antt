-- Of the roles that are looked at none holds the grant, and the others are still to come. Assumes nothing.
use mathlib.Core.Path.{◌≡◌}
use Prim.Native.Nat.{◌+◌}
use Rattle.checking.proofs.Looking.{found, seen}
use Rattle.checking.proofs.look.Given as goal

abbrev pub invariant-loop-r : goal.invariant-loop-r
invariant-loop-r l = (l.looked + seen l.r-iterator.rest l.holders ≡ seen l.roles l.holders) × (found l.r-iterator.rest l.holders ≡ found l.roles l.holders)
