-- What is met so far, with the juniors of the roles that are left, is what is asked. Assumes nothing.
use mathlib.Core.Path.{◌≡◌}
use Prim.Native.Nat.{◌^◌, ◌<◌}
use Rattle.roleset.specs.Roles.{union}
use Rattle.hierarchy.specs.Walks.{juniors_of}
use Rattle.hierarchy.proofs.juniors_of.Given as goal

abbrev pub invariant-loop-s : goal.invariant-loop-s
invariant-loop-s g l = (l.met < 2 ^ 64) × (union l.met (juniors_of (g.L.Lines.table l.lines) l.s-iterator.rest) ≡ juniors_of (g.L.Lines.table l.lines) l.front)
