-- The loop's invariant: each finding so far, with what the rest of the list holds, is that of the whole list. Assumes nothing.
use mathlib.Core.Bool.{◌&&◌, ◌||◌}
use mathlib.Core.Path.{◌≡◌}
use Prim.Native.Nat.{◌<◌, ◌^◌}
use lib.ListN.{drop}
use Rattle.model.specs.Lists.{rising, some_from, set_of}
use Rattle.lists.proofs.Turns.{joining}
use Rattle.lists.proofs.read.Given as goal

abbrev pub invariant-loop-r : goal.invariant-loop-r
invariant-loop-r l = (l.roles < 2 ^ 64) × ((l.ascending && rising l.bound (drop l.r-index l.list)) ≡ rising 0 l.list) × ((l.beyond || some_from 64 (drop l.r-index l.list)) ≡ some_from 64 l.list) × (joining l.roles (drop l.r-index l.list) ≡ set_of l.list)
