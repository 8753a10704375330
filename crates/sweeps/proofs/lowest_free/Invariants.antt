-- Looking from here on finds what looking from 0 on finds. Assumes nothing.
use mathlib.Core.Path.{◌≡◌}
use Prim.Native.Nat.{◌-◌}
use Rattle.model.specs.commands.Sessions.{free_from}
use Rattle.state.specs.View.{view}
use Rattle.sweeps.proofs.lowest_free.Given as goal

abbrev pub invariant-loop-number : goal.invariant-loop-number
invariant-loop-number l = free_from (view l.state).sessions (64 - l.number) l.number ≡ free_from (view l.state).sessions 64 0
