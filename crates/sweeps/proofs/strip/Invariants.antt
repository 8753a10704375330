-- The loop's invariant: the sets passed are without the role, and the others as before; those that had it are counted. Assumes nothing.
use mathlib.Core.Path.{◌≡◌}
use lib.ListN.{length}
use Rattle.roleset.specs.Bounded.{tally}
use Rattle.roleset.specs.Roles.{has, without}
use Rattle.hierarchy.specs.Lines.{table_of}
use Rattle.sweeps.proofs.Sweeping.{Swept}
use Rattle.sweeps.proofs.strip.Given as goal

abbrev pub invariant-loop-set : goal.invariant-loop-set
invariant-loop-set l = Swept (table_of l.initial.table) (λ j. without (table_of l.initial.table j) l.r.number) (length l.initial.table) l.set-index l.table × (l.n ≡ tally l.set-index (λ j. has (table_of l.initial.table j) l.r.number))
