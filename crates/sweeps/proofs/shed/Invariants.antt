-- The loop's invariant: the places passed hold what their sessions keep. Assumes nothing.
use mathlib.Core.Path.{◌≡◌}
use Prim.Native.Nat.{ℕ, ◌<◌}
use Rattle.hierarchy.specs.Lines.{table_of}
use Rattle.model.specs.Words.{shedded}
use Rattle.state.specs.View.{part, view}
use Rattle.sweeps.proofs.shed.Given as goal

abbrev pub invariant-loop-k : goal.invariant-loop-k
invariant-loop-k l = (j : ℕ) → j < l.k → table_of l.kept-items j ≡ (shedded (table_of l.juniors) (part l.assigned 0 256) ((view l.state).sessions j)).active
