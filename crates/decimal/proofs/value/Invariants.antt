-- The digits passed have given their value, and the others are still to be taken. Assumes nothing.
use mathlib.Core.Path.{◌≡◌}
use lib.ListN.{drop}
use Rattle.decimal.specs.Decimal.{taken_from, value}
use Rattle.decimal.proofs.value.Given as goal

abbrev pub invariant-loop-b : goal.invariant-loop-b
invariant-loop-b l = taken_from l.v (drop l.b-index l.text) ≡ value l.text
