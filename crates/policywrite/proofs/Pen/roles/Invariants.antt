-- The roles passed are written after their count. Assumes nothing.
use mathlib.Core.List.{◌++◌}
use mathlib.Core.Path.{◌≡◌}
use Rattle.roleset.specs.Bounded.{members}
use Rattle.roleset.specs.Roles.{has}
use Rattle.text.specs.Bytes.{two, flat}
use Rattle.policywrite.specs.Parts.{Writes}
use Rattle.policywrite.proofs.Pen.roles.Given as goal

abbrev pub invariant-loop-r : goal.invariant-loop-r
invariant-loop-r l = record {
  written : Writes l.initial.self l.self (flat two l.yielded);
  ahead : l.yielded ++ members 64 (has l.r-iterator.rest) ≡ members 64 (has l.set);
}
