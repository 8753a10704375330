-- The value has at most twelve digits.
use Rattle.std.proofs.Common.{◌<◌}
use Rattle.speed.proofs.number.Given as goal

abbrev pub invariant-loop-byte : goal.invariant-loop-byte
invariant-loop-byte l =
    (goal.iterator-loop-byte).can_next l.byte-iterator ×
    (goal.iterator-loop-byte).is_finite l.byte-iterator ×
    (l.value < 1000000000000)
