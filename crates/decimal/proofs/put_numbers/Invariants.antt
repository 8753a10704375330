-- The numbers that were put so far stand in the buffer. Assumes nothing.
use lib.ListN.{take}
use Rattle.text.specs.Putting.{Put}
use Rattle.decimal.specs.Decimal.{numbered}
use Rattle.decimal.proofs.put_numbers.Given as goal

abbrev pub invariant-loop-number : goal.invariant-loop-number
invariant-loop-number l = Put l.initial.buf l.at (numbered (take l.number-index l.numbers)) l.buf l.next
