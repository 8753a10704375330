-- The bytes that were put so far stand in the buffer. Assumes nothing.
use lib.ListN.{take}
use Rattle.text.specs.Putting.{Put}
use Rattle.text.proofs.put_text.Given as goal

abbrev pub invariant-loop-b : goal.invariant-loop-b
invariant-loop-b l = Put l.initial.buf l.at (take l.b-index l.text) l.buf l.next
