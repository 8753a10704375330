-- The parts between the spaces are taken one by one: the first for a word, the others for numbers. Assumes nothing.
use mathlib.Core.Path.{◌≡◌}
use Prim.Native.Nat.{◌-◌}
use lib.ListN.{length}
use Rattle.reading.proofs.Gathering.{Gathers}
use Rattle.reading.proofs.gather.Given as goal

abbrev pub invariant-loop-reader : goal.invariant-loop-reader
invariant-loop-reader l = record { text : l.reader.src.now ≡ l.text; gathers : Gathers l.text l.numbers l.reader.at }

abbrev pub decreases-loop-reader : goal.decreases-loop-reader
decreases-loop-reader l = length l.text - l.reader.at
