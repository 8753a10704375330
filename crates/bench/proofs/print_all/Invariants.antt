-- So many bytes were handed out of what the script prints, and the writer holds them, where it is known what it holds.
use Rattle.std.proofs.Common.{◌≡◌, length, take}
use Rattle.std.specs.Io.KnownBytes.{Appends}
use Rattle.model.specs.Model.{empty}
use Rattle.script.specs.Script.{run_script}
use Rattle.program.proofs.Placing.{Handing}
use Rattle.program.proofs.Whole.{calls_left}
use Rattle.bench.proofs.print_all.Given as goal

abbrev pub invariant-loop-run : goal.invariant-loop-run
invariant-loop-run g l = record {
  room : length l.buf ≡ 32768;
  handing : Handing empty l.script l.state l.run l.count;
  printed : Appends (g.W.Write.contents l.fn.out) (g.W.Write.contents l.out) (take l.count (run_script l.script));
}

abbrev pub decreases-loop-run : goal.decreases-loop-run
decreases-loop-run g l = calls_left l.script l.run
