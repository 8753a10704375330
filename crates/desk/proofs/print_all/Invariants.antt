-- So many bytes were handed out of what the script prints from the policy that the file gives, and the writer holds them, where it is known what it
-- holds.
use Rattle.std.proofs.Common.{◌≡◌, length}
use Rattle.desk.proofs.Going.{Going}
use Rattle.program.proofs.Whole.{calls_left}
use Rattle.desk.proofs.print_all.Given as goal

abbrev pub invariant-loop-run : goal.invariant-loop-run
invariant-loop-run g l = record {
  room : length l.buf ≡ 32768;
  going : Going l.job.file.now l.job.script.now l.state l.run l.count (g.W.Write.contents l.fn.out) (g.W.Write.contents l.out);
}

abbrev pub decreases-loop-run : goal.decreases-loop-run
decreases-loop-run g l = calls_left l.job.script.now l.run
