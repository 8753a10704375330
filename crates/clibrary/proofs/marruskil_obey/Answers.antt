-- With room for the longest answer line the line is obeyed at once; else aside, or on a copy. Assumes nothing.
use mathlib.Core.Logic.{inr}
use native.Mathlib.Omega.{arith}
use Prim.Native.Nat.{◌≤◌}
use lib.ListN.{length}
use Rattle.state.specs.View.{view}
use Rattle.script.specs.Script.{obey}
use Rattle.clibrary.specs.Calls.{answer_line}
use Rattle.clibrary.proofs.Calling.{longest-answer, put_whole, obeys_tried}
use Rattle.clibrary.proofs.marruskil_obey.Goals as goal

pub returns-then-out-lt-LONGEST_ANSWER : goal.returns-then-out-lt-LONGEST_ANSWER
returns-then-out-lt-LONGEST_ANSWER c = rw c.unwrap_or-then-out-lt-LONGEST_ANSWER.ensures (obeys_tried (view c.args.state.now) c.args.line.now c.obey_aside.result (omega (arith, c.if-out-lt-LONGEST_COMMAND.false)) c.obey_aside.ensures)

pub returns : goal.returns
returns c =
    let answers = c.answer_line.ensures in
    let room : length (answer_line (obey (view c.args.state.now) c.args.line.now)) ≤ length c.args.out.now = omega (arith, longest-answer.holds (view c.args.state.now) c.args.line.now, c.if-out-lt-LONGEST_ANSWER.false) in
    inr (record { fits = room; long = put_whole answers.puts.text room; stored = answers.puts.text.holds; state = answers.state })
