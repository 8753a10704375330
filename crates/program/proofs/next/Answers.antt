-- What is printed next, by the four cases. Assumes nothing.
use mathlib.Core.Path.{refl}
use Rattle.text.proofs.Putting.{put-none}
use Rattle.program.proofs.Stages.{prints-at, at-over, at_total, at_too_long, at_line}
use Rattle.program.proofs.next.Goals as goal

pub returns-then-run : goal.returns-then-run
returns-then-run c = prints-at (at-over c.args.script.now c.args.run c.if-run.true) (record { text = put-none _ 0; run = λ i. record { progress = c.args.run.progress; over = c.if-run.true i } }) refl

pub returns-then-script-p : goal.returns-then-script-p
returns-then-script-p c =
    prints-at (at_total c.args.script.now c.args.run c.if-run.false c.if-script-p.true)
    (record { text = c.total_text-len.ensures; run = refl }) refl

pub returns-then-script-gt-LONGEST : goal.returns-then-script-gt-LONGEST
returns-then-script-gt-LONGEST c =
    prints-at (at_too_long c.args.script.now c.args.run c.if-run.false c.if-script-p.false c.if-script-gt-LONGEST.true)
    (record { text = c.refuse.ensures.text; run = c.refuse.ensures.run }) refl

pub returns : goal.returns
returns c =
    prints-at (at_line c.args.script.now c.args.run c.if-run.false c.if-script-p.false c.if-script-gt-LONGEST.false)
    (record { text = c.turn-t.ensures.text; run = λ i. record { progress = record { at = c.turn-t.ensures.place i; tally = c.turn-t.ensures.tally i }; over = c.if-run.false i } }) c.turn-t.ensures.state
