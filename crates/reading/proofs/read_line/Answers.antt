-- What was gathered is a line exactly where its rendering is the text. Assumes nothing.
use mathlib.Core.Path.{sym, ap, ◌∙◌}
use Rattle.reading.specs.Holding.{held}
use Rattle.reading.proofs.Gathering.{Gathered, gathered-is, not_gathered, too_long, line-misshapen, line-differs, line-read}
use Rattle.reading.proofs.read_line.Goals as goal
use Rattle.reading.proofs.read_line.Goals.{else-takes-via-then-takes+else-gives, else-takes-via-else-takes}

pub returns-then-long : goal.returns-then-long
returns-then-long c = sym (ap held (too_long c.args.text.now c.if-long.true))

pub returns-in_err-line : goal.returns-in_err-line
returns-in_err-line c = c.from_residual.ensures ∙ sym (ap held (not_gathered c.args.text.now c.if-long.false (sym c.gather.ensures ∙ c.in_err-line.was)))

pub returns-then-gives : goal.returns-then-gives
returns-then-gives c =
    let g : Gathered c.args.text.now c.in_ok-line.line = gathered-is _ _ (sym c.gather.ensures ∙ c.in_ok-line.was) in
    let same_numbers = c.as_slice-numbers.ensures in
    sym (line-read _ _ g c.if-long.false (rw (same_numbers, c.number-word.ensures) at (sym c.takes.ensures) ∙ c.if-takes.true) (rw same_numbers at (sym c.gives.ensures) ∙ c.if-gives.true))

pub returns-else-takes : goal.returns-else-takes
returns-else-takes c =
    let g : Gathered c.args.text.now c.in_ok-line.line = gathered-is _ _ (sym c.gather.ensures ∙ c.in_ok-line.was) in
    let same_numbers = c.as_slice-numbers.ensures in
    elim c.else-takes.branch [
      | else-takes-via-then-takes+else-gives w ↦ sym (line-differs _ _ g (rw same_numbers at (sym w.gives.ensures) ∙ w.if-gives.false))
      | else-takes-via-else-takes w ↦ sym (line-misshapen _ _ g (rw (same_numbers, c.number-word.ensures) at (sym c.takes.ensures) ∙ w.if-takes.false))
    ]
