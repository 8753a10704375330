-- The line that was read is obeyed or asked; a text that is no line is answered 14. Assumes nothing.
use mathlib.Core.Path.{◌≡◌, refl, sym, ◌∙◌}
use Prim.Native.Nat.{◌≤◌}
use lib.ListN.{length, drop}
use Rattle.std.proofs.lemmas.List.{take_rest}
use Rattle.model.proofs.Asking.{asked-same}
use Rattle.state.specs.View.{view}
use Rattle.words.specs.Rows.{number}
use Rattle.reading.specs.Form.{line, parse}
use Rattle.script.specs.Script.{obey, doing}
use Rattle.script.proofs.Reading.{read_right, read-wrong, enough, obeys}
use Rattle.script.proofs.answer_line.Goals as goal
use Rattle.script.proofs.answer_line.Goals.{After-before_list-from, After-meaning}

-- what the line tells is what its command or question tells
tells : (c : After-meaning) → obey (view c.args.state.now) c.args.text.now ≡ doing (view c.args.state.now) c.meaning.result (drop c.before_list-from.result c.as_slice-numbers.result.now)
tells c =
    let r : parse c.args.text.now ≡ line (number c.in-Some.line.word) c.in-Some.line.numbers = read_right _ _ (sym c.read_line.ensures ∙ c.in-Some.is) in
    rw (c.before_list-from.ensures, c.number-word.ensures, c.as_slice-numbers.ensures) (obeys _ _ r _ _ (rw (c.number-word.ensures, c.number_at-a.ensures, c.number_at-b.ensures, c.number_at-c.ensures, c.as_slice-numbers.ensures) at c.meaning.ensures))

start : (c : After-before_list-from) → c.before_list-from.result ≤ length c.as_slice-numbers.result.now
start c =
    let r : parse c.args.text.now ≡ line (number c.in-Some.line.word) c.in-Some.line.numbers = read_right _ _ (sym c.read_line.ensures ∙ c.in-Some.is) in
    rw (c.before_list-from.ensures, c.number-word.ensures, c.as_slice-numbers.ensures) (enough _ _ r)

pub slice_bounds-obey_command-count : goal.slice_bounds-obey_command-count
slice_bounds-obey_command-count c = start (goal.at.slice_bounds-obey_command-count c).After-before_list-from

pub slice_bounds-obey_command-start : goal.slice_bounds-obey_command-start
slice_bounds-obey_command-start c = start (goal.at.slice_bounds-obey_command-start c).After-before_list-from

pub returns-in-Some-Do : goal.returns-in-Some-Do
returns-in-Some-Do c = rw (tells (goal.at.returns-in-Some-Do c).After-meaning, c.in-Some-Do.is, c.in-Some-Do.field-0-is) (rw take_rest at c.obey_command.ensures)

pub returns-in-Some-Ask : goal.returns-in-Some-Ask
returns-in-Some-Ask c = rw (tells (goal.at.returns-in-Some-Ask c).After-meaning, c.in-Some-Ask.is, c.in-Some-Ask.field-0-is) (record { puts = c.ask_question.ensures; state = sym (asked-same _ _ _) })

pub returns-in-None : goal.returns-in-None
returns-in-None c = rw (tells (goal.at.returns-in-None c).After-meaning, c.in-None.is) (record { puts = record { text = c.put_answer-in-None.ensures.text; ok = c.put_answer-in-None.ensures.ok }; state = refl })

pub returns-in_default : goal.returns-in_default
unfolding obey
returns-in_default c = rw (read-wrong _ (sym c.read_line.ensures ∙ c.in_default.is)) (record { puts = record { text = c.put_answer.ensures.text; ok = c.put_answer.ensures.ok }; state = refl })
