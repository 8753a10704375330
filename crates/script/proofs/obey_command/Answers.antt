-- The step's answer is put, with the session's number where one was opened. Assumes nothing.
use mathlib.Core.Path.{refl}
use Rattle.state.specs.Results.{told_of}
use Rattle.script.proofs.obey_command.Goals as goal

pub returns-in-Ok-Some : goal.returns-in-Ok-Some
unfolding told_of
returns-in-Ok-Some c = rw (← c.step.ensures, c.in-Ok-Some.is, c.in-Ok-Some.field-0-is) (record { puts = record { text = c.put_answer.ensures.text; ok = c.put_answer.ensures.ok }; state = refl })

pub returns-in-Ok-None : goal.returns-in-Ok-None
unfolding told_of
returns-in-Ok-None c = rw (← c.step.ensures, c.in-Ok-None.is, c.in-Ok-None.field-0-is) (record { puts = record { text = c.put_answer-in-Ok-None.ensures.text; ok = c.put_answer-in-Ok-None.ensures.ok }; state = refl })

pub returns-in-Err : goal.returns-in-Err
unfolding told_of
returns-in-Err c = rw (← c.step.ensures, c.in-Err.is) (record { puts = record { text = c.put_answer-in-Err.ensures.text; ok = c.put_answer-in-Err.ensures.ok }; state = refl })
