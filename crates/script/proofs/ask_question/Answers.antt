-- The review's results are those of the question asked with room for all. Assumes nothing.
use Rattle.script.proofs.Asking.{puts_told}
use Rattle.script.proofs.ask_question.Goals as goal

pub returns-in-Ok : goal.returns-in-Ok
returns-in-Ok c = puts_told _ _ c.ask.ensures (rw c.in-Ok.is c.put_answer.ensures.text) (rw c.in-Ok.is c.put_answer.ensures.ok)

pub returns-in-Err : goal.returns-in-Err
returns-in-Err c = puts_told _ _ c.ask.ensures (rw c.in-Err.is c.put_answer-in-Err.ensures.text) (rw c.in-Err.is c.put_answer-in-Err.ensures.ok)
