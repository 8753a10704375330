-- 0 is done, and every other number is read as a refusal, if one has it. Assumes nothing.
use Rattle.std.proofs.Common.{sym, Ok, Err}
use Rattle.numbers.proofs.Answers.{named_by, names_none}
use Rattle.numbers.proofs.answer_of.Goals as goal

pub returns-then-n-eq0 : goal.returns-then-n-eq0
returns-then-n-eq0 c = named_by (Ok tt) c.args.n c.if-n-eq0.true

pub returns-in-Ok : goal.returns-in-Ok
returns-in-Ok c = named_by (Err c.in-Ok.refusal) c.args.n (sym c.in-Ok.ensures)

pub returns-in-Err : goal.returns-in-Err
returns-in-Err c = names_none c.args.n c.if-n-eq0.false c.in-Err.ensures.1
