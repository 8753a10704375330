-- A user that exists is written. Assumes nothing.
use mathlib.Core.Path.{sym, ◌∙◌}
use Rattle.text.specs.Bytes.{two}
use Rattle.policywrite.proofs.Appended.{entries_none, entry_written}
use Rattle.policywrite.proofs.UsersSection.put_at.Goals as goal

pub returns-then-has_user-clause-written : goal.returns-then-has_user-clause-written
returns-then-has_user-clause-written c = rw (sym c.has_user.ensures ∙ c.if-has_user.true) (entry_written two (rw c.from.ensures at c.word.ensures))

pub returns-else-has_user-clause-written : goal.returns-else-has_user-clause-written
returns-else-has_user-clause-written c = rw (sym c.has_user.ensures ∙ c.if-has_user.false) (entries_none two c.args.pen.now)
