-- A session that is open is written. Assumes nothing.
use mathlib.Core.Path.{sym, ap, ◌∙◌}
use Rattle.model.specs.Model.{Session}
use Rattle.state.specs.View.{view}
use Rattle.policyform.specs.Encode.{session_entry}
use Rattle.policywrite.proofs.Appended.{entries_none, entry_written}
use Rattle.policywrite.proofs.SessionsSection.put_at.Goals as goal

pub returns-then-session-clause-written : goal.returns-then-session-clause-written
returns-then-session-clause-written c =
    rw (sym (ap (λ (x : Session). x.live) c.session_at-session.ensures) ∙ c.if-session.true)
    (entry_written (session_entry (view c.args.self.now.state.now).sessions) (rw (c.session_at-session.ensures, c.from.ensures) at c.entry.ensures))

pub returns-else-session-clause-written : goal.returns-else-session-clause-written
returns-else-session-clause-written c = rw (sym (ap (λ (x : Session). x.live) c.session_at-session.ensures) ∙ c.if-session.false) (entries_none (session_entry (view c.args.self.now.state.now).sessions) c.args.pen.now)
