-- A set that is there is written. Assumes nothing.
use mathlib.Core.Path.{sym, ap, ◌∙◌}
use Rattle.model.specs.Model.{RoleSet}
use Rattle.model.specs.commands.Sets.{sets_of}
use Rattle.state.specs.View.{view}
use Rattle.policyform.specs.Encode.{set_entry}
use Rattle.policywrite.proofs.Appended.{entries_none, entry_written}
use Rattle.policywrite.proofs.SetsSection.put_at.Goals as goal

pub returns-then-set-clause-written : goal.returns-then-set-clause-written
returns-then-set-clause-written c =
    rw (sym (ap (λ (x : RoleSet). x.there) c.set_named-set.ensures) ∙ c.if-set.true)
    (entry_written (set_entry (sets_of c.args.self.now.kind (view c.args.self.now.state.now))) (rw (c.set_named-set.ensures, c.from.ensures) at c.entry.ensures))

pub returns-else-set-clause-written : goal.returns-else-set-clause-written
returns-else-set-clause-written c = rw (sym (ap (λ (x : RoleSet). x.there) c.set_named-set.ensures) ∙ c.if-set.false) (entries_none (set_entry (sets_of c.args.self.now.kind (view c.args.self.now.state.now))) c.args.pen.now)
