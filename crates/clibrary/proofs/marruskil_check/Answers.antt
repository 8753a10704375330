-- What `check` tells, with its results where the caller says. Assumes nothing.
use mathlib.Core.Path.{◌≡◌}
use Rattle.model.specs.commands.Sessions.{check}
use Rattle.state.specs.View.{view}
use Rattle.checking.specs.Answering.{told_checked}
use Rattle.clibrary.proofs.Calling.{check_sixteen, checked-done, checked_refused}
use Rattle.clibrary.proofs.marruskil_check.Goals as goal
use Rattle.clibrary.proofs.marruskil_check.Goals.{After-check}

-- what was asked with sixteen bits is what was asked
checks : (c : After-check) → told_checked (view c.args.state.now) c.check.result ≡ check (view c.args.state.now) c.args.session c.args.operation c.args.object
checks c = rw (← check_sixteen (view c.args.state.now) c.args.session c.args.operation c.args.object, ← c.sixteen.ensures, ← c.sixteen-2.ensures, ← c.sixteen-3.ensures) c.check.ensures

pub returns-in-Ok : goal.returns-in-Ok
returns-in-Ok c = rw c.from.ensures (checked-done _ c.args.res.now c.args.looked.now (checks (goal.at.returns-in-Ok c).After-check) c.in-Ok.is)

pub returns-in-Err : goal.returns-in-Err
returns-in-Err c = rw c.number_of.ensures (checked_refused _ c.args.res.now c.args.looked.now (checks (goal.at.returns-in-Err c).After-check) c.in-Err.is)
