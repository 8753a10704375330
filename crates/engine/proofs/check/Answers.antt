-- `check` has its two results at the front of the buffer, or none. Assumes nothing.
use mathlib.Core.Path.{◌≡◌}
use Rattle.std.proofs.Common.{rules}
use Rattle.std.specs.Prelude.{Err}
use Rattle.model.specs.Questions.{ask}
use Rattle.engine.proofs.Asking.{check_refused, check_done}
use Rattle.engine.proofs.check.Goals as goal

pub returns-in_err-found : goal.returns-in_err-found
unfolding ask
returns-in_err-found c =
    let same : c.from_residual.result ≡ Err c.in_err-found.field-0.0 = search rules in
    rw same (check_refused _ _ _ _ c.in_err-found.ensures)

pub returns : goal.returns
unfolding ask
returns c = check_done _ _ _ _ c.in_ok-found.ensures c.if-short.false
