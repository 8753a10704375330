-- The operations on the object of the roles that one walk from the role reaches. Assumes nothing.
use Rattle.std.proofs.Common.{rules}
use Rattle.model.specs.Questions.{ask, role_ops}
use Rattle.reviews.proofs.Meeting.{operations-listed}
use Rattle.reviews.proofs.Settling.{told_listed}
use Rattle.reviews.proofs.role_ops.Goals as goal

pub returns : goal.returns
unfolding ask role_ops
returns c = told_listed _ _ _ c.in_ok-named.ensures (search rules) c.has_role.ensures (λ e. operations-listed 16 _ _ _ (search rules)) c.list_ops.ensures
