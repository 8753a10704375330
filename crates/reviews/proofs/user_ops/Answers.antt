-- The operations on the object of the roles that one walk from the user's roles reaches. Assumes nothing.
use Rattle.std.proofs.Common.{rules}
use Rattle.model.specs.Questions.{ask, user_ops}
use Rattle.reviews.proofs.Meeting.{operations-listed}
use Rattle.reviews.proofs.Settling.{told_listed}
use Rattle.reviews.proofs.user_ops.Goals as goal

pub returns : goal.returns
unfolding ask user_ops
returns c = told_listed _ _ _ c.in_ok-named.ensures (search rules) c.has_user.ensures (λ e. operations-listed 16 _ _ _ (search rules)) c.list_ops.ensures
