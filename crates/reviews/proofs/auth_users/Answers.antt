-- The users whose set meets the roles at or above the role, found by one walk. Assumes nothing.
use Rattle.std.proofs.Common.{rules}
use Rattle.model.specs.Questions.{ask, auth_users}
use Rattle.reviews.proofs.Meeting.{turned-listed}
use Rattle.reviews.proofs.Settling.{told_listed}
use Rattle.reviews.proofs.auth_users.Goals as goal

pub returns : goal.returns
unfolding ask auth_users
returns c = told_listed _ _ _ c.in_ok-named.ensures c.is_beyond.ensures c.has_role.ensures (λ e. turned-listed 256 _ _ _ _ c.assigned.ensures (search rules)) c.list.ensures
