-- The users whose set has the role: it meets the role alone. Assumes nothing.
use Rattle.model.specs.Questions.{ask, assigned_users}
use Rattle.reviews.proofs.Meeting.{having-listed}
use Rattle.reviews.proofs.Settling.{told_listed}
use Rattle.reviews.proofs.assigned_users.Goals as goal

pub returns : goal.returns
unfolding ask assigned_users
returns c = told_listed _ _ _ c.in_ok-named.ensures c.is_beyond.ensures c.has_role.ensures (λ e. having-listed 256 _ _ c.args.r.number _ c.assigned.ensures c.with.ensures.is e) c.list.ensures
