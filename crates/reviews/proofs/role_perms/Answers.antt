-- The permissions of the roles that one walk from the role reaches. Assumes nothing.
use Rattle.std.proofs.Common.{rules}
use Rattle.model.specs.Questions.{ask, role_perms}
use Rattle.reviews.proofs.Settling.{told_shared}
use Rattle.reviews.proofs.role_perms.Goals as goal

pub returns : goal.returns
unfolding ask role_perms
returns c = told_shared _ _ _ 4096 _ _ c.in_ok-named.ensures c.is_beyond.ensures c.has_role.ensures (search rules) c.holders.ensures c.list.ensures
