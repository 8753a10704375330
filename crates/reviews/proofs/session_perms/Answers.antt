-- The permissions of the roles that one walk from the active roles reaches. Assumes nothing.
use Rattle.std.proofs.Common.{rules}
use Rattle.model.specs.Questions.{ask, session_perms}
use Rattle.reviews.proofs.Settling.{told_shared}
use Rattle.reviews.proofs.session_perms.Goals as goal

pub returns : goal.returns
unfolding ask session_perms
returns c = told_shared _ _ _ 4096 _ _ c.in_ok-named.ensures c.is_beyond.ensures (search rules) (search rules) c.holders.ensures c.list.ensures
