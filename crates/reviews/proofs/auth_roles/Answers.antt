-- The roles that one walk from the user's roles reaches. Assumes nothing.
use mathlib.Core.Path.{ap}
use Prim.Native.Nat.{ℕ}
use Rattle.std.proofs.Common.{rules}
use Rattle.roleset.specs.Bounded.{members}
use Rattle.roleset.specs.Roles.{has}
use Rattle.model.specs.Questions.{ask, auth_roles}
use Rattle.reviews.proofs.Settling.{told_listed}
use Rattle.reviews.proofs.auth_roles.Goals as goal

pub returns : goal.returns
unfolding ask auth_roles
returns c = told_listed _ _ _ c.in_ok-named.ensures c.is_beyond.ensures c.has_user.ensures (λ e. ap (λ (w : ℕ). members 64 (has w)) (search rules)) c.list_roles.ensures
