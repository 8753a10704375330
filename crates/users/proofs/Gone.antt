-- What the deletion of a user leaves. Assumes nothing.
use mathlib.Core.Bool.{false}
use mathlib.Core.Path.{◌≡◌, ap, ◌∙◌}
use Prim.Native.Nat.{ℕ, ◌-◌, ◌<◌}
use Rattle.roleset.specs.Roles.{count}
use Rattle.model.specs.Model.{Model, put, with_users, with_assignments}
use Rattle.model.specs.commands.Users.{without_user}
use Rattle.state.specs.Stores.{in_range}
use Rattle.state.proofs.Stored.{placed}

-- the assignments are none and are counted, and the user is gone
pub user-gone : (m between after : Model) (u standing : ℕ) → u < 256 → standing ≡ m.assignment_count - count (m.assigned u) → between ≡ in_range 256 u m (with_assignments m (put m.assigned u 0) standing) → after ≡ in_range 256 u between (with_users between (put between.users u false)) → after ≡ without_user m u
unfolding without_user
user-gone m between after u standing h counted e₁ e₂ =
    placed 256 u between _ after h e₂ ∙ ap (λ (x : Model). with_users x (put x.users u false))
    (placed 256 u m _ between h e₁ ∙ ap (with_assignments m (put m.assigned u 0)) counted)
