-- `assign`, `deassign`, `grant`, `revoke`. Assumes nothing.
use Rattle.std.specs.Prelude.{not, ◌||◌, [], ◌∷◌, ℕ, ◌+◌, ◌-◌, leb}
use Rattle.roleset.specs.Roles.{has, with, without}
use Rattle.numbers.specs.Ranges.{most_assignments, most_grants}
use Rattle.model.specs.Model.{Model, put, with_assignments, with_grants}
use Rattle.model.specs.Sheet.{Told, ◌when◌, settle}
use Rattle.model.specs.Words.{static_broken, permission, shed}
use Rattle.model.specs.commands.Naming.{user_beyond, role_beyond, permission_beyond, user_missing, role_missing}

-- the role r is assigned to the user u, one assignment more; it no longer is, one less
unfoldable pub assigned : Model → ℕ → ℕ → Model
assigned m u r = with_assignments m (put m.assigned u (with (m.assigned u) r)) (m.assignment_count + 1)

unfoldable pub deassigned : Model → ℕ → ℕ → Model
deassigned m u r = with_assignments m (put m.assigned u (without (m.assigned u) r)) (m.assignment_count - 1)

-- "`assign u r`: 1, 2, 4, 10, 12." The static rule is asked of u, the only user it can break for
unfoldable pub assign : Model → ℕ → ℕ → Told
assign m u r =
    settle
    (1 when (user_beyond u || role_beyond r)
    ∷ 2 when (user_missing m u || role_missing m r)
    ∷ 4 when has (m.assigned u) r
    ∷ 10 when static_broken (assigned m u r) u
    ∷ 12 when leb most_assignments m.assignment_count
    ∷ [])
    m
    []
    (assigned m u r)

-- "`deassign u r`: 1, 2, 5, then sheds."
unfoldable pub deassign : Model → ℕ → ℕ → Told
deassign m u r =
    settle
    (1 when (user_beyond u || role_beyond r)
    ∷ 2 when (user_missing m u || role_missing m r)
    ∷ 5 when not (has (m.assigned u) r)
    ∷ [])
    m
    []
    (shed (deassigned m u r))

-- the role r holds the permission p, one grant more; it no longer does, one less
unfoldable pub granted : Model → ℕ → ℕ → Model
granted m p r = with_grants m (put m.holders p (with (m.holders p) r)) (m.grant_count + 1)

unfoldable pub revoked : Model → ℕ → ℕ → Model
revoked m p r = with_grants m (put m.holders p (without (m.holders p) r)) (m.grant_count - 1)

-- "`grant op obj r`: 1, 2, 4, 12."
unfoldable pub grant : Model → ℕ → ℕ → ℕ → Told
grant m op obj r =
    settle
    (1 when (permission_beyond op obj || role_beyond r)
    ∷ 2 when role_missing m r
    ∷ 4 when has (m.holders (permission op obj)) r
    ∷ 12 when leb most_grants m.grant_count
    ∷ [])
    m
    []
    (granted m (permission op obj) r)

-- "`revoke op obj r`: 1, 2, 5."
unfoldable pub revoke : Model → ℕ → ℕ → ℕ → Told
revoke m op obj r =
    settle
    (1 when (permission_beyond op obj || role_beyond r)
    ∷ 2 when role_missing m r
    ∷ 5 when not (has (m.holders (permission op obj)) r)
    ∷ [])
    m
    []
    (revoked m (permission op obj) r)
