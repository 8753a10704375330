-- Two words as statements, in the paper's own terms, with nothing computed. Assumes nothing.
use Rattle.std.specs.Prelude.{true, ◌⊎◌, ◌≡◌, ℕ}
use Rattle.roleset.specs.Roles.{has}
use Rattle.hierarchy.specs.Lines.{Inherits}
use Rattle.model.specs.Model.{Model}

-- The role r is in the set, or a role of the set inherits it.
abbrev pub InOrBelow : Model → ℕ → ℕ → Type 0
InOrBelow m set r = (has set r ≡ true) ⊎ ((a : ℕ) × (has set a ≡ true) × Inherits m.juniors a r)

-- "Authorised: a user is authorised for an existing role if assigned to it or to a role that inherits it."
pub record Authorised (m : Model) (u r : ℕ) : Type 0 where
  pub exists : has m.roles r ≡ true
  pub through : InOrBelow m (m.assigned u) r

-- "Effective roles of a session: its active roles and all roles these inherit"
pub record Effective (m : Model) (s r : ℕ) : Type 0 where
  pub exists : has m.roles r ≡ true
  pub through : InOrBelow m (m.sessions s).active r
