-- What it is to break a separation rule, in the paper's words; once for SSD and DSD. Assumes nothing.
use Rattle.std.specs.Prelude.{true, ◌≡◌, ℕ}
use Rattle.roleset.specs.Roles.{has}
use Rattle.model.specs.Model.{Model, RoleSet}
use Rattle.demands.specs.Authorised.{Authorised, Effective}
use Rattle.demands.specs.Many.{AsMany}

-- Somebody holds as many roles of one of the sets as its cardinality.
pub record Broken (sets : ℕ → RoleSet) (Holds : ℕ → ℕ → Type 0) : Type 0 where
  pub who : ℕ
  pub name : ℕ
  pub there : (sets name).there ≡ true
  pub many : AsMany (sets name).card (λ r. (has (sets name).roles r ≡ true) × Holds who r)

-- Some user is authorised (inheritance counted) for as many roles of a static set as its cardinality.
abbrev pub StaticBroken : Model → Type 0
StaticBroken m = Broken m.ssd (Authorised m)

-- Some session has as many roles of a dynamic set, each of them effective in it, as the set's cardinality: "a session may have fewer than n
-- effective roles of a dynamic set" (request 2).
abbrev pub DynamicBroken : Model → Type 0
DynamicBroken m = Broken m.dsd (Effective m)
