-- The rules that a file of the form may break: "Then 6 (a line from a role to itself too), 7, 9, 10, 11 .., lowest first." Assumes nothing.
use Rattle.std.specs.Prelude.{Bool, not, ◌&&◌, ◌||◌, List, [], ◌∷◌, ℕ}
use Rattle.roleset.specs.Bounded.{some}
use Rattle.roleset.specs.Roles.{subset}
use Rattle.hierarchy.specs.Walks.{circular}
use Rattle.model.specs.Model.{Model, RoleSet}
use Rattle.model.specs.Sheet.{Refusal, ◌when◌}
use Rattle.model.specs.Words.{authorised, static_broken, dynamic_broken}
use Rattle.model.specs.commands.Sets.{bad_cardinality}

-- "a cardinality would be below 2 or above its set's size"
unfoldable pub bad_set : (ℕ → RoleSet) → Bool
bad_set sets = some 16 (λ n. (sets n).there && bad_cardinality (sets n).card (sets n).roles)

-- "the owner is not authorised for an asked role"
unfoldable pub unauthorised : Model → Bool
unauthorised m = some 64 (λ s. not (subset (m.sessions s).active (authorised m (m.sessions s).owner)))

-- the rules, in the order of their numbers
unfoldable pub rules_broken : Model → List Refusal
rules_broken m =
    6 when circular m.juniors
    ∷ 7 when (bad_set m.ssd || bad_set m.dsd)
    ∷ 9 when unauthorised m
    ∷ 10 when some 256 (static_broken m)
    ∷ 11 when some 64 (dynamic_broken m)
    ∷ []
