-- The most roles that a check can look at: all 64. Assumes nothing.
use Rattle.std.specs.Prelude.{[], ◌∷◌, ◌≡◌}
use Rattle.model.specs.Model.{Model}
use Rattle.model.specs.Sheet.{done}
use Rattle.model.specs.commands.Sessions.{check}
use Rattle.demands.specs.Reachable.{Reachable}

-- A policy that can be reached, in whose session 0 all 64 roles are effective. (More are never looked at: `at_most` in `demands/specs/Demand2`.)
pub record MostLooked : Type 0 where
  pub policy : Model
  pub reached : Reachable policy
  -- operation 4 on object 30 is held by role 63 alone, and on object 31 by none
  pub found : check policy 0 4 30 ≡ done (1 ∷ 64 ∷ []) policy
  pub not_found : check policy 0 4 31 ≡ done (0 ∷ 64 ∷ []) policy
