-- The longest chain: of exactly 64 roles, and it stands. Assumes nothing.
use Rattle.hierarchy.specs.Lines.{Chain}
use Rattle.model.specs.Model.{Model}
use Rattle.demands.specs.Reachable.{Reachable}

-- A policy that can be reached, in which a chain of 64 roles starts at role 0. (One of 65 starts nowhere: `chains` in `demands/specs/Demand3`.)
pub record LongestChain : Type 0 where
  pub policy : Model
  pub reached : Reachable policy
  pub chain : Chain policy.juniors 64 0
