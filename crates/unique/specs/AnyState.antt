-- Inheritance on any state, one that no call made included: its lines may run in a circle. Assumes nothing.
use Rattle.std.specs.Prelude.{true, List, ◌↔◌, ◌≡◌, ℕ, ◌≤◌}
use Rattle.roleset.specs.Roles.{has}
use Rattle.hierarchy.specs.Lines.{Small, Under}
use Rattle.model.specs.Words.{reached}
use Rattle.model.specs.commands.Sessions.{permitted, looked}
use Rattle.state.specs.View.{view}
use Rattle.demands.specs.Many.{HowMany}
use Rattle.unique.specs.Unique.{State}

pub record AnyState : Type 0 where
  -- Every line joins two roles 0 to 63.
  pub lines : (l : List ℕ) → State l → Small (view l).juniors
  -- So what the engine finds from a set of roles is these and all that they inherit, and no other,
  pub reaches : (l : List ℕ) → State l → (from r : ℕ) → (has (reached (view l) from) r ≡ true) ↔ Under (view l).juniors from r
  -- and the session s is permitted p exactly when one of its active roles, or a role that one inherits, holds it.
  pub permits : (l : List ℕ) → State l → (s p : ℕ) → (permitted (view l) s p ≡ true) ↔ ((r : ℕ) × Under (view l).juniors ((view l).sessions s).active r × (has ((view l).holders p) r ≡ true))
  -- To see that, a check looks at those of them that are above none that holds it: as many as `looked`, and 64 at most.
  pub looks : (l : List ℕ) → State l → (s p : ℕ) → HowMany (λ k. Under (view l).juniors ((view l).sessions s).active k × ((r : ℕ) → Under (view l).juniors ((view l).sessions s).active r → has ((view l).holders p) r ≡ true → k ≤ r)) (looked (view l) s p)
  pub at_most : (l : List ℕ) → State l → (s p : ℕ) → looked (view l) s p ≤ 64
