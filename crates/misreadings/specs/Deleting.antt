-- Engines that delete a user otherwise than in two moves. Whatever obeys demand 2 does none of this, on no policy that can be reached. Assumes nothing.
use Rattle.std.specs.Prelude.{true, false, List, ◌≡◌, ℕ}
use Rattle.numbers.specs.declared.User.{User}
use Rattle.model.specs.Model.{Model}
use Rattle.model.specs.declared.Command.TheVariants.{NoUser, EndAll}
use Rattle.demands.specs.Demand2.{Obeys, OpenOf}
use Rattle.demands.specs.Reachable.{Reachable}
use Rattle.misreadings.specs.ShutOut.{Engine}

-- Of an engine that obeys, a policy that can be reached, a user and any list:
pub record Deletes (engine : Engine) (m : Model) (v : User) (list : List ℕ) : Type 0 where
  -- `nouser` does not end a session, the user's or another's;
  pub ends_none : (s : ℕ) → (m.sessions s).live ≡ true → ((engine m (NoUser v) list).after.sessions s).live ≡ false → ⊥
  -- it is not done where a session of the user's is open, be it session 63 alone;
  pub forgets_none : (s : ℕ) → OpenOf m v.number s → (engine m (NoUser v) list).answer ≡ 0 → ⊥
  -- it is not refused for a session that is closed, whose owner is 0: where none of the user's is open it is not answered 16, user 0's deletion included.
  pub asks_open : ((s : ℕ) → OpenOf m v.number s → ⊥) → (engine m (NoUser v) list).answer ≡ 16 → ⊥
  -- `end-all` does not end a session of another.
  pub ends_own : (s : ℕ) → (OpenOf m v.number s → ⊥) → (m.sessions s).live ≡ true → ((engine m (EndAll v) list).after.sessions s).live ≡ false → ⊥

abbrev pub DeletingShutOut : Type 0
DeletingShutOut = (engine : Engine) → Obeys engine → (m : Model) → Reachable m → (v : User) (list : List ℕ) → Deletes engine m v list
