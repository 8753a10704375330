-- "At most 2,048 assignments, 2,048 grants, 512 direct lines and 64 open sessions stand at once." The first three are too many for a table of lines, so
-- this is said of every policy of the engine's own. Assumes nothing.
use Rattle.std.specs.Prelude.{List, [], ◌≡◌, ℕ, ◌≤◌, ◌<◌}
use Rattle.numbers.specs.declared.Role.{Role}
use Rattle.numbers.specs.declared.User.{User}
use Rattle.model.specs.Model.{Model}
use Rattle.model.specs.Sheet.{Told}
use Rattle.model.specs.Step.{step}
use Rattle.model.specs.Words.{assignments, grants, lines_standing, sessions_open}
use Rattle.model.specs.declared.Command.TheVariants.{Assign, Grant, Inherit, OpenSession}
use Rattle.demands.specs.Reachable.{Reachable}

-- A table in which at most `most` may stand, in which so many stand now, and what the command that would add one more tells.
pub record FullAt (most standing : ℕ) (told : Told) : Type 0 where
  -- Where one less than the most stand, or fewer, 12 is not answered: the table is not full.
  pub room : standing < most → told.answer ≡ 12 → ⊥
  -- Where the most stand, none is added.
  pub full : most ≤ standing → told.answer ≡ 0 → ⊥

-- `assign`, `grant`, `inherit` and `session`, on every policy that can be reached
pub record FullTables : Type 0 where
  pub assignments : (m : Model) → Reachable m → (u : User) (r : Role) → FullAt 2048 (assignments m) (step m (Assign u r) [])
  pub grants : (m : Model) → Reachable m → (op obj : ℕ) (r : Role) → FullAt 2048 (grants m) (step m (Grant op obj r) [])
  pub lines : (m : Model) → Reachable m → (senior junior : Role) → FullAt 512 (lines_standing m) (step m (Inherit senior junior) [])
  pub sessions : (m : Model) → Reachable m → (u : User) (list : List ℕ) → FullAt 64 (sessions_open m) (step m (OpenSession u) list)
