-- What the deletion of a role leaves. Assumes nothing.
use mathlib.Core.List.{List}
use mathlib.Core.Path.{◌≡◌, refl, ap, ap₂, ◌∙◌}
use Prim.Native.Nat.{ℕ, ◌+◌, ◌<◌, ◌≤◌}
use lib.ListN.{set, get_or}
use Rattle.roleset.specs.Roles.{has, without, count}
use Rattle.roleset.proofs.BoundedLaws.{tally-le}
use Rattle.hierarchy.specs.Lines.{table_of}
use Rattle.model.specs.Model.{Model, put, with_sessions}
use Rattle.model.specs.Words.{shed}
use Rattle.model.specs.commands.Users.{without_role, lines_with}
use Rattle.state.specs.Stores.{with_active, Table}
use Rattle.state.specs.View.{part, view}
use Rattle.sweeps.specs.Sweeps.{ShedsAll, Strips}
use Rattle.sweeps.proofs.Changing.{as-part, table-put, table-stripped, table-had}
use Rattle.sweeps.proofs.Shedding.{sheds-same, shed_stored, view-past}
use Rattle.roles.specs.Leaving.{leaving}

-- no more sets had the role than there are
pub few : {n : ℕ} {f : ℕ → ℕ} (x after : List ℕ) (r gone : ℕ) → Table n f x → Strips x after r gone → gone ≤ n
few {n} {f} x after r gone t s = rw (table-had x after r gone t s) (tally-le n (λ k. has (f k) r))

-- the role is stripped from the lines and the assignments, nothing is below it, and a sweep sheds
module _ (l juniors assigned lines_left holds-left : List ℕ) (r above held : ℕ) (kept : List ℕ) (h : r < 64) (lines : Table 64 (view l).juniors juniors) (holds : Table 256 (view l).assigned assigned) (no_line : Strips juniors lines_left r above) (no-user : Strips assigned holds-left r held) (sheds : ShedsAll (table_of (set lines_left r 0)) (part holds-left 0 256) (view l).sessions kept) where
  stripped : Table 64 (λ s. without ((view l).juniors s) r) lines_left
  stripped = table-stripped juniors lines_left r above lines no_line

  lines_after : Table 64 (put (λ s. without ((view l).juniors s) r) r 0) (set lines_left r 0)
  lines_after = table-put lines_left r 0 h stripped

  holds_after : Table 256 (λ u. without ((view l).assigned u) r) holds-left
  holds_after = table-stripped assigned holds-left r held holds no-user

  swept : ShedsAll (put (λ s. without ((view l).juniors s) r) r 0) (λ u. without ((view l).assigned u) r) (view l).sessions kept
  swept = sheds-same kept lines_after.each (as-part holds-left holds_after) refl sheds

  pub role_gone : (between after : Model) (below : ℕ) → below ≡ count (get_or lines_left r 0) → between ≡ leaving (view l) r (part (set lines_left r 0) 0 64) (above + below) (part holds-left 0 256) held → after ≡ with_sessions between (with_active between.sessions (part kept 0 64)) → after ≡ shed (without_role (view l) r)
  unfolding without_role
  role_gone between after below counted stored e =
      shed_stored (without_role (view l) r) kept swept (view-past l) between after
      (stored ∙ ap₂ (λ (f : ℕ → ℕ) (n : ℕ). leaving (view l) r f n (part holds-left 0 256) held) (as-part (set lines_left r 0) lines_after) gone ∙ ap₂ (λ (f : ℕ → ℕ) (n : ℕ). leaving (view l) r (put (λ s. without ((view l).juniors s) r) r 0) (lines_with (view l) r) f n) (as-part holds-left holds_after) (table-had assigned holds-left r held holds no-user))
      e
    where
      gone : above + below ≡ lines_with (view l) r
      gone = ap₂ (λ (x y : ℕ). x + y) (table-had juniors lines_left r above lines no_line) (counted ∙ ap (λ (f : ℕ → ℕ). count (f r)) stripped.each)
