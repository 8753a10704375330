-- A policy that may stand in a file has, without its sets and sessions, the shape of a sound one; so what its users are authorised for,
-- and what is effective in its sessions, is what the paper says. Assumes nothing.
use mathlib.Core.Bool.{true}
use mathlib.Core.Logic.{◌↔◌}
use mathlib.Core.Path.{◌≡◌}
use Prim.Native.Nat.{ℕ}
use Rattle.roleset.specs.Roles.{has}
use Rattle.model.specs.Model.{Model, absent_set, closed_session}
use Rattle.model.specs.Words.{reached, authorised, effective}
use Rattle.model.specs.Sound.{Existing, Shape}
use Rattle.sound.proofs.Carried.{set-none, session-none}
use Rattle.sound.proofs.Words.{reached-exact}
use Rattle.policyform.specs.Form.{Formed}
use Rattle.demands.specs.Authorised.{InOrBelow, Authorised, Effective}

abbrev pub bare : Model → Model
bare m = record { users = m.users; roles = m.roles; juniors = m.juniors; assigned = m.assigned; holders = m.holders; ssd = λ n. absent_set; dsd = λ n. absent_set; sessions = λ s. closed_session; assignment_count = m.assignment_count; grant_count = m.grant_count; line_count = m.line_count }

-- the same roles exist
existing : (m : Model) (set : ℕ) → Existing m set → Existing (bare m) set
existing m set e = record { small = e.small; exist = e.exist }

bare-shape : (m : Model) → Formed m → Shape (bare m)
bare-shape m f =
    record {
      users = f.users;
      roles = f.roles;
      seniors = f.seniors;
      juniors = λ s. existing m (m.juniors s) (f.juniors s);
      assignees = f.assignees;
      assigned = λ u. existing m (m.assigned u) (f.assigned u);
      permissions = f.permissions;
      holders = λ p. existing m (m.holders p) (f.holders p);
      ssd = λ n. set-none (bare m) n;
      dsd = λ n. set-none (bare m) n;
      sessions = λ s. session-none (bare m) s;
    }

-- What is reached from existing roles is what exists and is in or below them.
reached-formed : (m : Model) → Formed m → (from : ℕ) → Existing m from → (r : ℕ) → (has (reached m from) r ≡ true) ↔ ((has m.roles r ≡ true) × InOrBelow m from r)
reached-formed m f from e r = reached-exact (bare m) (bare-shape m f) from (existing m from e) r

-- "Authorised: a user is authorised for an existing role if assigned to it or to a role that inherits it."
pub authorised-formed : (m : Model) → Formed m → (u r : ℕ) → (has (authorised m u) r ≡ true) ↔ Authorised m u r
authorised-formed m f u r =
    let same = reached-formed m f (m.assigned u) (f.assigned u) r in
    ((λ e. record { exists = (same.0 e).0; through = (same.0 e).1 }), (λ x. same.1 (x.exists, x.through)))

-- "Effective roles of a session: its active roles and all roles these inherit"
pub effective-formed : (m : Model) → Formed m → (s r : ℕ) → (has (effective m s) r ≡ true) ↔ Effective m s r
effective-formed m f s r =
    let same = reached-formed m f (m.sessions s).active (f.sessions s).active r in
    ((λ e. record { exists = (same.0 e).0; through = (same.0 e).1 }), (λ x. same.1 (x.exists, x.through)))
