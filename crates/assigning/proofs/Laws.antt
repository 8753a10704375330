-- What the commands of assignments leave: the assignment stored and counted, and where a role is taken from the user's, what a sweep that sheds finds
-- and leaves. Assumes nothing.
use mathlib.Core.List.{List}
use mathlib.Core.Path.{◌≡◌, refl, ap, ap₂, ◌∙◌}
use Prim.Native.Nat.{ℕ, ◌+◌, ◌-◌, ◌<◌}
use lib.ListN.{set}
use Rattle.roleset.specs.Roles.{with, without}
use Rattle.hierarchy.specs.Lines.{table_of}
use Rattle.model.specs.Model.{Model, put, with_assignments, with_sessions}
use Rattle.model.specs.Words.{shed}
use Rattle.model.specs.commands.Assigning.{assigned, deassigned}
use Rattle.model.proofs.Puts.{assigned-static}
use Rattle.state.specs.Stores.{in_range, with_active, Table}
use Rattle.state.specs.View.{part, view}
use Rattle.state.proofs.Stored.{storing, placed, placed-as}
use Rattle.sweeps.specs.Sweeps.{ShedsAll}
use Rattle.sweeps.proofs.Changing.{as-part, table-put}
use Rattle.sweeps.proofs.Shedding.{sheds-same, shed_stored, view-past}

-- the roles stored for a user, and the count, are these
pub assigned-stored : (m after : Model) (u roles new standing count : ℕ) → roles ≡ new → standing ≡ count → u < 256 → after ≡ in_range 256 u m (with_assignments m (put m.assigned u roles) standing) → after ≡ with_assignments m (put m.assigned u new) count
assigned-stored m after u = placed-as 256 u m after (λ x n. with_assignments m (put m.assigned u x) n)

-- the role among the user's, and one assignment more
pub assigned-is : (m : Model) (u r : ℕ) → assigned m u r ≡ with_assignments m (put m.assigned u (with (m.assigned u) r)) (m.assignment_count + 1)
unfolding assigned
assigned-is m u r = refl

-- what the proof of `assign` asks of its store, and of the static rule
pub ruleset assigning = (storing, assigned-is, assigned-static)

-- the sweep goes over the lines as they are and the assignments as they will be
module _ (l juniors assigned : List ℕ) (u r new : ℕ) (kept : List ℕ) (h : u < 256) (is : new ≡ without ((view l).assigned u) r) (lines : Table 64 (view l).juniors juniors) (holds : Table 256 (view l).assigned assigned) (sheds : ShedsAll (table_of juniors) (part (set assigned u new) 0 256) (view l).sessions kept) where
  swept : ShedsAll (view l).juniors (put (view l).assigned u (without ((view l).assigned u) r)) (view l).sessions kept
  swept = sheds-same kept lines.each (as-part (set assigned u new) (table-put assigned u new h holds) ∙ ap (put (view l).assigned u) is) refl sheds

  pub deassigned_shed : (between after : Model) → between ≡ deassigned (view l) u r → after ≡ with_sessions between (with_active between.sessions (part kept 0 64)) → after ≡ shed (deassigned (view l) u r)
  unfolding deassigned
  deassigned_shed = shed_stored (deassigned (view l) u r) kept swept (view-past l)

  pub deassigned_stored : (between after : Model) (standing : ℕ) → standing ≡ (view l).assignment_count - 1 → between ≡ in_range 256 u (view l) (with_assignments (view l) (put (view l).assigned u new) standing) → after ≡ with_sessions between (with_active between.sessions (part kept 0 64)) → after ≡ shed (deassigned (view l) u r)
  unfolding deassigned
  deassigned_stored between after standing n s =
      shed_stored (deassigned (view l) u r) kept swept (view-past l) between after
      (placed 256 u (view l) _ between h s ∙ ap₂ (λ (roles count : ℕ). with_assignments (view l) (put (view l).assigned u roles) count) is n)
