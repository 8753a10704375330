-- What the view of a state says of one thing: the number at its place, and past its part nothing. Assumes nothing.
use mathlib.Core.Bool.{false}
use mathlib.Core.List.{List}
use mathlib.Core.Path.{◌≡◌, sym, ap, ap₂, ◌∙◌}
use Prim.Native.Nat.{ℕ, ◌+◌, ◌/◌, ◌%◌, ◌<◌, ◌≤◌}
use native.Mathlib.Omega.{arith}
use lib.ListN.{get_or}
use Rattle.roleset.specs.Roles.{has}
use Rattle.roleset.proofs.Laws.{has-none}
use Rattle.model.specs.commands.Sets.{sets_of}
use Rattle.model.specs.declared.Kind.{Kind}
use Rattle.state.specs.Places.{sets_at, owners_at, active_at, users_at, roles_at, assignment_count_at, grant_count_at, line_count_at}
use Rattle.state.specs.Stores.{Table}
use Rattle.state.specs.View.{set_of, session_of, view}
use Rattle.state.proofs.Slots.{part_at, part_none}
use Rattle.state.proofs.Stored.{set_at, sets-fit}

-- a number that stands alone
module _ (l : List ℕ) where
  pub roles-read : (view l).roles ≡ get_or l roles_at 0
  unfolding view
  roles-read = part_at l roles_at 1 0 (omega arith)

  pub assignments-read : (view l).assignment_count ≡ get_or l assignment_count_at 0
  unfolding view
  assignments-read = part_at l assignment_count_at 1 0 (omega arith)

  pub grants-read : (view l).grant_count ≡ get_or l grant_count_at 0
  unfolding view
  grants-read = part_at l grant_count_at 1 0 (omega arith)

  pub lines-read : (view l).line_count ≡ get_or l line_count_at 0
  unfolding view
  lines-read = part_at l line_count_at 1 0 (omega arith)

-- one of many
module _ (l : List ℕ) (k : ℕ) where
  pub user-read : k < 256 → (view l).users k ≡ has (get_or l (users_at + k / 64) 0) (k % 64)
  unfolding view
  user-read h = rw (part_at l users_at 4 (k / 64) (omega arith))

  pub user-past : 256 ≤ k → (view l).users k ≡ false
  unfolding view
  user-past h = rw (part_none l users_at 4 (k / 64) (omega arith)) (has-none (k % 64))

  pub session-read : k < 64 → (view l).sessions k ≡ session_of (get_or l (owners_at + k) 0) (get_or l (active_at + k) 0)
  unfolding view
  session-read h = ap₂ session_of (part_at l owners_at 64 k h) (part_at l active_at 64 k h)

  pub session-past : 64 ≤ k → (view l).sessions k ≡ session_of 0 0
  unfolding view
  session-past h = ap₂ session_of (part_none l owners_at 64 k h) (part_none l active_at 64 k h)

  pub set-read : (kind : Kind) → k < 16 → sets_of kind (view l) k ≡ set_of (get_or l (sets_at kind + k) 0) (get_or l (sets_at kind + 16 + k) 0)
  set-read kind h = sym (set_at kind l k) ∙ ap₂ set_of (part_at l (sets_at kind) 16 k h) (part_at l (sets_at kind + 16) 16 k h)

  pub set-past : (kind : Kind) → 16 ≤ k → sets_of kind (view l) k ≡ set_of 0 0
  set-past kind h = sym (set_at kind l k) ∙ ap₂ set_of (part_none l (sets_at kind) 16 k h) (part_none l (sets_at kind + 16) 16 k h)

-- a number of a part that is lent
pub table-read : (n : ℕ) (f : ℕ → ℕ) (x : List ℕ) (k : ℕ) → Table n f x → get_or x k 0 ≡ f k
table-read n f x k t = ap (λ (g : ℕ → ℕ). g k) t.each

-- what a read asks of the view
pub ruleset reading = (roles-read, assignments-read, grants-read, lines-read, user-read, user-past, table-read, session-read, session-past)

-- and of a set, whose places the kind decides
pub ruleset reading_set = (sets-fit, set-read, set-past)
