-- Beyond its ranges a state has nothing. Assumes nothing.
use mathlib.Core.Bool.{Bool, true, false}
use mathlib.Core.List.{List}
use mathlib.Core.Path.{◌≡◌, sym, ap, ap₂, ◌∙◌}
use Prim.Native.Nat.{ℕ, ◌+◌, ◌%◌, ◌≤◌, ◌<◌, ◌^◌}
use lib.ListN.{get_or}
use native.Mathlib.Decide.{dec_lt}
use native.Mathlib.Omega.{arith}
use Rattle.roleset.specs.Roles.{has}
use Rattle.roleset.proofs.BoundedLaws.{clash}
use Rattle.roleset.proofs.Laws.{has-none}
use Rattle.model.specs.Model.{RoleSet, Session, absent_set, closed_session}
use Rattle.model.specs.commands.Sets.{sets_of}
use Rattle.model.specs.declared.Kind.{Kind}
use Rattle.model.specs.declared.Kind.TheVariants.{Static, Dynamic}
use Rattle.state.specs.Places.{roles_at, holders_at, assigned_at, juniors_at, sets_at, owners_at, active_at, users_at}
use Rattle.state.specs.View.{set_of, session_of, view}
use Rattle.state.proofs.Slots.{part_none, part_at}
use Rattle.state.proofs.Stored.{set_at}
use Rattle.policycheck.specs.Tests.{Ranged}

module _ (l : List ℕ) where
  pub no_user : (u : ℕ) → 256 ≤ u → (view l).users u ≡ false
  unfolding view
  no_user u h = ap (λ (w : ℕ). has w (u % 64)) (part_none l users_at 4 _ (omega arith)) ∙ has-none (u % 64)

  pub no_juniors : (s : ℕ) → 64 ≤ s → (view l).juniors s ≡ 0
  unfolding view
  no_juniors s h = part_none l juniors_at 64 s h

  pub no_assigned : (u : ℕ) → 256 ≤ u → (view l).assigned u ≡ 0
  unfolding view
  no_assigned u h = part_none l assigned_at 256 u h

  no_holders : (p : ℕ) → 4096 ≤ p → (view l).holders p ≡ 0
  unfolding view
  no_holders p h = part_none l holders_at 4096 p h

  pub no_set : (kind : Kind) (n : ℕ) → 16 ≤ n → sets_of kind (view l) n ≡ absent_set
  no_set kind n h = sym (set_at kind l n) ∙ ap₂ set_of (part_none l (sets_at kind) 16 n h) (part_none l (sets_at kind + 16) 16 n h)

  pub no_session : (s : ℕ) → 64 ≤ s → (view l).sessions s ≡ closed_session
  unfolding view
  no_session s h = ap₂ session_of (part_none l owners_at 64 s h) (part_none l active_at 64 s h)

  -- a place where a test is passed is below n, where no place from n on passes it
  below : (n k : ℕ) (b : Bool) → (n ≤ k → b ≡ false) → b ≡ true → k < n
  below n k b past e = go (dec_lt k n)
    where
      go : Dec (k < n) → k < n
      go (yes p) = p
      go (no p) = clash b e (past (omega arith))

  -- the number that holds the roles is one of the state's
  pub roles-small : ((i : ℕ) → get_or l i 0 < 2 ^ 64) → (view l).roles < 2 ^ 64
  unfolding view
  roles-small h = rw (part_at l roles_at 1 0 (omega arith)) (h roles_at)

  pub ranged : Ranged (view l)
  ranged = record {
    users = λ u. below 256 u ((view l).users u) (no_user u);
    permissions = λ p r. below 4096 p (has ((view l).holders p) r) (λ h. ap (λ (s : ℕ). has s r) (no_holders p h) ∙ has-none r);
    ssd = λ n. below 16 n ((view l).ssd n).there (λ h. ap (λ (s : RoleSet). s.there) (no_set Static n h));
    dsd = λ n. below 16 n ((view l).dsd n).there (λ h. ap (λ (s : RoleSet). s.there) (no_set Dynamic n h));
    sessions = λ n. below 64 n ((view l).sessions n).live (λ h. ap (λ (s : Session). s.live) (no_session n h));
  }
