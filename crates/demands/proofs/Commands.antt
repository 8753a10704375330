-- All that is shown of the commands one by one, a line for each. Assumes nothing.
use mathlib.Core.Bool.{true, ◌&&◌}
use mathlib.Core.List.{List}
use mathlib.Core.Path.{◌≡◌, refl}
use Prim.Native.Nat.{ℕ}
use native.Mathlib.Omega.{arith}
use Rattle.roleset.proofs.BoundedLaws.{and_left, and_right}
use Rattle.numbers.specs.Answers.{with_number}
use Rattle.model.specs.Model.{Model}
use Rattle.model.specs.Sheet.{Refusal, Told, settle}
use Rattle.model.specs.Sound.{Sound}
use Rattle.model.specs.Step.{step}
use Rattle.model.specs.commands.Users.{user, role, end_all, has_open, nouser, norole}
use Rattle.model.specs.commands.Assigning.{assign, deassign, grant, revoke}
use Rattle.model.specs.commands.Inheriting.{inherit, disinherit}
use Rattle.model.specs.commands.Sets.{make_set, drop_set, add_member, drop_member, set_cardinality}
use Rattle.model.specs.commands.Sessions.{session, activate, drop, end}
use Rattle.model.specs.declared.Command.{Command}
use Rattle.model.specs.declared.Command.TheVariants.{AddUser, AddRole, NoUser, NoRole, Assign, Deassign, Grant, Revoke, Inherit, Disinherit, MakeSet, DropSet, AddMember, DropMember, SetCardinality, OpenSession, Activate, DropActive, EndSession, EndAll}
use Rattle.model.specs.declared.Kind.TheVariants.{Static, Dynamic}
use Rattle.sound.proofs.Sheet.{positive, ordered}
use Rattle.sound.proofs.Listed.{assign-listed, grant-listed, inherit-listed, make_set-listed, add_member-listed, set_cardinality-listed, session-listed, activate-listed}
use Rattle.sound.proofs.Users.{user-sound, role-sound, end_all-sound, nouser-sound}
use Rattle.sound.proofs.Shedding.{deassign-sound, disinherit-sound, norole-sound}
use Rattle.sound.proofs.Assigning.{assign-sound, grant-sound, revoke-sound}
use Rattle.sound.proofs.Inheriting.{inherit-sound}
use Rattle.sound.proofs.Sets.{make_set-sound, drop_set-sound, add_member-sound, drop_member-sound, set_cardinality-sound}
use Rattle.sound.proofs.Sessions.{session-sound, activate-sound, drop-sound, end-sound}
use Rattle.demands.specs.Demand1.{Harmless}
use Rattle.demands.specs.Demand2.{refusals, results, effect}
use Rattle.demands.proofs.Settled.{lacks, settled-lacks, numbered, all_numbered, settled-harmless}

-- what is shown of a command that tells so
pub record Shown (m : Model) (c : Command) (list : List ℕ) (told : Told) : Type 0 where
  -- demand 1, and that it is never answered 15
  pub harmless : Harmless m told
  pub never_15 : told.answer ≡ 15 → ⊥
  -- the paper's list of its refusals is in the order of the sheet, and none of its numbers is 0
  pub ordered : ordered (refusals m c list) ≡ true
  pub positive : positive (refusals m c list) ≡ true
  -- on a sound policy it settles by that list, and leaves a sound one
  pub listed : Sound m → told ≡ settle (refusals m c list) m (results m c list) (effect m c list)
  pub kept : Sound m → Sound told.after

-- The same from what differs: that the numbers of its list in the model are on the sheet and none is 15, that the paper's list is in order and has no
-- 0, and the two laws of the command.
by : {m : Model} {c : Command} {list : List ℕ} (rs : List Refusal) (gives : List ℕ) (after : Model) → (lacks 15 rs && all_numbered rs) ≡ true → (ordered (refusals m c list) && positive (refusals m c list)) ≡ true → (Sound m → settle rs m gives after ≡ settle (refusals m c list) m (results m c list) (effect m c list)) → (Sound m → Sound (settle rs m gives after).after) → Shown m c list (settle rs m gives after)
by {m} {c} {list} rs gives after numbers order listed kept =
    let paper = refusals m c list in
    record {
      harmless = settled-harmless rs m gives after (and_right (lacks 15 rs) (all_numbered rs) numbers);
      never_15 = settled-lacks 15 rs m gives after (omega arith) (and_left (lacks 15 rs) (all_numbered rs) numbers);
      ordered = and_left (ordered paper) (positive paper) order;
      positive = and_right (ordered paper) (positive paper) order;
      listed = listed;
      kept = kept;
    }

pub shown : (m : Model) (c : Command) (list : List ℕ) → Shown m c list (step m c list)
unfolding step numbered with_number refusals results effect user role end_all has_open nouser norole assign deassign grant revoke inherit disinherit make_set drop_set add_member drop_member set_cardinality session activate drop end
shown m (AddUser u) list = by _ _ _ refl refl (λ s. refl) (user-sound m u.number)
shown m (AddRole r) list = by _ _ _ refl refl (λ s. refl) (role-sound m r.number)
shown m (NoUser u) list = by _ _ _ refl refl (λ s. refl) (nouser-sound m u.number)
shown m (NoRole r) list = by _ _ _ refl refl (λ s. refl) (norole-sound m r.number)
shown m (Assign u r) list = by _ _ _ refl refl (assign-listed m u.number r.number) (assign-sound m u.number r.number)
shown m (Deassign u r) list = by _ _ _ refl refl (λ s. refl) (deassign-sound m u.number r.number)
shown m (Grant op obj r) list = by _ _ _ refl refl (grant-listed m op obj r.number) (grant-sound m op obj r.number)
shown m (Revoke op obj r) list = by _ _ _ refl refl (λ s. refl) (revoke-sound m op obj r.number)
shown m (Inherit senior junior) list = by _ _ _ refl refl (inherit-listed m senior.number junior.number) (inherit-sound m senior.number junior.number)
shown m (Disinherit senior junior) list = by _ _ _ refl refl (λ s. refl) (disinherit-sound m senior.number junior.number)
shown m (MakeSet Static name n) list = by _ _ _ refl refl (make_set-listed Static m name.number n list) (make_set-sound Static m name.number n list)
shown m (MakeSet Dynamic name n) list = by _ _ _ refl refl (make_set-listed Dynamic m name.number n list) (make_set-sound Dynamic m name.number n list)
shown m (DropSet kind name) list = by _ _ _ refl refl (λ s. refl) (drop_set-sound kind m name.number)
shown m (AddMember Static name r) list = by _ _ _ refl refl (add_member-listed Static m name.number r.number) (add_member-sound Static m name.number r.number)
shown m (AddMember Dynamic name r) list = by _ _ _ refl refl (add_member-listed Dynamic m name.number r.number) (add_member-sound Dynamic m name.number r.number)
shown m (DropMember kind name r) list = by _ _ _ refl refl (λ s. refl) (drop_member-sound kind m name.number r.number)
shown m (SetCardinality Static name n) list = by _ _ _ refl refl (set_cardinality-listed Static m name.number n) (set_cardinality-sound Static m name.number n)
shown m (SetCardinality Dynamic name n) list = by _ _ _ refl refl (set_cardinality-listed Dynamic m name.number n) (set_cardinality-sound Dynamic m name.number n)
shown m (OpenSession u) list = by _ _ _ refl refl (session-listed m u.number list) (session-sound m u.number list)
shown m (Activate u s r) list = by _ _ _ refl refl (activate-listed m u.number s.number r.number) (activate-sound m u.number s.number r.number)
shown m (DropActive u s r) list = by _ _ _ refl refl (λ _. refl) (drop-sound m u.number s.number r.number)
shown m (EndSession u s) list = by _ _ _ refl refl (λ _. refl) (end-sound m u.number s.number)
shown m (EndAll u) list = by _ _ _ refl refl (λ s. refl) (end_all-sound m u.number)
