-- A command has at most one result. Assumes nothing.
use mathlib.Core.Bool.{Bool, true, false}
use mathlib.Core.List.{List}
use Prim.Native.Nat.{ℕ, ◌≤◌}
use native.Mathlib.Omega.{arith}
use lib.Dec.{eqb}
use lib.ListN.{length}
use Rattle.model.specs.Model.{Model}
use Rattle.model.specs.Sheet.{Told, Refusal, verdict, settle, done, refused}
use Rattle.model.specs.Step.{step}
use Rattle.model.specs.commands.Users.{user, role, end_all, nouser, norole}
use Rattle.model.specs.commands.Assigning.{assign, deassign, grant, revoke}
use Rattle.model.specs.commands.Inheriting.{inherit, disinherit}
use Rattle.model.specs.commands.Sets.{make_set, drop_set, add_member, drop_member, set_cardinality}
use Rattle.model.specs.commands.Sessions.{session, activate, drop, end}
use Rattle.model.specs.declared.Command.{Command}
use Rattle.model.specs.declared.Command.TheVariants.{AddUser, AddRole, NoUser, NoRole, Assign, Deassign, Grant, Revoke, Inherit, Disinherit, MakeSet, DropSet, AddMember, DropMember, SetCardinality, OpenSession, Activate, DropActive, EndSession, EndAll}

-- a refusal has no results
no_more : (rs : List Refusal) (m : Model) (results : List ℕ) (after : Model) → length results ≤ 1 → length (settle rs m results after).results ≤ 1
unfolding settle
no_more rs m results after h = go (eqb (verdict rs) 0)
  where
    go : (t : Bool) → length (elim t as (λ _. Told) [ true ↦ done results after | false ↦ refused (verdict rs) m ]).results ≤ 1
    go true = h
    go false = omega arith

pub few-results : (m : Model) (c : Command) (list : List ℕ) → length (step m c list).results ≤ 1
unfolding step user role end_all nouser norole assign deassign grant revoke inherit disinherit make_set drop_set add_member drop_member set_cardinality session activate drop end
few-results m (AddUser u) list = no_more _ m _ _ (omega arith)
few-results m (AddRole r) list = no_more _ m _ _ (omega arith)
few-results m (NoUser u) list = no_more _ m _ _ (omega arith)
few-results m (NoRole r) list = no_more _ m _ _ (omega arith)
few-results m (Assign u r) list = no_more _ m _ _ (omega arith)
few-results m (Deassign u r) list = no_more _ m _ _ (omega arith)
few-results m (Grant op obj r) list = no_more _ m _ _ (omega arith)
few-results m (Revoke op obj r) list = no_more _ m _ _ (omega arith)
few-results m (Inherit senior junior) list = no_more _ m _ _ (omega arith)
few-results m (Disinherit senior junior) list = no_more _ m _ _ (omega arith)
few-results m (MakeSet kind name n) list = no_more _ m _ _ (omega arith)
few-results m (DropSet kind name) list = no_more _ m _ _ (omega arith)
few-results m (AddMember kind name r) list = no_more _ m _ _ (omega arith)
few-results m (DropMember kind name r) list = no_more _ m _ _ (omega arith)
few-results m (SetCardinality kind name n) list = no_more _ m _ _ (omega arith)
few-results m (OpenSession u) list = no_more _ m _ _ (omega arith)
few-results m (Activate u s r) list = no_more _ m _ _ (omega arith)
few-results m (DropActive u s r) list = no_more _ m _ _ (omega arith)
few-results m (EndSession u s) list = no_more _ m _ _ (omega arith)
few-results m (EndAll u) list = no_more _ m _ _ (omega arith)
