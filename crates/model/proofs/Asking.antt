-- A question changes nothing: whatever settles it leaves the policy and sessions as they were. Assumes nothing.
use mathlib.Core.Bool.{Bool, true, false}
use mathlib.Core.List.{List}
use mathlib.Core.Path.{◌≡◌, refl}
use Prim.Native.Nat.{ℕ}
use lib.Dec.{eqb}
use Rattle.model.specs.Model.{Model}
use Rattle.model.specs.Sheet.{Told, Refusal, verdict, settle, done, refused}
use Rattle.model.specs.Questions.{ask}
use Rattle.model.specs.commands.Sessions.{check}
use Rattle.model.specs.declared.Question.{Question}
use Rattle.model.specs.declared.Question.TheVariants.{Check, AssignedUsers, AssignedRoles, AuthUsers, AuthRoles, RolePerms, UserPerms, SessionRoles, SessionPerms, RoleOps, UserOps, Sets, SetRoles, SetCount}

same : (rs : List Refusal) (m : Model) (list : List ℕ) → (settle rs m list m).after ≡ m
unfolding settle
same rs m list = go (eqb (verdict rs) 0)
  where
    go : (t : Bool) → (elim t as (λ _. Told) [ true ↦ done list m | false ↦ refused (verdict rs) m ]).after ≡ m
    go true = refl
    go false = refl

pub asked-same : (m : Model) (room : ℕ) (q : Question) → (ask m room q).after ≡ m
unfolding ask check
asked-same m room (Check s op obj) = same _ _ _
asked-same m room (AssignedUsers r) = same _ _ _
asked-same m room (AssignedRoles u) = same _ _ _
asked-same m room (AuthUsers r) = same _ _ _
asked-same m room (AuthRoles u) = same _ _ _
asked-same m room (RolePerms r) = same _ _ _
asked-same m room (UserPerms u) = same _ _ _
asked-same m room (SessionRoles s) = same _ _ _
asked-same m room (SessionPerms s) = same _ _ _
asked-same m room (RoleOps r obj) = same _ _ _
asked-same m room (UserOps u obj) = same _ _ _
asked-same m room (Sets kind) = same _ _ _
asked-same m room (SetRoles kind name) = same _ _ _
asked-same m room (SetCount kind name) = same _ _ _
