-- All that is shown of the questions one by one, a line for each. Assumes nothing.
use mathlib.Core.Bool.{Bool, true, false, ◌&&◌}
use mathlib.Core.List.{List, [], ◌∷◌}
use mathlib.Core.Path.{◌≡◌, refl, sym, ◌∙◌}
use Prim.Native.Nat.{ℕ, ◌≤◌}
use native.Mathlib.Omega.{arith}
use borrow.Author.Tests.{le-ltb}
use lib.Dec.{ltb}
use lib.ListN.{length}
use Rattle.roleset.specs.Bounded.{members}
use Rattle.roleset.proofs.BoundedLaws.{and_left, and_right}
use Rattle.roleset.proofs.MembersLaws.{members-most}
use Rattle.numbers.specs.Answers.{with_number}
use Rattle.model.specs.Model.{Model}
use Rattle.model.specs.Questions.{ask, review, assigned_users, assigned_roles, auth_users, auth_roles, role_perms, user_perms, session_roles, session_perms, role_ops, user_ops, set_names, set_roles, set_count}
use Rattle.model.specs.Sheet.{Refusal, Told, ◌when◌, verdict, settle}
use Rattle.model.specs.commands.Sessions.{check}
use Rattle.model.specs.declared.Question.{Question}
use Rattle.model.specs.declared.Question.TheVariants.{Check, AssignedUsers, AssignedRoles, AuthUsers, AuthRoles, RolePerms, UserPerms, SessionRoles, SessionPerms, RoleOps, UserOps, Sets, SetRoles, SetCount}
use Rattle.sound.proofs.Sheet.{settle-answer}
use Rattle.demands.specs.Demand1.{Harmless}
use Rattle.demands.proofs.Settled.{lacks, settled-lacks, numbered, all_numbered, settled-harmless}

-- what is shown of a question that tells so, asked with room for so many results
pub record Shown (m : Model) (room : ℕ) (told : Told) : Type 0 where
  -- demand 1, and that it is not answered 15 where there is room for 4,096 results
  pub harmless : Harmless m told
  pub never_15 : 4096 ≤ room → told.answer ≡ 15 → ⊥

-- `check`: 15 is not on its list
checked : {m : Model} {room : ℕ} (rs : List Refusal) (gives : List ℕ) (after : Model) → (lacks 15 rs && all_numbered rs) ≡ true → Shown m room (settle rs m gives after)
checked {m} rs gives after numbers = record { harmless = settled-harmless rs m gives after (and_right (lacks 15 rs) (all_numbered rs) numbers); never_15 = λ f. settled-lacks 15 rs m gives after (omega arith) (and_left (lacks 15 rs) (all_numbered rs) numbers) }

-- a review whose list has at most 4,096 numbers
listed-never : (a b d : Bool) → d ≡ false → verdict (1 when a ∷ 2 when b ∷ 15 when d ∷ []) ≡ 15 → ⊥
unfolding verdict
listed-never true b d z e = omega arith
listed-never false true d z e = omega arith
listed-never false false true z e = absurd (let x : ◌≡◌ {A = ℕ} 0 1 = cc in omega arith)
listed-never false false false z e = omega arith

reviewed : {m : Model} {room : ℕ} (beyond missing : Bool) (list : List ℕ) → length list ≤ 4096 → Shown m room (review m room beyond missing list)
unfolding numbered with_number
reviewed {m} {room} beyond missing list h =
    record {
      harmless = settled-harmless _ m list m refl;
      never_15 = λ f e. listed-never beyond missing (ltb room (length list)) (le-ltb room (length list) (omega arith)) (sym (settle-answer _ m list m) ∙ e);
    }

few : (n : ℕ) (f : ℕ → Bool) → n ≤ 4096 → length (members n f) ≤ 4096
few n f h = omega (arith, members-most n f)

pub shown : (m : Model) (room : ℕ) (q : Question) → Shown m room (ask m room q)
unfolding ask check numbered with_number assigned_users assigned_roles auth_users auth_roles role_perms user_perms session_roles session_perms role_ops user_ops set_names set_roles set_count
shown m room (Check s op obj) = checked _ _ _ refl
shown m room (AssignedUsers r) = reviewed _ _ (assigned_users m r.number) (few 256 _ (omega arith))
shown m room (AssignedRoles u) = reviewed _ _ (assigned_roles m u.number) (few 64 _ (omega arith))
shown m room (AuthUsers r) = reviewed _ _ (auth_users m r.number) (few 256 _ (omega arith))
shown m room (AuthRoles u) = reviewed _ _ (auth_roles m u.number) (few 64 _ (omega arith))
shown m room (RolePerms r) = reviewed _ _ (role_perms m r.number) (few 4096 _ (omega arith))
shown m room (UserPerms u) = reviewed _ _ (user_perms m u.number) (few 4096 _ (omega arith))
shown m room (SessionRoles s) = reviewed _ _ (session_roles m s.number) (few 64 _ (omega arith))
shown m room (SessionPerms s) = reviewed _ _ (session_perms m s.number) (few 4096 _ (omega arith))
shown m room (RoleOps r obj) = reviewed _ _ (role_ops m r.number obj) (few 16 _ (omega arith))
shown m room (UserOps u obj) = reviewed _ _ (user_ops m u.number obj) (few 16 _ (omega arith))
shown m room (Sets kind) = reviewed _ _ (set_names kind m) (few 16 _ (omega arith))
shown m room (SetRoles kind name) = reviewed _ _ (set_roles kind m name.number) (few 64 _ (omega arith))
shown m room (SetCount kind name) = reviewed _ _ (set_count kind m name.number) (omega arith)
