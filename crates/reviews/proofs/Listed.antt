-- Who is in the list of each review, exactly, and that every list is strictly ascending. Assumes nothing.
use mathlib.Core.Bool.{Bool, true, false, ◌&&◌}
use mathlib.Core.List.{List, [], ◌∷◌}
use mathlib.Core.Path.{◌≡◌, refl, ap}
use Prim.Native.Nat.{ℕ, ◌<◌}
use native.Mathlib.Nat.{mod-eq_of_lt}
use native.Mathlib.Omega.{arith}
use lib.Dec.{eqb, leb, ltb}
use borrow.Author.Tests.{le-leb}
use Rattle.roleset.specs.Roles.{has, with, none}
use Rattle.roleset.proofs.BoundedLaws.{clash, and_both}
use Rattle.roleset.proofs.Laws.{count-le}
use Rattle.model.specs.Model.{Model, RoleSet}
use Rattle.model.specs.Sheet.{Refusal, verdict, settle}
use Rattle.model.specs.Lists.{rising, ascending, listed}
use Rattle.model.specs.Sound.{Shape, SetShape}
use Rattle.model.specs.Words.{reached, authorised, effective, permission}
use Rattle.model.specs.Questions.{holds, authorised_by, assigned_users, assigned_roles, auth_users, auth_roles, role_perms, user_perms, session_roles, session_perms, role_ops, user_ops, set_names, set_roles, set_count, ask}
use Rattle.model.specs.commands.Sets.{sets_of}
use Rattle.model.specs.declared.Kind.{Kind}
use Rattle.model.specs.declared.Kind.TheVariants.{Static, Dynamic}
use Rattle.model.specs.declared.Question.{Question}
use Rattle.model.specs.declared.Question.TheVariants.{Check, AssignedUsers, AssignedRoles, AuthUsers, AuthRoles, RolePerms, UserPerms, SessionRoles, SessionPerms, RoleOps, UserOps, Sets, SetRoles, SetCount}
use Rattle.reviews.proofs.ListLaws.{members-listed, members-ascending}
use Rattle.reviews.proofs.WhichReview.{is_review}

-- ---- who is listed, exactly

pub assigned-users-listed : (m : Model) (r u : ℕ) → listed (assigned_users m r) u ≡ (ltb u 256 && has (m.assigned u) r)
unfolding assigned_users
assigned-users-listed m r u = members-listed 256 (λ k. has (m.assigned k) r) u

pub assigned-roles-listed : (m : Model) (u r : ℕ) → listed (assigned_roles m u) r ≡ (ltb r 64 && has (m.assigned u) r)
unfolding assigned_roles
assigned-roles-listed m u r = members-listed 64 (has (m.assigned u)) r

pub auth-users-listed : (m : Model) (r u : ℕ) → listed (auth_users m r) u ≡ (ltb u 256 && authorised_by m r u)
unfolding auth_users
auth-users-listed m r u = members-listed 256 (authorised_by m r) u

pub auth-roles-listed : (m : Model) (u r : ℕ) → listed (auth_roles m u) r ≡ (ltb r 64 && has (authorised m u) r)
unfolding auth_roles
auth-roles-listed m u r = members-listed 64 (has (authorised m u)) r

pub role-perms-listed : (m : Model) (r p : ℕ) → listed (role_perms m r) p ≡ (ltb p 4096 && holds m (reached m (with none r)) p)
unfolding role_perms
role-perms-listed m r p = members-listed 4096 (holds m (reached m (with none r))) p

pub user-perms-listed : (m : Model) (u p : ℕ) → listed (user_perms m u) p ≡ (ltb p 4096 && holds m (authorised m u) p)
unfolding user_perms
user-perms-listed m u p = members-listed 4096 (holds m (authorised m u)) p

pub session-roles-listed : (m : Model) (s r : ℕ) → listed (session_roles m s) r ≡ (ltb r 64 && has (m.sessions s).active r)
unfolding session_roles
session-roles-listed m s r = members-listed 64 (has (m.sessions s).active) r

pub session-perms-listed : (m : Model) (s p : ℕ) → listed (session_perms m s) p ≡ (ltb p 4096 && holds m (effective m s) p)
unfolding session_perms
session-perms-listed m s p = members-listed 4096 (holds m (effective m s)) p

pub role-ops-listed : (m : Model) (r obj op : ℕ) → listed (role_ops m r obj) op ≡ (ltb op 16 && holds m (reached m (with none r)) (permission op obj))
unfolding role_ops
role-ops-listed m r obj op = members-listed 16 (λ k. holds m (reached m (with none r)) (permission k obj)) op

pub user-ops-listed : (m : Model) (u obj op : ℕ) → listed (user_ops m u obj) op ≡ (ltb op 16 && holds m (authorised m u) (permission op obj))
unfolding user_ops
user-ops-listed m u obj op = members-listed 16 (λ k. holds m (authorised m u) (permission k obj)) op

pub set-names-listed : (kind : Kind) (m : Model) (n : ℕ) → listed (set_names kind m) n ≡ (ltb n 16 && (sets_of kind m n).there)
unfolding set_names
set-names-listed kind m n = members-listed 16 (λ k. (sets_of kind m k).there) n

pub set-roles-listed : (kind : Kind) (m : Model) (name r : ℕ) → listed (set_roles kind m name) r ≡ (ltb r 64 && has (sets_of kind m name).roles r)
unfolding set_roles
set-roles-listed kind m name r = members-listed 64 (has (sets_of kind m name).roles) r

-- ---- "`ssd-count name` (the cardinality)"

-- the one result is the cardinality itself where that is a sixteen-bit number
pub set-count-listed : (kind : Kind) (m : Model) (name : ℕ) → (sets_of kind m name).card < 65536 → set_count kind m name ≡ (sets_of kind m name).card ∷ []
unfolding set_count
set-count-listed kind m name h = ap (λ (n : ℕ). n ∷ []) (mod-eq_of_lt h)

-- and in a sound policy it is: at most 64
pub set-count-cardinality : (kind : Kind) (m : Model) → Shape m → (name : ℕ) → set_count kind m name ≡ (sets_of kind m name).card ∷ []
set-count-cardinality kind m shape name = set-count-listed kind m name (small (sets_of kind m name) (shape_of kind) (sets_of kind m name).there refl)
  where
    shape_of : (kind : Kind) → SetShape m name (sets_of kind m name)
    shape_of Static = shape.ssd name
    shape_of Dynamic = shape.dsd name

    small : (set : RoleSet) → SetShape m name set → (b : Bool) → set.there ≡ b → set.card < 65536
    small set x true e = omega (arith, x.at_most e, count-le set.roles)
    small set x false e = rw (x.absent e) (omega arith)

-- ---- "Reviews give ascending lists with no repeats"

settled-ascending : (rs : List Refusal) (m after : Model) (list : List ℕ) → ascending list ≡ true → ascending (settle rs m list after).results ≡ true
unfolding settle rising
settled-ascending rs m after list h = go (eqb (verdict rs) 0) refl
  where
    go : (b : Bool) → eqb (verdict rs) 0 ≡ b → ascending (settle rs m list after).results ≡ true
    go true e = rw (e, settle) h
    go false e = rw (e, settle)

one-ascending : (n : ℕ) → ascending (n ∷ []) ≡ true
unfolding rising
one-ascending n = and_both (leb 0 n) true (le-leb 0 n (omega arith)) refl

-- Whatever the policy, the room and the review, the results are strictly ascending.
pub results-ascending : (m : Model) (room : ℕ) (q : Question) → is_review q ≡ true → ascending (ask m room q).results ≡ true
unfolding ask is_review assigned_users assigned_roles auth_users auth_roles role_perms user_perms session_roles session_perms role_ops user_ops set_names set_roles set_count
results-ascending m room (Check s op obj) h = clash false h refl
results-ascending m room (AssignedUsers r) h = settled-ascending _ m m _ (members-ascending 256 _)
results-ascending m room (AssignedRoles u) h = settled-ascending _ m m _ (members-ascending 64 _)
results-ascending m room (AuthUsers r) h = settled-ascending _ m m _ (members-ascending 256 _)
results-ascending m room (AuthRoles u) h = settled-ascending _ m m _ (members-ascending 64 _)
results-ascending m room (RolePerms r) h = settled-ascending _ m m _ (members-ascending 4096 _)
results-ascending m room (UserPerms u) h = settled-ascending _ m m _ (members-ascending 4096 _)
results-ascending m room (SessionRoles s) h = settled-ascending _ m m _ (members-ascending 64 _)
results-ascending m room (SessionPerms s) h = settled-ascending _ m m _ (members-ascending 4096 _)
results-ascending m room (RoleOps r obj) h = settled-ascending _ m m _ (members-ascending 16 _)
results-ascending m room (UserOps u obj) h = settled-ascending _ m m _ (members-ascending 16 _)
results-ascending m room (Sets kind) h = settled-ascending _ m m _ (members-ascending 16 _)
results-ascending m room (SetRoles kind name) h = settled-ascending _ m m _ (members-ascending 64 _)
results-ascending m room (SetCount kind name) h = settled-ascending _ m m _ (one-ascending _)
