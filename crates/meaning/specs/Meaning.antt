-- What each word of a script asks for, with its first three numbers: one line for each word, in the words' order. Assumes nothing.
use Rattle.std.specs.Prelude.{List, [], ◌∷◌, map, ◌≡◌, refl, ℕ, Option}
use Rattle.std.specs.List.{slice_get}
use Rattle.std.specs.Option.{option_map}
use Prim.Native.String.{String}
use Rattle.words.specs.Bytes.{bytes}
use Rattle.words.specs.ScriptWords.{Word, words}
use Rattle.model.specs.declared.Kind.TheVariants.{Static, Dynamic}
use Rattle.model.specs.declared.Command.TheVariants.{Activate, AddMember, AddRole, AddUser, Assign, Deassign, Disinherit, DropActive, DropMember, DropSet, EndAll, EndSession, Grant, Inherit, MakeSet, NoRole, NoUser, OpenSession, Revoke, SetCardinality}
use Rattle.model.specs.declared.Question.TheVariants.{AssignedRoles, AssignedUsers, AuthRoles, AuthUsers, Check, RoleOps, RolePerms, SessionPerms, SessionRoles, SetCount, SetRoles, Sets, UserOps, UserPerms}
use Rattle.meaning.specs.declared.Meant.{Meant}
use Rattle.meaning.specs.declared.Meant.TheVariants.{Do, Ask}

-- a word, and what it asks for
pub record Row : Type 0 where
  pub spelling : List ℕ
  pub asks : Meant

abbrev row : String → Meant → Row
row text m = record { spelling = bytes text; asks = m }

unfoldable pub meanings : ℕ → ℕ → ℕ → List Row
meanings a b c =
    row "user" (Do (AddUser (record { number = a }))) ∷
    row "role" (Do (AddRole (record { number = a }))) ∷
    row "nouser" (Do (NoUser (record { number = a }))) ∷
    row "norole" (Do (NoRole (record { number = a }))) ∷
    row "assign" (Do (Assign (record { number = a }) (record { number = b }))) ∷
    row "deassign" (Do (Deassign (record { number = a }) (record { number = b }))) ∷
    row "grant" (Do (Grant a b (record { number = c }))) ∷
    row "revoke" (Do (Revoke a b (record { number = c }))) ∷
    row "inherit" (Do (Inherit (record { number = a }) (record { number = b }))) ∷
    row "disinherit" (Do (Disinherit (record { number = a }) (record { number = b }))) ∷
    row "session" (Do (OpenSession (record { number = a }))) ∷
    row "activate" (Do (Activate (record { number = a }) (record { number = b }) (record { number = c }))) ∷
    row "drop" (Do (DropActive (record { number = a }) (record { number = b }) (record { number = c }))) ∷
    row "end" (Do (EndSession (record { number = a }) (record { number = b }))) ∷
    row "ssd" (Do (MakeSet Static (record { number = a }) b)) ∷
    row "nossd" (Do (DropSet Static (record { number = a }))) ∷
    row "ssd-add" (Do (AddMember Static (record { number = a }) (record { number = b }))) ∷
    row "ssd-drop" (Do (DropMember Static (record { number = a }) (record { number = b }))) ∷
    row "ssd-card" (Do (SetCardinality Static (record { number = a }) b)) ∷
    row "dsd" (Do (MakeSet Dynamic (record { number = a }) b)) ∷
    row "nodsd" (Do (DropSet Dynamic (record { number = a }))) ∷
    row "dsd-add" (Do (AddMember Dynamic (record { number = a }) (record { number = b }))) ∷
    row "dsd-drop" (Do (DropMember Dynamic (record { number = a }) (record { number = b }))) ∷
    row "dsd-card" (Do (SetCardinality Dynamic (record { number = a }) b)) ∷
    row "check" (Ask (Check (record { number = a }) b c)) ∷
    row "assigned-users" (Ask (AssignedUsers (record { number = a }))) ∷
    row "assigned-roles" (Ask (AssignedRoles (record { number = a }))) ∷
    row "auth-users" (Ask (AuthUsers (record { number = a }))) ∷
    row "auth-roles" (Ask (AuthRoles (record { number = a }))) ∷
    row "role-perms" (Ask (RolePerms (record { number = a }))) ∷
    row "user-perms" (Ask (UserPerms (record { number = a }))) ∷
    row "session-roles" (Ask (SessionRoles (record { number = a }))) ∷
    row "session-perms" (Ask (SessionPerms (record { number = a }))) ∷
    row "role-ops" (Ask (RoleOps (record { number = a }) b)) ∷
    row "user-ops" (Ask (UserOps (record { number = a }) b)) ∷
    row "ssd-sets" (Ask (Sets Static)) ∷
    row "ssd-roles" (Ask (SetRoles Static (record { number = a }))) ∷
    row "ssd-count" (Ask (SetCount Static (record { number = a }))) ∷
    row "dsd-sets" (Ask (Sets Dynamic)) ∷
    row "dsd-roles" (Ask (SetRoles Dynamic (record { number = a }))) ∷
    row "dsd-count" (Ask (SetCount Dynamic (record { number = a }))) ∷
    row "end-all" (Do (EndAll (record { number = a }))) ∷
    []

-- The rows are those of the words, in the words' order.
pub in_order : (a b c : ℕ) → map (λ (r : Row). r.spelling) (meanings a b c) ≡ map (λ (w : Word). w.spelling) words
unfolding meanings words
in_order a b c = refl

-- past the last word there is nothing to mean
unfoldable pub meant : ℕ → ℕ → ℕ → ℕ → Option Meant
meant k a b c = option_map (λ (r : Row). r.asks) (slice_get (meanings a b c) k)
