-- What storing one thing does to the policy and sessions, and what a part that is lent holds. Assumes nothing.
use Rattle.std.specs.Prelude.{Bool, true, false, List, ◌≡◌, ℕ, ltb, length}
use Rattle.roleset.specs.Roles.{with, without}
use Rattle.hierarchy.specs.Lines.{table_of}
use Rattle.model.specs.Model.{Model, RoleSet, Session, put}
use Rattle.model.specs.commands.Sets.{sets_of, with_sets}
use Rattle.model.specs.declared.Kind.{Kind}

-- something is stored at place k of n, and the model becomes `after`; at a place beyond, nothing is
unfoldable pub in_range : ℕ → ℕ → Model → Model → Model
in_range n k before after = elim (ltb k n) [ true ↦ after | false ↦ before ]

-- the set with the member k, or without it
abbrev pub pick_member : Bool → ℕ → ℕ → ℕ
pick_member true set k = with set k
pick_member false set k = without set k

-- the set `name` of the kind is this
abbrev pub set_stored : Kind → Model → ℕ → RoleSet → Model
set_stored kind m name set = with_sets kind m (put (sets_of kind m) name set)

-- the set with other roles
abbrev pub with_members : RoleSet → ℕ → RoleSet
with_members set roles = record { there = set.there; card = set.card; roles = roles }

-- the sessions with these active roles
abbrev pub with_active : (ℕ → Session) → (ℕ → ℕ) → ℕ → Session
with_active sessions roles s = record { live = (sessions s).live; owner = (sessions s).owner; active = roles s }

-- what is lent, or handed back, is this table of n numbers
pub record Table (n : ℕ) (table : ℕ → ℕ) (x : List ℕ) : Type 0 where
  pub long : length x ≡ n
  pub each : ◌≡◌ {A = ℕ → ℕ} (table_of x) table
