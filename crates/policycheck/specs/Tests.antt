-- What the tests of a state find. Assumes nothing.
use Rattle.std.specs.Prelude.{Bool, true, false, ◌≡◌, ℕ, ◌<◌, ◌≤◌, ◌^◌}
use Rattle.roleset.specs.Roles.{has}
use Rattle.model.specs.Model.{Model, RoleSet, Session, absent_set, closed_session}

-- b says whether the statement holds
pub record Tells (b : Bool) (P : Type 0) : Type 0 where
  pub holds : b ≡ true → P
  pub says : P → b ≡ true

-- every role of the set is one of the roles
pub record Inside (roles set : ℕ) : Type 0 where
  pub small : set < 2 ^ 64
  pub each : (r : ℕ) → has set r ≡ true → has roles r ≡ true

-- what has roles is there
abbrev pub Backed : Bool → ℕ → Type 0
Backed there set = (r : ℕ) → has set r ≡ true → there ≡ true

-- a set of existing roles with any sixteen-bit cardinality, or all zero
pub record SetFine (roles : ℕ) (set : RoleSet) : Type 0 where
  pub absent : set.there ≡ false → set ≡ absent_set
  pub small : set.card < 65536
  pub members : Inside roles set.roles

-- a session of an existing user with existing roles, or all zero
pub record SessionFine (users : ℕ → Bool) (roles : ℕ) (session : Session) : Type 0 where
  pub closed : session.live ≡ false → session ≡ closed_session
  pub owned : session.live ≡ true → users session.owner ≡ true
  pub active : Inside roles session.active

-- every user and role that a line, an assignment or a grant names exists
pub record TablesFine (m : Model) : Type 0 where
  pub roles : m.roles < 2 ^ 64
  pub seniors : (s : ℕ) → Backed (has m.roles s) (m.juniors s)
  pub juniors : (s : ℕ) → Inside m.roles (m.juniors s)
  pub assignees : (u : ℕ) → Backed (m.users u) (m.assigned u)
  pub assigned : (u : ℕ) → Inside m.roles (m.assigned u)
  pub holders : (p : ℕ) → Inside m.roles (m.holders p)

-- no number is beyond its range; of a state this always holds
pub record Ranged (m : Model) : Type 0 where
  pub users : (u : ℕ) → m.users u ≡ true → u < 256
  pub permissions : (p r : ℕ) → has (m.holders p) r ≡ true → p < 4096
  pub ssd : (n : ℕ) → (m.ssd n).there ≡ true → n < 16
  pub dsd : (n : ℕ) → (m.dsd n).there ≡ true → n < 16
  pub sessions : (s : ℕ) → (m.sessions s).live ≡ true → s < 64

-- by what is kept of how full the tables are, none has more than its limit
pub record Few (m : Model) : Type 0 where
  pub lines : m.line_count ≤ 512
  pub assignments : m.assignment_count ≤ 2048
  pub grants : m.grant_count ≤ 2048

-- What a policy file may hold, where the kept counts are the tables' own (proofs/Forming): it is `Formed` with the limits asked of those counts.
pub record Fits (m : Model) : Type 0 where
  pub ranged : Ranged m
  pub few : Few m
  pub tables : TablesFine m
  pub ssd : (n : ℕ) → SetFine m.roles (m.ssd n)
  pub dsd : (n : ℕ) → SetFine m.roles (m.dsd n)
  pub sessions : (s : ℕ) → SessionFine m.users m.roles (m.sessions s)
