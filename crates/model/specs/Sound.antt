-- What holds of the policy and sessions that the engine hands back: the rules of demand 3, the limits, and that every user and role they
-- name exists. Assumes nothing.
use Rattle.std.specs.Prelude.{true, false, ◌≡◌, ℕ, ◌≤◌, ◌<◌, ◌^◌}
use Rattle.roleset.specs.Roles.{has, count}
use Rattle.hierarchy.specs.Lines.{line, Acyclic}
use Rattle.model.specs.Model.{Model, RoleSet, Session, absent_set, closed_session}
use Rattle.model.specs.Words.{authorised, static_broken, dynamic_broken, assignments, grants, lines_standing}

-- every member of the set is a role that exists; a set is a number below 2 ^ 64
pub record Existing (m : Model) (set : ℕ) : Type 0 where
  pub small : set < 2 ^ 64
  pub exist : (r : ℕ) → has set r ≡ true → has m.roles r ≡ true

-- "SSD set: roles and a cardinality n, 2 <= n <= number of its roles."
pub record SetShape (m : Model) (n : ℕ) (set : RoleSet) : Type 0 where
  -- Of a set that is not there nothing is kept.
  pub absent : set.there ≡ false → set ≡ absent_set
  -- The name n of a set that is there is one of 0 to 15,
  pub named : set.there ≡ true → n < 16
  -- its cardinality is at least 2
  pub at_least : set.there ≡ true → 2 ≤ set.card
  -- and at most the number of its roles,
  pub at_most : set.there ≡ true → set.card ≤ count set.roles
  -- and its roles exist.
  pub members : Existing m set.roles

-- a session is open for a user that exists, or all zero
pub record SessionShape (m : Model) (s : ℕ) (session : Session) : Type 0 where
  pub closed : session.live ≡ false → session ≡ closed_session
  pub numbered : session.live ≡ true → s < 64
  pub owned : session.live ≡ true → m.users session.owner ≡ true
  pub active : Existing m session.active

-- every user and role that is named exists, and no number is beyond its range
pub record Shape (m : Model) : Type 0 where
  pub users : (u : ℕ) → m.users u ≡ true → u < 256
  pub roles : m.roles < 2 ^ 64
  pub seniors : (s j : ℕ) → line m.juniors s j ≡ true → has m.roles s ≡ true
  pub juniors : (s : ℕ) → Existing m (m.juniors s)
  pub assignees : (u r : ℕ) → has (m.assigned u) r ≡ true → m.users u ≡ true
  pub assigned : (u : ℕ) → Existing m (m.assigned u)
  pub permissions : (p r : ℕ) → has (m.holders p) r ≡ true → p < 4096
  pub holders : (p : ℕ) → Existing m (m.holders p)
  pub ssd : (n : ℕ) → SetShape m n (m.ssd n)
  pub dsd : (n : ℕ) → SetShape m n (m.dsd n)
  pub sessions : (s : ℕ) → SessionShape m s (m.sessions s)

-- "At most 2,048 assignments, 2,048 grants, 512 direct lines and 64 open sessions stand at once." (A session's number is below 64.)
pub record Limits (m : Model) : Type 0 where
  pub assigned : assignments m ≤ 2048
  pub granted : grants m ≤ 2048
  pub lined : lines_standing m ≤ 512

-- what is kept of how full the tables are is what they hold
pub record Counted (m : Model) : Type 0 where
  pub assigned : m.assignment_count ≡ assignments m
  pub granted : m.grant_count ≡ grants m
  pub lined : m.line_count ≡ lines_standing m

-- the rules of demand 3
pub record Rules (m : Model) : Type 0 where
  -- no role inherits itself
  pub acyclic : Acyclic m.juniors
  -- every active role is one its owner is authorised for
  pub active : (s r : ℕ) → has (m.sessions s).active r ≡ true → has (authorised m (m.sessions s).owner) r ≡ true
  -- no user is authorised for as many roles of a static set as its cardinality
  pub static : (u : ℕ) → static_broken m u ≡ false
  -- no session has that many effective roles of a dynamic set
  pub dynamic : (s : ℕ) → dynamic_broken m s ≡ false

pub record Sound (m : Model) : Type 0 where
  pub shape : Shape m
  pub limits : Limits m
  pub counted : Counted m
  pub rules : Rules m
