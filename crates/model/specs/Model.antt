-- What the engine is about: users, roles, lines, assignments, grants, separation sets and sessions. Everything a promise says is said of this record.
-- Assumes nothing.
use Rattle.std.specs.Prelude.{Bool, true, false, ℕ, eqb}
use Rattle.roleset.specs.Bounded.{total}
use Rattle.roleset.specs.Roles.{count}

-- an SSD or DSD set: "roles and a cardinality n", and whether it is there
abbrev pub RoleSet : Type 0
RoleSet = Rattle.model.specs.declared.RoleSet.RoleSet

-- a session: whether it is live, its owner and its active roles
abbrev pub Session : Type 0
Session = Rattle.model.specs.declared.SessionRecord.SessionRecord

-- The policy and the sessions. A set of roles is a number, as in `roleset`.
pub record Model : Type 0 where
  -- the users and the roles that exist
  pub users : ℕ → Bool
  pub roles : ℕ
  -- for each role, the roles directly below it
  pub juniors : ℕ → ℕ
  -- for each user, the roles assigned to it
  pub assigned : ℕ → ℕ
  -- for each permission, the roles that hold it
  pub holders : ℕ → ℕ
  -- the separation sets, by name
  pub ssd : ℕ → RoleSet
  pub dsd : ℕ → RoleSet
  -- the sessions, by number
  pub sessions : ℕ → Session
  -- how many assignments, grants and lines stand: kept, and in every policy of the engine's own the tables' own counts (`Counted` in Sound)
  pub assignment_count : ℕ
  pub grant_count : ℕ
  pub line_count : ℕ

-- a set that is not there, and a session that is not live
abbrev pub absent_set : RoleSet
absent_set = record { there = false; card = 0; roles = 0 }

abbrev pub closed_session : Session
closed_session = record { live = false; owner = 0; active = 0 }

-- "starting empty"
unfoldable pub empty : Model
empty = record { users = λ u. false; roles = 0; juniors = λ s. 0; assigned = λ u. 0; holders = λ p. 0; ssd = λ n. absent_set; dsd = λ n. absent_set; sessions = λ s. closed_session; assignment_count = 0; grant_count = 0; line_count = 0 }

-- ---- a table with one place changed, and a model with one part changed

-- the value at place i is v, and every other place is as it was
unfoldable pub put {ℓ} : {A : Type ℓ} → (ℕ → A) → ℕ → A → ℕ → A
put table i v k = elim (eqb k i) [ true ↦ v | false ↦ table k ]

abbrev pub with_users : Model → (ℕ → Bool) → Model
with_users m x = record { users = x; roles = m.roles; juniors = m.juniors; assigned = m.assigned; holders = m.holders; ssd = m.ssd; dsd = m.dsd; sessions = m.sessions; assignment_count = m.assignment_count; grant_count = m.grant_count; line_count = m.line_count }

abbrev pub with_roles : Model → ℕ → Model
with_roles m x = record { users = m.users; roles = x; juniors = m.juniors; assigned = m.assigned; holders = m.holders; ssd = m.ssd; dsd = m.dsd; sessions = m.sessions; assignment_count = m.assignment_count; grant_count = m.grant_count; line_count = m.line_count }

abbrev pub with_ssd : Model → (ℕ → RoleSet) → Model
with_ssd m x = record { users = m.users; roles = m.roles; juniors = m.juniors; assigned = m.assigned; holders = m.holders; ssd = x; dsd = m.dsd; sessions = m.sessions; assignment_count = m.assignment_count; grant_count = m.grant_count; line_count = m.line_count }

abbrev pub with_dsd : Model → (ℕ → RoleSet) → Model
with_dsd m x = record { users = m.users; roles = m.roles; juniors = m.juniors; assigned = m.assigned; holders = m.holders; ssd = m.ssd; dsd = x; sessions = m.sessions; assignment_count = m.assignment_count; grant_count = m.grant_count; line_count = m.line_count }

abbrev pub with_sessions : Model → (ℕ → Session) → Model
with_sessions m x = record { users = m.users; roles = m.roles; juniors = m.juniors; assigned = m.assigned; holders = m.holders; ssd = m.ssd; dsd = m.dsd; sessions = x; assignment_count = m.assignment_count; grant_count = m.grant_count; line_count = m.line_count }

-- other lines, assignments or grants, of which so many stand
abbrev pub with_lines : Model → (ℕ → ℕ) → ℕ → Model
with_lines m x n = record { users = m.users; roles = m.roles; juniors = x; assigned = m.assigned; holders = m.holders; ssd = m.ssd; dsd = m.dsd; sessions = m.sessions; assignment_count = m.assignment_count; grant_count = m.grant_count; line_count = n }

abbrev pub with_assignments : Model → (ℕ → ℕ) → ℕ → Model
with_assignments m x n = record { users = m.users; roles = m.roles; juniors = m.juniors; assigned = x; holders = m.holders; ssd = m.ssd; dsd = m.dsd; sessions = m.sessions; assignment_count = n; grant_count = m.grant_count; line_count = m.line_count }

abbrev pub with_grants : Model → (ℕ → ℕ) → ℕ → Model
with_grants m x n = record { users = m.users; roles = m.roles; juniors = m.juniors; assigned = m.assigned; holders = x; ssd = m.ssd; dsd = m.dsd; sessions = m.sessions; assignment_count = m.assignment_count; grant_count = n; line_count = m.line_count }

-- how many members the first n sets of a table have in all
unfoldable pub standing : ℕ → (ℕ → ℕ) → ℕ
standing n table = total n (λ k. count (table k))

-- other lines, assignments or grants, counted
abbrev pub with_juniors : Model → (ℕ → ℕ) → Model
with_juniors m x = with_lines m x (standing 64 x)

abbrev pub with_assigned : Model → (ℕ → ℕ) → Model
with_assigned m x = with_assignments m x (standing 256 x)

abbrev pub with_holders : Model → (ℕ → ℕ) → Model
with_holders m x = with_grants m x (standing 4096 x)
