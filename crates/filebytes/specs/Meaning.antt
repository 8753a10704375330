-- What a policy file says: the policy and sessions that its sections list, neither more nor less. Assumes nothing.
use Rattle.std.specs.Prelude.{true, ◌↔◌, ◌≡◌, ℕ, ◌+◌, ◌*◌, ◌<◌}
use mathlib.Core.List.{List, Memᴰ}
use Rattle.roleset.specs.Roles.{has}
use Rattle.model.specs.Model.{Model, RoleSet, Session}
use Rattle.filebytes.specs.Sections.{Sections, SetEntry, SessionEntry, Listed}

-- The set of the policy under an entry's name is there, has the entry's cardinality, and its members are those that the entry lists.
pub record SetAs (sets : ℕ → RoleSet) (e : SetEntry) : Type 0 where
  pub there : (sets e.name).there ≡ true
  pub cardinality : (sets e.name).card ≡ e.cardinality
  pub members : (r : ℕ) → (has (sets e.name).roles r ≡ true) ↔ Listed r e.members

-- The session under an entry's number is open, has the entry's owner, and its active roles are those that the entry lists.
pub record SessionAs (sessions : ℕ → Session) (e : SessionEntry) : Type 0 where
  pub live : (sessions e.number).live ≡ true
  pub owner : (sessions e.number).owner ≡ e.owner
  pub active : (r : ℕ) → (has (sessions e.number).active r ≡ true) ↔ Listed r e.active

-- Some entry of the list has this name, or this number.
abbrev pub SetNamed : ℕ → List SetEntry → Type 0
SetNamed n list = (e : SetEntry) × (Memᴰ e list) × (e.name ≡ n)

abbrev pub SessionNumbered : ℕ → List SessionEntry → Type 0
SessionNumbered n list = (e : SessionEntry) × (Memᴰ e list) × (e.number ≡ n)

-- The policy and sessions hold exactly what the sections list.
pub record Says (f : Sections) (m : Model) : Type 0 where
  -- A user or a role exists exactly when it is listed.
  pub users : (u : ℕ) → (m.users u ≡ true) ↔ Listed u f.users
  pub roles : (r : ℕ) → (has m.roles r ≡ true) ↔ Listed r f.roles
  -- "lines (senior, junior)": a direct line stands exactly when it is listed.
  pub lines : (senior junior : ℕ) → (has (m.juniors senior) junior ≡ true) ↔ Memᴰ (senior, junior) f.lines
  -- "assignments (user, role)": a user is assigned to a role exactly when that is listed.
  pub assignments : (u r : ℕ) → (has (m.assigned u) r ≡ true) ↔ Memᴰ (u, r) f.assignments
  -- "grants (role, operation, object)"; "Permission: an operation on an object, written as operation * 256 + object": a role holds a permission
  -- exactly when that is listed.
  pub grants : (r op obj : ℕ) → op < 16 → obj < 256 → (has (m.holders (op * 256 + obj)) r ≡ true) ↔ Memᴰ (r, op, obj) f.grants
  -- What is held is an operation, 0 to 15, on an object, 0 to 255.
  pub permissions : (p r : ℕ) → has (m.holders p) r ≡ true → p < 4096
  -- Every set that is listed stands in the policy as it is listed, and there is no set of another name.
  pub ssd : (e : SetEntry) → Memᴰ e f.ssd → SetAs m.ssd e
  pub ssd_only : (n : ℕ) → (m.ssd n).there ≡ true → SetNamed n f.ssd
  pub dsd : (e : SetEntry) → Memᴰ e f.dsd → SetAs m.dsd e
  pub dsd_only : (n : ℕ) → (m.dsd n).there ≡ true → SetNamed n f.dsd
  -- Every session that is listed is open as it is listed, and no other session is open.
  pub sessions : (e : SessionEntry) → Memᴰ e f.sessions → SessionAs m.sessions e
  pub sessions_only : (n : ℕ) → (m.sessions n).live ≡ true → SessionNumbered n f.sessions
