-- "Answer 14: an early end, bytes left over, a count or number beyond its limit (a cardinality has none here), a wrong order, an entry naming a
-- user or role not listed." Here is each fault of sections that are written in full; an early end and bytes left over are in FileForm.
-- Assumes nothing.
use mathlib.Core.List.{List, ◌∷◌, ◌++◌, Memᴰ}
use Rattle.std.specs.Prelude.{◌≡◌, ℕ, ◌<◌, length}
use Rattle.filebytes.specs.Sections.{SetEntry, SessionEntry, Sections, Listed, pair_before, grant_before}

-- "a wrong order": somewhere an entry is followed by one that it does not come before.
pub record Disordered {A : Type 0} (Before : A → A → Type 0) (list : List A) : Type 0 where
  pub front : List A
  pub one : A
  pub next : A
  pub rest : List A
  pub stand : list ≡ front ++ (one ∷ next ∷ rest)
  pub wrong : Before one next → ⊥

-- The faults of a list of roles inside an entry of a set or a session.
pub data ListFault (f : Sections) (list : List ℕ) : Type 0 where
  -- "a count .. beyond its limit"
  too_long : 64 < length list → ListFault f list
  -- "a wrong order"
  not_ascending : Disordered ◌<◌ list → ListFault f list
  -- "naming a .. role not listed"
  not_listed : (r : ℕ) → Listed r list → (Listed r f.roles → ⊥) → ListFault f list

-- The faults of an entry of a set.
pub data SetFault (f : Sections) (e : SetEntry) : Type 0 where
  -- "a .. number beyond its limit"
  name_beyond : 15 < e.name → SetFault f e
  in_members : ListFault f e.members → SetFault f e

-- The faults of an entry of a session.
pub data SessionFault (f : Sections) (e : SessionEntry) : Type 0 where
  number_beyond : 63 < e.number → SessionFault f e
  owner_unlisted : (Listed e.owner f.users → ⊥) → SessionFault f e
  in_active : ListFault f e.active → SessionFault f e

-- The faults of the sections.
pub data Fault (f : Sections) : Type 0 where
  -- "a count .. beyond its limit"
  many_users : 256 < length f.users → Fault f
  many_roles : 64 < length f.roles → Fault f
  many_lines : 512 < length f.lines → Fault f
  many_assignments : 2048 < length f.assignments → Fault f
  many_grants : 2048 < length f.grants → Fault f
  many_ssd : 16 < length f.ssd → Fault f
  many_dsd : 16 < length f.dsd → Fault f
  many_sessions : 64 < length f.sessions → Fault f
  -- "a .. number beyond its limit"
  user_beyond : (u : ℕ) → Listed u f.users → 255 < u → Fault f
  role_beyond : (r : ℕ) → Listed r f.roles → 63 < r → Fault f
  operation_beyond : (g : ℕ × ℕ × ℕ) → Memᴰ g f.grants → 15 < g.1 → Fault f
  object_beyond : (g : ℕ × ℕ × ℕ) → Memᴰ g f.grants → 255 < g.2 → Fault f
  -- "a wrong order"
  users_order : Disordered ◌<◌ f.users → Fault f
  roles_order : Disordered ◌<◌ f.roles → Fault f
  lines_order : Disordered pair_before f.lines → Fault f
  assignments_order : Disordered pair_before f.assignments → Fault f
  grants_order : Disordered grant_before f.grants → Fault f
  ssd_order : Disordered (λ a b. a.name < b.name) f.ssd → Fault f
  dsd_order : Disordered (λ a b. a.name < b.name) f.dsd → Fault f
  sessions_order : Disordered (λ a b. a.number < b.number) f.sessions → Fault f
  -- "an entry naming a user or role not listed"
  senior_unlisted : (l : ℕ × ℕ) → Memᴰ l f.lines → (Listed l.0 f.roles → ⊥) → Fault f
  junior_unlisted : (l : ℕ × ℕ) → Memᴰ l f.lines → (Listed l.1 f.roles → ⊥) → Fault f
  user_unlisted : (a : ℕ × ℕ) → Memᴰ a f.assignments → (Listed a.0 f.users → ⊥) → Fault f
  role_unlisted : (a : ℕ × ℕ) → Memᴰ a f.assignments → (Listed a.1 f.roles → ⊥) → Fault f
  holder_unlisted : (g : ℕ × ℕ × ℕ) → Memᴰ g f.grants → (Listed g.0 f.roles → ⊥) → Fault f
  -- A fault inside an entry of a set or a session.
  in_ssd : (e : SetEntry) → Memᴰ e f.ssd → SetFault f e → Fault f
  in_dsd : (e : SetEntry) → Memᴰ e f.dsd → SetFault f e → Fault f
  in_sessions : (e : SessionEntry) → Memᴰ e f.sessions → SessionFault f e → Fault f
