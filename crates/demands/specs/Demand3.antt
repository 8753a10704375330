-- Demand 3: what holds of every policy and its sessions "from the empty policy, after any commands, refused ones and accepted loads included".
-- Assumes nothing.
use Rattle.std.specs.Prelude.{true, false, [], ◌∷◌, ◌≡◌, ℕ, ◌+◌, ◌*◌, ◌≤◌}
use Rattle.roleset.specs.Roles.{has}
use Rattle.hierarchy.specs.Lines.{line, Inherits, Chain}
use Rattle.model.specs.Model.{Model, absent_set, closed_session}
use Rattle.model.specs.Sheet.{done}
use Rattle.model.specs.commands.Sets.{sets_of}
use Rattle.model.specs.commands.Sessions.{check}
use Rattle.model.specs.declared.Kind.{Kind}
use Rattle.demands.specs.Authorised.{Authorised, Effective}
use Rattle.demands.specs.Broken.{StaticBroken, DynamicBroken}
use Rattle.demands.specs.Many.{AsMany}
use Rattle.demands.specs.Reachable.{Reachable}

-- ---- the rules

-- The role through which the session's access goes: an effective one that holds the permission, and that the owner is authorised for at that moment.
pub record Through (m : Model) (s p : ℕ) : Type 0 where
  pub role : ℕ
  pub effective : Effective m s role
  pub holds : has (m.holders p) role ≡ true
  pub authorised : Authorised m (m.sessions s).owner role

-- The rules of demand 3, in its own words.
pub record Rules (m : Model) : Type 0 where
  -- "no role inherits itself"
  pub circles : (r : ℕ) → Inherits m.juniors r r → ⊥
  -- "every active role is one its owner is authorised for"
  pub active : (s r : ℕ) → has (m.sessions s).active r ≡ true → Authorised m (m.sessions s).owner r
  -- "and access goes only through such a role"
  pub access : (s op obj n : ℕ) → check m s op obj ≡ done (1 ∷ n ∷ []) m → Through m s (op * 256 + obj)
  -- "no user is authorised (inheritance counted) for as many roles of a static set as its cardinality"
  pub static : StaticBroken m → ⊥
  -- "a session may have fewer than n effective roles of a dynamic set" (request 2)
  pub dynamic : DynamicBroken m → ⊥
  -- No chain of inheritance has more than 64 roles.
  pub chains : (r : ℕ) → Chain m.juniors 65 r → ⊥

-- ---- the shape

-- A promise may suppose "that every user and role they name exists, and that their SSD and DSD sets have the shape below": it is so.
pub record Shape (m : Model) : Type 0 where
  -- "Users are 0 to 255, roles 0 to 63, sessions 0 to 63, SSD sets 0 to 15, DSD sets 0 to 15", permissions "0 to 4,095"
  pub users : (u : ℕ) → m.users u ≡ true → u ≤ 255
  pub roles : (r : ℕ) → has m.roles r ≡ true → r ≤ 63
  pub sessions : (s : ℕ) → (m.sessions s).live ≡ true → s ≤ 63
  pub sets : (kind : Kind) (name : ℕ) → (sets_of kind m name).there ≡ true → name ≤ 15
  pub permissions : (p r : ℕ) → has (m.holders p) r ≡ true → p ≤ 4095
  -- A line joins two roles that exist; an assignment names a user and a role that exist; a grant names a role that exists.
  pub lines : (senior junior : ℕ) → line m.juniors senior junior ≡ true → (has m.roles senior ≡ true) × (has m.roles junior ≡ true)
  pub assignments : (u r : ℕ) → has (m.assigned u) r ≡ true → (m.users u ≡ true) × (has m.roles r ≡ true)
  pub grants : (p r : ℕ) → has (m.holders p) r ≡ true → has m.roles r ≡ true
  -- A member of a set, and an active role, exists, and the set is there, or the session open, for a user that exists.
  pub members : (kind : Kind) (name r : ℕ) → has (sets_of kind m name).roles r ≡ true → ((sets_of kind m name).there ≡ true) × (has m.roles r ≡ true)
  pub actives : (s r : ℕ) → has (m.sessions s).active r ≡ true → ((m.sessions s).live ≡ true) × (has m.roles r ≡ true)
  pub owners : (s : ℕ) → (m.sessions s).live ≡ true → m.users (m.sessions s).owner ≡ true
  -- "SSD set: roles and a cardinality n, 2 <= n <= number of its roles." "DSD set: the same shape."
  pub at_least : (kind : Kind) (name : ℕ) → (sets_of kind m name).there ≡ true → 2 ≤ (sets_of kind m name).card
  pub at_most : (kind : Kind) (name : ℕ) → (sets_of kind m name).there ≡ true → AsMany (sets_of kind m name).card (λ r. has (sets_of kind m name).roles r ≡ true)
  -- Of a set that is not there, and of a session that is not open, nothing is kept.
  pub absent : (kind : Kind) (name : ℕ) → (sets_of kind m name).there ≡ false → sets_of kind m name ≡ absent_set
  pub closed : (s : ℕ) → (m.sessions s).live ≡ false → m.sessions s ≡ closed_session

-- "At most 2,048 assignments, 2,048 grants, 512 direct lines and 64 open sessions stand at once": never one more.
pub record Limits (m : Model) : Type 0 where
  pub assignments : AsMany 2049 (λ (p : ℕ × ℕ). has (m.assigned p.0) p.1 ≡ true) → ⊥
  pub grants : AsMany 2049 (λ (p : ℕ × ℕ). has (m.holders p.0) p.1 ≡ true) → ⊥
  pub lines : AsMany 513 (λ (p : ℕ × ℕ). has (m.juniors p.0) p.1 ≡ true) → ⊥
  pub sessions : AsMany 65 (λ s. (m.sessions s).live ≡ true) → ⊥

-- They hold of every policy that can be reached.
pub record Demand3 : Type 0 where
  pub rules : (m : Model) → Reachable m → Rules m
  pub shape : (m : Model) → Reachable m → Shape m
  pub limits : (m : Model) → Reachable m → Limits m
