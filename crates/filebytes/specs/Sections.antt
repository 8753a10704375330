-- The policy file in the paper's own words: what its eight sections list, the bytes that they are written as, and when they are of the form.
-- No policy and no writer of the engine occurs here. Assumes nothing.
use mathlib.Core.List.{List, [], ◌∷◌, ◌++◌, Memᴰ}
use Rattle.std.specs.Prelude.{◌⊎◌, ◌≡◌, ℕ, ◌/◌, ◌%◌, ◌<◌, ◌≤◌, length}

-- ---- what is listed

-- "SSD sets (name, cardinality, member count, members); DSD sets alike"
pub record SetEntry : Type 0 where
  pub name : ℕ
  pub cardinality : ℕ
  pub members : List ℕ

-- "sessions (number, owner, active count, roles)"
pub record SessionEntry : Type 0 where
  pub number : ℕ
  pub owner : ℕ
  pub active : List ℕ

-- "Eight sections in this order .. : users; roles; lines (senior, junior); assignments (user, role); grants (role, operation, object); SSD sets
-- ..; DSD sets ..; sessions". They are any lists of any numbers: what they must obey is said below.
pub record Sections : Type 0 where
  pub users : List ℕ
  pub roles : List ℕ
  pub lines : List (ℕ × ℕ)
  pub assignments : List (ℕ × ℕ)
  pub grants : List (ℕ × ℕ × ℕ)
  pub ssd : List SetEntry
  pub dsd : List SetEntry
  pub sessions : List SessionEntry

-- ---- how it is written

-- "Sixteen-bit numbers, low byte first."
abbrev pub number : ℕ → List ℕ
number x = x % 256 ∷ x / 256 % 256 ∷ []

-- The entries one after another, each as it is written.
unfoldable pub entries : {A : Type 0} → (A → List ℕ) → List A → List ℕ
entries write [] = []
entries write (a ∷ rest) = write a ++ entries write rest

-- "each after its count": how many entries there are, and then the entries.
unfoldable pub listing : {A : Type 0} → (A → List ℕ) → List A → List ℕ
listing write list = number (length list) ++ entries write list

-- An entry: its numbers in the order in which the paper names them.
abbrev pub pair : ℕ × ℕ → List ℕ
pair p = number p.0 ++ number p.1

abbrev pub grant : ℕ × ℕ × ℕ → List ℕ
grant g = number g.0 ++ (number g.1 ++ number g.2)

abbrev pub set : SetEntry → List ℕ
set e = number e.name ++ (number e.cardinality ++ listing number e.members)

abbrev pub session : SessionEntry → List ℕ
session e = number e.number ++ (number e.owner ++ listing number e.active)

-- The whole file: the eight sections, one after another.
unfoldable pub bytes_of : Sections → List ℕ
bytes_of f =
    listing number f.users
    ++ (listing number f.roles
    ++ (listing pair f.lines
    ++ (listing pair f.assignments
    ++ (listing grant f.grants
    ++ (listing set f.ssd
    ++ (listing set f.dsd
    ++ listing session f.sessions))))))

-- ---- when it is of the form

-- Every entry of the list is so.
abbrev pub Every : {A : Type 0} → (A → Type 0) → List A → Type 0
Every P [] = Unit
Every P (a ∷ rest) = P a × Every P rest

-- "strictly ascending": every entry comes before each of those that follow it.
abbrev pub Ascending : {A : Type 0} → (A → A → Type 0) → List A → Type 0
Ascending Before [] = Unit
Ascending Before (a ∷ rest) = Every (Before a) rest × Ascending Before rest

-- A section or an inner list: "a count or number beyond its limit .., a wrong order, an entry naming a user or role not listed" are its faults.
pub record Good {A : Type 0} (limit : ℕ) (Fine : A → Type 0) (Before : A → A → Type 0) (list : List A) : Type 0 where
  -- There are at most so many entries.
  pub count : length list ≤ limit
  -- Every entry is fine by itself: none of its numbers is beyond its limit, and the users and roles that it names are listed.
  pub each : Every Fine list
  -- Each entry comes before those that follow it.
  pub order : Ascending Before list

-- The number is in the list.
abbrev pub Listed : ℕ → List ℕ → Type 0
Listed k list = Memᴰ k list

-- "compared by its leading numbers": the first number is lower; or it is the same and the second is lower; or both are the same and the third is
-- lower.
abbrev pub pair_before : ℕ × ℕ → ℕ × ℕ → Type 0
pair_before p q = (p.0 < q.0) ⊎ ((p.0 ≡ q.0) × (p.1 < q.1))

abbrev pub grant_before : ℕ × ℕ × ℕ → ℕ × ℕ × ℕ → Type 0
grant_before p q = (p.0 < q.0) ⊎ ((p.0 ≡ q.0) × ((p.1 < q.1) ⊎ ((p.1 ≡ q.1) × (p.2 < q.2))))

-- A list of roles inside an entry: at most 64, each of them listed in the section of roles, strictly ascending.
abbrev pub RoleList : Sections → List ℕ → Type 0
RoleList f list = Good 64 (λ r. Listed r f.roles) ◌<◌ list

-- A set's name is 0 to 15. A cardinality has no limit here but that of a sixteen-bit number.
pub record FineSet (f : Sections) (e : SetEntry) : Type 0 where
  pub name : e.name < 16
  pub cardinality : e.cardinality < 65536
  pub members : RoleList f e.members

-- A session's number is 0 to 63, and its owner is a listed user.
pub record FineSession (f : Sections) (e : SessionEntry) : Type 0 where
  pub number : e.number < 64
  pub owner : Listed e.owner f.users
  pub active : RoleList f e.active

-- "Users are 0 to 255, roles 0 to 63, sessions 0 to 63, SSD sets 0 to 15, DSD sets 0 to 15. Operations 0 to 15 and objects 0 to 255"; "At most
-- 2,048 assignments, 2,048 grants, 512 direct lines and 64 open sessions"; sets and sessions are compared "by the first one", their number.
pub record OfTheForm (f : Sections) : Type 0 where
  pub users : Good 256 (λ u. u < 256) ◌<◌ f.users
  pub roles : Good 64 (λ r. r < 64) ◌<◌ f.roles
  pub lines : Good 512 (λ l. (Listed l.0 f.roles) × (Listed l.1 f.roles)) pair_before f.lines
  pub assignments : Good 2048 (λ a. (Listed a.0 f.users) × (Listed a.1 f.roles)) pair_before f.assignments
  pub grants : Good 2048 (λ g. (Listed g.0 f.roles) × (g.1 < 16) × (g.2 < 256)) grant_before f.grants
  pub ssd : Good 16 (FineSet f) (λ a b. a.name < b.name) f.ssd
  pub dsd : Good 16 (FineSet f) (λ a b. a.name < b.name) f.dsd
  pub sessions : Good 64 (FineSession f) (λ a b. a.number < b.number) f.sessions

-- ---- what can be written at all

-- A list that can be written: at most 65,535 entries, since their count is a sixteen-bit number, each of which can be written.
abbrev pub Writable : {A : Type 0} → (A → Type 0) → List A → Type 0
Writable Fits list = (length list < 65536) × Every Fits list

-- The number is a sixteen-bit number.
abbrev pub Fits : ℕ → Type 0
Fits x = x < 65536

-- All numbers and counts are sixteen-bit numbers, so that the bytes say which they are. Nothing else is asked: the sections may be in any
-- order, name anybody, and be beyond every limit.
pub record Sixteen (f : Sections) : Type 0 where
  pub users : Writable Fits f.users
  pub roles : Writable Fits f.roles
  pub lines : Writable (λ l. Fits l.0 × Fits l.1) f.lines
  pub assignments : Writable (λ a. Fits a.0 × Fits a.1) f.assignments
  pub grants : Writable (λ g. Fits g.0 × Fits g.1 × Fits g.2) f.grants
  pub ssd : Writable (λ e. Fits e.name × Fits e.cardinality × Writable Fits e.members) f.ssd
  pub dsd : Writable (λ e. Fits e.name × Fits e.cardinality × Writable Fits e.members) f.dsd
  pub sessions : Writable (λ e. Fits e.number × Fits e.owner × Writable Fits e.active) f.sessions
