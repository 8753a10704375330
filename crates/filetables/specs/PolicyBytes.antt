-- Four policy files and the empty one, byte by byte, each row beside what it says. "Sixteen-bit numbers, low byte first. Eight sections in this
-- order, each after its count." Assumes nothing.
use Rattle.std.specs.Prelude.{true, false, List, [], ◌∷◌, ◌++◌, ◌≡◌, ℕ, ◌≤◌, ◌<◌, length, drop}
use Rattle.roleset.specs.Bounded.{some}
use Rattle.model.specs.Model.{Model, empty}
use Rattle.model.specs.Words.{breaks_some}
use Rattle.model.specs.Sheet.{Told, done, refused}
use Rattle.policyform.specs.Form.{FileOf}
use Rattle.policyform.specs.Promises.{Saves, Loads}
use Rattle.benchsheet.specs.Lines.{at_the_bench}
use Rattle.demands.specs.Reachable.{Reachable}
use Rattle.filebytes.specs.Sections.{Sections}
use Rattle.filebytes.specs.Meaning.{Says}
use Rattle.filetables.specs.Rows.{Row, ◌⇒◌, bytes_in}

-- ---- the paper's bench policy: the one after the first ten lines of its example

abbrev pub bench_file : List Row
bench_file =
    "1 user" ⇒ (1 ∷ 0 ∷ [])
    ∷ "user 7" ⇒ (7 ∷ 0 ∷ [])
    ∷ "3 roles" ⇒ (3 ∷ 0 ∷ [])
    ∷ "roles 0, 1 and 2" ⇒ (0 ∷ 0 ∷ 1 ∷ 0 ∷ 2 ∷ 0 ∷ [])
    ∷ "1 line" ⇒ (1 ∷ 0 ∷ [])
    ∷ "senior 2, junior 0" ⇒ (2 ∷ 0 ∷ 0 ∷ 0 ∷ [])
    ∷ "1 assignment" ⇒ (1 ∷ 0 ∷ [])
    ∷ "user 7, role 2" ⇒ (7 ∷ 0 ∷ 2 ∷ 0 ∷ [])
    ∷ "1 grant" ⇒ (1 ∷ 0 ∷ [])
    ∷ "role 0, operation 4, object 30" ⇒ (0 ∷ 0 ∷ 4 ∷ 0 ∷ 30 ∷ 0 ∷ [])
    ∷ "1 SSD set" ⇒ (1 ∷ 0 ∷ [])
    ∷ "name 0, cardinality 2, 2 members: roles 0 and 1" ⇒ (0 ∷ 0 ∷ 2 ∷ 0 ∷ 2 ∷ 0 ∷ 0 ∷ 0 ∷ 1 ∷ 0 ∷ [])
    ∷ "no DSD set" ⇒ (0 ∷ 0 ∷ [])
    ∷ "1 session" ⇒ (1 ∷ 0 ∷ [])
    ∷ "number 0, owner 7, 1 active: role 2" ⇒ (0 ∷ 0 ∷ 7 ∷ 0 ∷ 1 ∷ 0 ∷ 2 ∷ 0 ∷ [])
    ∷ []

-- ---- a policy with several entries in the sections, so that their order shows

abbrev pub mixed_sections : Sections
mixed_sections =
    record {
      users = 7 ∷ 200 ∷ [];
      roles = 0 ∷ 1 ∷ 2 ∷ 3 ∷ 63 ∷ [];
      lines = (2, 0) ∷ (63, 1) ∷ (63, 2) ∷ [];
      assignments = (7, 1) ∷ (7, 2) ∷ (200, 63) ∷ [];
      grants = (0, 4, 30) ∷ (0, 4, 31) ∷ (0, 15, 200) ∷ (63, 0, 255) ∷ [];
      ssd = record { name = 4; cardinality = 2; members = 1 ∷ 3 ∷ [] } ∷ record { name = 9; cardinality = 2; members = 3 ∷ 63 ∷ [] } ∷ [];
      dsd = record { name = 5; cardinality = 3; members = 0 ∷ 1 ∷ 2 ∷ [] } ∷ record { name = 15; cardinality = 2; members = 1 ∷ 2 ∷ [] } ∷ [];
      sessions = record { number = 0; owner = 200; active = 2 ∷ [] } ∷ record { number = 1; owner = 7; active = 0 ∷ 2 ∷ [] } ∷ [];
    }

abbrev pub mixed_file : List Row
mixed_file =
    "2 users" ⇒ (2 ∷ 0 ∷ [])
    ∷ "user 7" ⇒ (7 ∷ 0 ∷ [])
    ∷ "user 200" ⇒ (200 ∷ 0 ∷ [])
    ∷ "5 roles" ⇒ (5 ∷ 0 ∷ [])
    ∷ "roles 0, 1, 2, 3 and 63" ⇒ (0 ∷ 0 ∷ 1 ∷ 0 ∷ 2 ∷ 0 ∷ 3 ∷ 0 ∷ 63 ∷ 0 ∷ [])
    ∷ "3 lines" ⇒ (3 ∷ 0 ∷ [])
    ∷ "senior 2, junior 0" ⇒ (2 ∷ 0 ∷ 0 ∷ 0 ∷ [])
    ∷ "senior 63, junior 1" ⇒ (63 ∷ 0 ∷ 1 ∷ 0 ∷ [])
    ∷ "senior 63, junior 2" ⇒ (63 ∷ 0 ∷ 2 ∷ 0 ∷ [])
    ∷ "3 assignments" ⇒ (3 ∷ 0 ∷ [])
    ∷ "user 7, role 1" ⇒ (7 ∷ 0 ∷ 1 ∷ 0 ∷ [])
    ∷ "user 7, role 2" ⇒ (7 ∷ 0 ∷ 2 ∷ 0 ∷ [])
    ∷ "user 200, role 63" ⇒ (200 ∷ 0 ∷ 63 ∷ 0 ∷ [])
    ∷ "4 grants" ⇒ (4 ∷ 0 ∷ [])
    ∷ "role 0, operation 4, object 30" ⇒ (0 ∷ 0 ∷ 4 ∷ 0 ∷ 30 ∷ 0 ∷ [])
    ∷ "role 0, operation 4, object 31" ⇒ (0 ∷ 0 ∷ 4 ∷ 0 ∷ 31 ∷ 0 ∷ [])
    ∷ "role 0, operation 15, object 200" ⇒ (0 ∷ 0 ∷ 15 ∷ 0 ∷ 200 ∷ 0 ∷ [])
    ∷ "role 63, operation 0, object 255" ⇒ (63 ∷ 0 ∷ 0 ∷ 0 ∷ 255 ∷ 0 ∷ [])
    ∷ "2 SSD sets" ⇒ (2 ∷ 0 ∷ [])
    ∷ "name 4, cardinality 2, 2 members: roles 1 and 3" ⇒ (4 ∷ 0 ∷ 2 ∷ 0 ∷ 2 ∷ 0 ∷ 1 ∷ 0 ∷ 3 ∷ 0 ∷ [])
    ∷ "name 9, cardinality 2, 2 members: roles 3 and 63" ⇒ (9 ∷ 0 ∷ 2 ∷ 0 ∷ 2 ∷ 0 ∷ 3 ∷ 0 ∷ 63 ∷ 0 ∷ [])
    ∷ "2 DSD sets" ⇒ (2 ∷ 0 ∷ [])
    ∷ "name 5, cardinality 3, 3 members: roles 0, 1 and 2" ⇒ (5 ∷ 0 ∷ 3 ∷ 0 ∷ 3 ∷ 0 ∷ 0 ∷ 0 ∷ 1 ∷ 0 ∷ 2 ∷ 0 ∷ [])
    ∷ "name 15, cardinality 2, 2 members: roles 1 and 2" ⇒ (15 ∷ 0 ∷ 2 ∷ 0 ∷ 2 ∷ 0 ∷ 1 ∷ 0 ∷ 2 ∷ 0 ∷ [])
    ∷ "2 sessions" ⇒ (2 ∷ 0 ∷ [])
    ∷ "number 0, owner 200, 1 active: role 2" ⇒ (0 ∷ 0 ∷ 200 ∷ 0 ∷ 1 ∷ 0 ∷ 2 ∷ 0 ∷ [])
    ∷ "number 1, owner 7, 2 active: roles 0 and 2" ⇒ (1 ∷ 0 ∷ 7 ∷ 0 ∷ 2 ∷ 0 ∷ 0 ∷ 0 ∷ 2 ∷ 0 ∷ [])
    ∷ []

-- ---- a file with a number above 255, which only a cardinality and a count can be: it is of the form, and its load is refused with 7

abbrev pub wide_file : List Row
wide_file =
    "no user" ⇒ (0 ∷ 0 ∷ [])
    ∷ "1 role" ⇒ (1 ∷ 0 ∷ [])
    ∷ "role 6" ⇒ (6 ∷ 0 ∷ [])
    ∷ "no line" ⇒ (0 ∷ 0 ∷ [])
    ∷ "no assignment" ⇒ (0 ∷ 0 ∷ [])
    ∷ "no grant" ⇒ (0 ∷ 0 ∷ [])
    ∷ "1 SSD set" ⇒ (1 ∷ 0 ∷ [])
    ∷ "name 3, cardinality 258 = 2 + 256 * 1, 1 member: role 6" ⇒ (3 ∷ 0 ∷ 2 ∷ 1 ∷ 1 ∷ 0 ∷ 6 ∷ 0 ∷ [])
    ∷ "no DSD set" ⇒ (0 ∷ 0 ∷ [])
    ∷ "no session" ⇒ (0 ∷ 0 ∷ [])
    ∷ []

-- ---- a file that an engine before request 2 could save: a session has two seniors active, and through them both roles of a dynamic set effective

abbrev pub seniors_sections : Sections
seniors_sections =
    record {
      users = 7 ∷ [];
      roles = 0 ∷ 1 ∷ 2 ∷ 3 ∷ [];
      lines = (2, 0) ∷ (3, 1) ∷ [];
      assignments = (7, 2) ∷ (7, 3) ∷ [];
      grants = (0, 0, 30) ∷ (1, 2, 30) ∷ [];
      ssd = [];
      dsd = record { name = 0; cardinality = 2; members = 0 ∷ 1 ∷ [] } ∷ [];
      sessions = record { number = 0; owner = 7; active = 2 ∷ 3 ∷ [] } ∷ [];
    }

abbrev pub seniors_file : List Row
seniors_file =
    "1 user" ⇒ (1 ∷ 0 ∷ [])
    ∷ "user 7" ⇒ (7 ∷ 0 ∷ [])
    ∷ "4 roles" ⇒ (4 ∷ 0 ∷ [])
    ∷ "roles 0, 1, 2 and 3" ⇒ (0 ∷ 0 ∷ 1 ∷ 0 ∷ 2 ∷ 0 ∷ 3 ∷ 0 ∷ [])
    ∷ "2 lines" ⇒ (2 ∷ 0 ∷ [])
    ∷ "senior 2, junior 0" ⇒ (2 ∷ 0 ∷ 0 ∷ 0 ∷ [])
    ∷ "senior 3, junior 1" ⇒ (3 ∷ 0 ∷ 1 ∷ 0 ∷ [])
    ∷ "2 assignments" ⇒ (2 ∷ 0 ∷ [])
    ∷ "user 7, role 2" ⇒ (7 ∷ 0 ∷ 2 ∷ 0 ∷ [])
    ∷ "user 7, role 3" ⇒ (7 ∷ 0 ∷ 3 ∷ 0 ∷ [])
    ∷ "2 grants" ⇒ (2 ∷ 0 ∷ [])
    ∷ "role 0, operation 0, object 30" ⇒ (0 ∷ 0 ∷ 0 ∷ 0 ∷ 30 ∷ 0 ∷ [])
    ∷ "role 1, operation 2, object 30" ⇒ (1 ∷ 0 ∷ 2 ∷ 0 ∷ 30 ∷ 0 ∷ [])
    ∷ "no SSD set" ⇒ (0 ∷ 0 ∷ [])
    ∷ "1 DSD set" ⇒ (1 ∷ 0 ∷ [])
    ∷ "name 0, cardinality 2, 2 members: roles 0 and 1" ⇒ (0 ∷ 0 ∷ 2 ∷ 0 ∷ 2 ∷ 0 ∷ 0 ∷ 0 ∷ 1 ∷ 0 ∷ [])
    ∷ "1 session" ⇒ (1 ∷ 0 ∷ [])
    ∷ "number 0, owner 7, 2 active: roles 2 and 3" ⇒ (0 ∷ 0 ∷ 7 ∷ 0 ∷ 2 ∷ 0 ∷ 2 ∷ 0 ∷ 3 ∷ 0 ∷ [])
    ∷ []

-- ---- what is saved and loaded

-- P12: "the empty policy saved" is "sixteen zero bytes"
abbrev pub empty_file : List Row
empty_file = "sixteen zero bytes" ⇒ (0 ∷ 0 ∷ 0 ∷ 0 ∷ 0 ∷ 0 ∷ 0 ∷ 0 ∷ 0 ∷ 0 ∷ 0 ∷ 0 ∷ 0 ∷ 0 ∷ 0 ∷ 0 ∷ []) ∷ []

-- Saving the policy into a buffer that has room for these bytes answers 0 and their number; they stand at the front, and past them is what was
-- there before.
abbrev pub SavedAs : Model → List ℕ → Type 0
SavedAs m bytes = (out after : List ℕ) (answer size : ℕ) → length bytes ≤ length out → Saves m out after answer size → (answer ≡ 0) × (size ≡ length bytes) × (after ≡ bytes ++ drop (length bytes) out)

-- Saving the policy into a shorter buffer answers 15, and leaves the buffer as it was.
abbrev pub NoRoomFor : Model → List ℕ → Type 0
NoRoomFor m bytes = (out after : List ℕ) (answer size : ℕ) → length out < length bytes → Saves m out after answer size → (answer ≡ 15) × (after ≡ out)

-- Loading these bytes over any policy is done, and leaves this policy and its sessions.
abbrev pub LoadedAs : List ℕ → Model → Type 0
LoadedAs bytes m = (before : Model) (told : Told) → Loads before bytes told → told ≡ done [] m

-- The bytes are the policy's file, in each way that this can be asked.
pub record FileIs (m : Model) (bytes : List ℕ) : Type 0 where
  pub saved : SavedAs m bytes
  pub short : NoRoomFor m bytes
  pub loaded : LoadedAs bytes m

pub record PolicyBytes : Type 0 where
  -- P12: the empty policy saved is sixteen zero bytes.
  pub empty_policy : FileIs empty (bytes_in empty_file)
  -- The bench policy has the first table as its file.
  pub bench_policy : FileIs at_the_bench (bytes_in bench_file)
  -- A policy of ours that holds what the sections above list has the second table as its file, and loading that gives such a policy.
  pub mixed_policy : (m : Model) → Reachable m → Says mixed_sections m → FileIs m (bytes_in mixed_file)
  pub mixed_loaded : (before : Model) (told : Told) → Loads before (bytes_in mixed_file) told → (told.answer ≡ 0) × Says mixed_sections told.after
  -- The third table is a file, and only of a policy whose static set 3 has the cardinality 258. Loading it is refused with 7, and nothing changes.
  pub wide_policy : (m : Model) × FileOf m (bytes_in wide_file)
  pub wide_number : (m : Model) → FileOf m (bytes_in wide_file) → ((m.ssd 3).there ≡ true) × ((m.ssd 3).card ≡ 258)
  pub wide_refused : (before : Model) (told : Told) → Loads before (bytes_in wide_file) told → told ≡ refused 7 before
  -- The fourth is the file of a policy that holds what its sections list; by the rule over active roles alone no session of it breaks a dynamic set.
  -- Loading it is refused with 11, and nothing changes.
  pub seniors_policy : (m : Model) × FileOf m (bytes_in seniors_file)
  pub seniors_says : (m : Model) → FileOf m (bytes_in seniors_file) → Says seniors_sections m
  pub seniors_active : (m : Model) → FileOf m (bytes_in seniors_file) → some 64 (λ k. breaks_some m.dsd (m.sessions k).active) ≡ false
  pub seniors_refused : (before : Model) (told : Told) → Loads before (bytes_in seniors_file) told → told ≡ refused 11 before
