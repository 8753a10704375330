-- How each entry of the file is gathered, without asking whether it is one: bytes past the end are 0, and what is out of range is dropped.
-- Nobody need believe these: that the file of a model is gathered as this model is a law (proofs/Whole). Assumes nothing.
use Rattle.std.specs.Prelude.{true, List, ◌≡◌, ℕ, ◌+◌, drop}
use Rattle.roleset.specs.Roles.{with}
use Rattle.model.specs.Model.{Model, put, with_users, with_lines, with_assignments, with_grants}
use Rattle.model.specs.Words.{permission}
use Rattle.model.specs.commands.Sessions.{open_for, session_set}
use Rattle.model.specs.commands.Sets.{a_set}
use Rattle.model.specs.declared.Kind.{Kind}
use Rattle.state.specs.Stores.{in_range, set_stored}
use Rattle.text.specs.Places.{word_at, read_section}

-- ---- one entry more. How many lines, assignments and grants stand is counted at the end, and 0 until then.

abbrev pub user_added : Model → ℕ → Model
user_added m u = in_range 256 u m (with_users m (put m.users u true))

abbrev pub line_added : Model → ℕ → ℕ → Model
line_added m s j = in_range 64 s m (with_lines m (put m.juniors s (with (m.juniors s) j)) 0)

abbrev pub assignment_added : Model → ℕ → ℕ → Model
assignment_added m u r = in_range 256 u m (with_assignments m (put m.assigned u (with (m.assigned u) r)) 0)

abbrev pub grant_added : Model → ℕ → ℕ → Model
grant_added m p r = in_range 4096 p m (with_grants m (put m.holders p (with (m.holders p) r)) 0)

abbrev pub set_added : Kind → Model → ℕ → ℕ → ℕ → Model
set_added kind m name card roles = in_range 16 name m (set_stored kind m name (a_set card roles))

abbrev pub session_added : Model → ℕ → ℕ → ℕ → Model
session_added m s owner active = in_range 64 s m (session_set m s (open_for owner active))

-- ---- each as it is read: from a place and a model to the next place and the model with the entry

unfoldable pub read_user : List ℕ → ℕ × Model → ℕ × Model
read_user bytes p = (p.0 + 2, user_added p.1 (word_at bytes p.0))

unfoldable pub read_role : List ℕ → ℕ × ℕ → ℕ × ℕ
read_role bytes p = (p.0 + 2, with p.1 (word_at bytes p.0))

-- two numbers
unfoldable pub read_pair : (Model → ℕ → ℕ → Model) → List ℕ → ℕ × Model → ℕ × Model
read_pair add bytes p = (p.0 + 4, add p.1 (word_at bytes p.0) (word_at bytes (p.0 + 2)))

abbrev pub read_line : List ℕ → ℕ × Model → ℕ × Model
read_line = read_pair line_added

abbrev pub read_assignment : List ℕ → ℕ × Model → ℕ × Model
read_assignment = read_pair assignment_added

unfoldable pub read_grant : List ℕ → ℕ × Model → ℕ × Model
read_grant bytes p = (p.0 + 6, grant_added p.1 (permission (word_at bytes (p.0 + 2)) (word_at bytes (p.0 + 4))) (word_at bytes p.0))

-- a list of roles
unfoldable pub read_roles : List ℕ → ℕ → ℕ × ℕ
read_roles bytes at = read_section bytes 64 (read_role bytes) at 0

-- two numbers and a list of roles
unfoldable pub read_entry : (Model → ℕ → ℕ → ℕ → Model) → List ℕ → ℕ × Model → ℕ × Model
read_entry add bytes p = ((read_roles bytes (p.0 + 4)).0, add p.1 (word_at bytes p.0) (word_at bytes (p.0 + 2)) (read_roles bytes (p.0 + 4)).1)

abbrev pub read_set : Kind → List ℕ → ℕ × Model → ℕ × Model
read_set kind = read_entry (set_added kind)

abbrev pub read_session : List ℕ → ℕ × Model → ℕ × Model
read_session = read_entry session_added

-- ---- what the code's functions say

-- how something is read of any bytes
abbrev pub Reading : Type 0 → Type 0
Reading A = List ℕ → ℕ × A → ℕ × A

abbrev pub Step : Type 0
Step = Reading Model

-- a section of at most so many entries
unfoldable pub entries : {A : Type 0} → ℕ → Reading A → Reading A
entries most step bytes p = read_section bytes most (step bytes) p.0 p.1

-- what is left of the bytes from a place on
pub record From (bytes : List ℕ) (at : ℕ) (rest : List ℕ) : Type 0 where
  pub is : rest ≡ drop at bytes

-- it was read where `before` was left: what is left then, and what there is then
pub record Read {A : Type 0} (reading : Reading A) (before : List ℕ) (a : A) (rest : List ℕ) (after : A) : Type 0 where
  pub left : (bytes : List ℕ) (at : ℕ) → From bytes at before → From bytes (reading bytes (at, a)).0 rest
  pub is : (bytes : List ℕ) (at : ℕ) → From bytes at before → after ≡ (reading bytes (at, a)).1
