-- What the numbers of a state mean: the policy and sessions that they hold, and what a command tells that leaves them. Assumes nothing.
use Rattle.std.specs.Prelude.{Bool, not, List, [], ◌≡◌, ℕ, ◌-◌, ◌/◌, ◌%◌, ◌<◌, ◌^◌, eqb, get_or, length, take, drop}
use Rattle.roleset.specs.Roles.{has}
use Rattle.hierarchy.specs.Lines.{table_of}
use Rattle.numbers.specs.Answers.{Answer, number_of}
use Rattle.model.specs.Model.{Model, RoleSet, Session}
use Rattle.model.specs.Sheet.{Told}
use Rattle.state.specs.Places.{holders_at, assigned_at, juniors_at, ssd_cards_at, ssd_roles_at, dsd_cards_at, dsd_roles_at, owners_at, active_at, users_at, roles_at, assignment_count_at, grant_count_at, line_count_at, places}

-- the n numbers from place o on, as a table; past them there is 0
abbrev pub part : List ℕ → ℕ → ℕ → ℕ → ℕ
part l o n = table_of (take n (drop o l))

-- the members of a table of numbers: 64 to a number
abbrev pub bits : (ℕ → ℕ) → ℕ → Bool
bits words k = has (words (k / 64)) (k % 64)

-- a set by the number that stands for its cardinality, 0 for one that is not there and else one more, and its roles
abbrev pub set_of : ℕ → ℕ → RoleSet
set_of card roles = record { there = not (eqb card 0); card = card - 1; roles = roles }

-- a session by the number that stands for its owner, 0 for one that is closed and else one more, and its active roles
abbrev pub session_of : ℕ → ℕ → Session
session_of owner active = record { live = not (eqb owner 0); owner = owner - 1; active = active }

-- two tables as one of sets or of sessions
abbrev pub paired : {A : Type 0} → (ℕ → ℕ → A) → (ℕ → ℕ) → (ℕ → ℕ) → ℕ → A
paired make first second k = make (first k) (second k)

-- the policy and sessions that the numbers hold
unfoldable pub view : List ℕ → Model
view l =
    record {
      users = bits (part l users_at 4);
      roles = part l roles_at 1 0;
      juniors = part l juniors_at 64;
      assigned = part l assigned_at 256;
      holders = part l holders_at 4096;
      ssd = paired set_of (part l ssd_cards_at 16) (part l ssd_roles_at 16);
      dsd = paired set_of (part l dsd_cards_at 16) (part l dsd_roles_at 16);
      sessions = paired session_of (part l owners_at 64) (part l active_at 64);
      assignment_count = part l assignment_count_at 1 0;
      grant_count = part l grant_count_at 1 0;
      line_count = part l line_count_at 1 0;
    }

-- what a command tells that answers a and leaves the state l: the answer's number, no results, and the policy and sessions after it
unfoldable pub told : Answer → List ℕ → Told
told a l = record { answer = number_of a; results = []; after = view l }

-- what the type [u64; PLACES] says of a state: so many numbers, each below 2 ^ 64
pub record Numbers (l : List ℕ) : Type 0 where
  pub long : length l ≡ places
  pub small : (k : ℕ) → get_or l k 0 < 2 ^ 64
