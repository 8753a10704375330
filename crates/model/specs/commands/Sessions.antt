-- `session`, `activate`, `drop`, `end`; the question `check`, and whose a session is. Assumes nothing.
use Rattle.std.specs.Prelude.{Bool, true, false, not, ◌||◌, List, [], ◌∷◌, ℕ, zero, suc, eqb, leb, length}
use Rattle.roleset.specs.Bounded.{bit, members}
use Rattle.roleset.specs.Roles.{has, with, without, common, subset, is_empty}
use Rattle.numbers.specs.Ranges.{sessions}
use Rattle.model.specs.Model.{Model, Session, put, with_sessions}
use Rattle.model.specs.Model as model
use Rattle.model.specs.Sheet.{Told, ◌when◌, settle}
use Rattle.model.specs.Words.{authorised, effective, dynamic_broken, permission, sessions_open}
use Rattle.model.specs.Lists.{ascending, some_from, set_of, up_to_first}
use Rattle.model.specs.commands.Naming.{user_beyond, role_beyond, session_beyond, permission_beyond, user_missing, role_missing, session_missing}

-- the first number from k on, among so many, that no live session has; the one past them where all are live
unfoldable pub free_from : (ℕ → Session) → ℕ → ℕ → ℕ
free_from table zero k = k
free_from table (suc left) k = elim (table k).live [ true ↦ free_from table left (suc k) | false ↦ k ]

-- "the lowest free session number"; 64 where none is free
abbrev pub lowest_free : Model → ℕ
lowest_free m = free_from m.sessions 64 0

-- session s is this
abbrev pub session_set : Model → ℕ → Session → Model
session_set m s x = with_sessions m (put m.sessions s x)

-- the session is open for its owner, with these roles active
abbrev pub open_for : ℕ → ℕ → Session
open_for u roles = record { live = true; owner = u; active = roles }

unfoldable pub opened : Model → ℕ → ℕ → Model
opened m u roles = session_set m (lowest_free m) (open_for u roles)

-- "`session u r..`: 1, 2, 9, 11, 12; the result is the lowest free session number." A list that is not strictly ascending is 14
unfoldable pub session : Model → ℕ → List ℕ → Told
session m u list =
    settle
    (14 when not (ascending list)
    ∷ 1 when (user_beyond u || some_from 64 list)
    ∷ 2 when (user_missing m u || not (subset (set_of list) m.roles))
    ∷ 9 when not (subset (set_of list) (authorised m u))
    ∷ 11 when dynamic_broken (opened m u (set_of list)) (lowest_free m)
    ∷ 12 when leb sessions (sessions_open m)
    ∷ [])
    m
    (lowest_free m ∷ [])
    (opened m u (set_of list))

-- the session's active roles are these
unfoldable pub active_set : Model → ℕ → ℕ → Model
active_set m s roles = session_set m s (record { live = (m.sessions s).live; owner = (m.sessions s).owner; active = roles })

-- "the session belongs to another user"
abbrev pub not_owner : Model → ℕ → ℕ → Bool
not_owner m u s = not (eqb (m.sessions s).owner u)

-- "`activate u s r`: 1, 2, 3, 4, 9, 11."
unfoldable pub activate : Model → ℕ → ℕ → ℕ → Told
activate m u s r =
    settle
    (1 when (user_beyond u || (session_beyond s || role_beyond r))
    ∷ 2 when (user_missing m u || (session_missing m s || role_missing m r))
    ∷ 3 when not_owner m u s
    ∷ 4 when has (m.sessions s).active r
    ∷ 9 when not (has (authorised m u) r)
    ∷ 11 when dynamic_broken (active_set m s (with (m.sessions s).active r)) s
    ∷ [])
    m
    []
    (active_set m s (with (m.sessions s).active r))

-- "`drop u s r`: 1, 2, 3, 5."
unfoldable pub drop : Model → ℕ → ℕ → ℕ → Told
drop m u s r =
    settle
    (1 when (user_beyond u || (session_beyond s || role_beyond r))
    ∷ 2 when (user_missing m u || (session_missing m s || role_missing m r))
    ∷ 3 when not_owner m u s
    ∷ 5 when not (has (m.sessions s).active r)
    ∷ [])
    m
    []
    (active_set m s (without (m.sessions s).active r))

-- "`end u s`: 1, 2, 3."
unfoldable pub end : Model → ℕ → ℕ → Told
end m u s =
    settle
    (1 when (user_beyond u || session_beyond s) ∷ 2 when (user_missing m u || session_missing m s) ∷ 3 when not_owner m u s ∷ [])
    m
    []
    (session_set m s model.closed_session)

-- "Yes exactly when some effective role of the session holds the grant."
unfoldable pub permitted : Model → ℕ → ℕ → Bool
permitted m s p = not (is_empty (common (effective m s) (m.holders p)))

-- "the number of effective roles it looked at, taken in ascending order, up to and including the first that holds the grant, or all of them where none
-- does" (request 10)
unfoldable pub looked : Model → ℕ → ℕ → ℕ
looked m s p = length (up_to_first (has (m.holders p)) (members 64 (has (effective m s))))

-- "`check s op obj`: refusals 1 and 2, else answer 0 with the result 1 for yes or 0 for no"; "`check` now also gives the number" (request 10)
unfoldable pub check : Model → ℕ → ℕ → ℕ → Told
check m s op obj =
    settle
    (1 when (session_beyond s || permission_beyond op obj)
    ∷ 2 when session_missing m s
    ∷ [])
    m
    (bit (permitted m s (permission op obj)) ∷ looked m s (permission op obj) ∷ [])
    m

-- whose session s is; 1, 2
unfoldable pub owner : Model → ℕ → Told
owner m s = settle (1 when session_beyond s ∷ 2 when session_missing m s ∷ []) m ((m.sessions s).owner ∷ []) m
