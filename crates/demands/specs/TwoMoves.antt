-- "Deleting a student in two moves": `end-all u` and then `nouser u` do together what `nouser u` did alone, and `nouser` by itself ends no session.
-- Assumes nothing.
use Rattle.std.specs.Prelude.{true, false, not, ◌&&◌, List, [], ◌∷◌, ◌≡◌, ℕ, ◌-◌, eqb}
use Rattle.roleset.specs.Roles.{has, none, count}
use Rattle.numbers.specs.declared.User.{User}
use Rattle.numbers.specs.declared.Session.{Session}
use Rattle.model.specs.Model.{Model, closed_session, put, with_users, with_assigned, with_assignments, with_sessions}
use Rattle.model.specs.Sheet.{◌when◌, Told, settle, done, refused}
use Rattle.model.specs.Step.{step}
use Rattle.model.specs.commands.Sessions.{check}
use Rattle.model.specs.declared.Command.{Command}
use Rattle.model.specs.declared.Command.TheVariants.{NoUser, EndSession, EndAll}
use Rattle.demands.specs.Demand2.{◌beyond◌, OpenOf}
use Rattle.demands.specs.Reachable.{Reachable}

-- ---- `nouser` before there were two moves

-- The policy and sessions after it: "ends the user's sessions, removes assignments".
abbrev pub gone_in_one_move : Model → ℕ → Model
gone_in_one_move m u =
    with_users
    (with_assignments
    (with_sessions m (λ s. elim ((m.sessions s).live && eqb (m.sessions s).owner u) [ true ↦ closed_session | false ↦ m.sessions s ]))
    (put m.assigned u none)
    (m.assignment_count - count (m.assigned u)))
    (put m.users u false)

-- What it told: ".. 1, 2."
abbrev pub in_one_move : Model → ℕ → Told
in_one_move m u = settle (1 when u beyond 255 ∷ 2 when not (m.users u) ∷ []) m [] (gone_in_one_move m u)

-- What it changed, member by member, where it was done.
pub record GoneInOneMove (m after : Model) (u : ℕ) : Type 0 where
  -- The users are those that were, but for u,
  pub users : (v : ℕ) → after.users v ≡ (m.users v && not (eqb v u))
  -- and so are the assignments, but for those of u.
  pub assigned : (v q : ℕ) → has (after.assigned v) q ≡ (has (m.assigned v) q && not (eqb v u))
  -- Every open session of u is closed,
  pub ended : (s : ℕ) → (m.sessions s).live ≡ true → (m.sessions s).owner ≡ u → after.sessions s ≡ closed_session
  -- and every other session is as it was.
  pub others : (s : ℕ) → ((m.sessions s).live ≡ true → (m.sessions s).owner ≡ u → ⊥) → after.sessions s ≡ m.sessions s
  -- Nothing but the users, the assignments and the sessions is changed.
  pub only : after ≡ with_users (with_assigned (with_sessions m after.sessions) after.assigned) after.users

-- ---- the two moves

-- What `end-all u` and then `nouser u` tell: the first, and the second on what the first leaves.
abbrev pub first : Model → User → Told
first m u = step m (EndAll u) []

abbrev pub second : Model → User → Told
second m u = step (first m u).after (NoUser u) []

-- ---- what goes on

-- Every `check` on session s is told the same answer and the same results in both.
abbrev pub ChecksAlike : Model → Model → ℕ → Type 0
ChecksAlike m after s = (op obj : ℕ) → ((check after s op obj).answer ≡ (check m s op obj).answer) × ((check after s op obj).results ≡ (check m s op obj).results)

-- The command ends session s of user u: `end u s`, or `end-all u`.
pub data Ends (u s : ℕ) : Command → Type 0 where
  one : (v : User) (k : Session) → v.number ≡ u → k.number ≡ s → Ends u s (EndSession v k)
  all : (v : User) → v.number ≡ u → Ends u s (EndAll v)

-- From m to the other, by commands, done or refused, none of which ends session s of user u.
pub data Meanwhile (u s : ℕ) (m : Model) : Model → Type 0 where
  nothing : Meanwhile u s m m
  then : {x : Model} → Meanwhile u s m x → (c : Command) (list : List ℕ) → (Ends u s c → ⊥) → Meanwhile u s m (step x c list).after

pub record TwoMoves : Type 0 where
  -- Neither command takes a list of roles: one that is passed beside it is not looked at.
  pub unlisted : (m : Model) (u : User) (list : List ℕ) → (step m (EndAll u) list ≡ first m u) × (step m (NoUser u) list ≡ step m (NoUser u) [])
  -- ---- two moves are one

  -- On any policy and with any number, `end-all u` is answered what `nouser u` was answered alone, and has no results;
  pub answered : (m : Model) (u : User) → ((first m u).answer ≡ (in_one_move m u.number).answer) × ((first m u).results ≡ [])
  -- and then `nouser u` tells what it told alone: its answer, no results, and the policy and sessions that it left.
  pub together : (m : Model) (u : User) → second m u ≡ in_one_move m u.number
  -- So after a done `end-all u` the second move is done,
  pub follows : (m : Model) (u : User) → (first m u).answer ≡ 0 → (second m u).answer ≡ 0
  -- and of a reachable policy both leave, member by member, what the one move left.
  pub leave : (m : Model) → Reachable m → (u : User) → (first m u).answer ≡ 0 → GoneInOneMove m (second m u).after u.number
  -- ---- `end-all`, on any policy

  -- Done, it closes every open session of the user.
  pub ended : (m : Model) (u : User) → (first m u).answer ≡ 0 → (s : ℕ) → OpenOf m u.number s → (first m u).after.sessions s ≡ closed_session
  -- Every other session is as it was, and every `check` on it is told the same.
  pub others : (m : Model) (u : User) (s : ℕ) → (OpenOf m u.number s → ⊥) → ((first m u).after.sessions s ≡ m.sessions s) × ChecksAlike m (first m u).after s
  -- Nothing but the sessions is changed.
  pub only : (m : Model) (u : User) → (first m u).after ≡ with_sessions m (first m u).after.sessions
  -- "`end-all` with no session open is done and changes nothing", for a user of a reachable policy.
  pub idle : (m : Model) → Reachable m → (u : User) → m.users u.number ≡ true → ((s : ℕ) → OpenOf m u.number s → ⊥) → first m u ≡ done [] m
  -- ---- `nouser`

  -- On any policy, done or refused, it leaves every session as it was, and every `check` is told the same.
  pub untouched : (m : Model) (u : User) (s : ℕ) → ((step m (NoUser u) []).after.sessions s ≡ m.sessions s) × ChecksAlike m (step m (NoUser u) []).after s
  -- On a reachable policy `nouser` of a user with an open session is refused with 16, and nothing is changed, the user's assignments included;
  pub sixteen : (m : Model) → Reachable m → (u : User) (s : ℕ) → OpenOf m u.number s → step m (NoUser u) [] ≡ refused 16 m
  -- and of one with none it is done, of user 0 too.
  pub deletable : (m : Model) → Reachable m → (u : User) → m.users u.number ≡ true → ((s : ℕ) → OpenOf m u.number s → ⊥) → (step m (NoUser u) []).answer ≡ 0
  -- ---- a session that another teacher is watching

  -- From a reachable policy on, under any commands, it stays open and its owner's until one of them ends it. (A load is no command: it replaces all
  -- sessions.)
  pub goes_on : {m x : Model} → Reachable m → (u s : ℕ) → OpenOf m u s → Meanwhile u s m x → OpenOf x u s
