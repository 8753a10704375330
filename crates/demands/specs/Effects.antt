-- What each command changes, member by member, and that nothing else changes: "each command changes exactly what the standard, as read in the
-- paper, says". `m` is the policy and sessions before a command that is done, `after` those after it. Assumes nothing.
use Rattle.std.specs.Prelude.{Bool, true, false, not, ◌&&◌, ◌||◌, List, ◌↔◌, ◌≡◌, ℕ, eqb}
use Rattle.roleset.specs.Roles.{has}
use Rattle.hierarchy.specs.Lines.{line}
use Rattle.model.specs.Lists.{listed}
use Rattle.model.specs.Model.{Model, closed_session, with_users, with_roles, with_juniors, with_assigned, with_holders, with_sessions}
use Rattle.model.specs.Step.{step}
use Rattle.model.specs.Words.{permission}
use Rattle.model.specs.commands.Sets.{sets_of, with_sets}
use Rattle.model.specs.commands.Sessions.{lowest_free}
use Rattle.model.specs.declared.Command.{Command}
use Rattle.model.specs.declared.Command.TheVariants.{AddUser, AddRole, NoUser, NoRole, Assign, Deassign, Grant, Revoke, Inherit, Disinherit, MakeSet, DropSet, AddMember, DropMember, SetCardinality, OpenSession, Activate, DropActive, EndSession, EndAll}
use Rattle.model.specs.declared.Kind.{Kind}
use Rattle.demands.specs.Authorised.{Authorised}
use Rattle.demands.specs.Demand2.{OpenOf}
use Rattle.demands.specs.Reachable.{Reachable}

-- ---- a table of sets of roles: the assignments by user, the lines by senior, the grants by permission

-- The pair (i, r) stands in the table after, besides those that stood before.
abbrev pub Added : (ℕ → ℕ) → (ℕ → ℕ) → ℕ → ℕ → Type 0
Added before after i r = (k q : ℕ) → has (after k) q ≡ (has (before k) q || (eqb k i && eqb q r))

-- Every pair that stood before stands after, but for (i, r).
abbrev pub Removed : (ℕ → ℕ) → (ℕ → ℕ) → ℕ → ℕ → Type 0
Removed before after i r = (k q : ℕ) → has (after k) q ≡ (has (before k) q && not (eqb k i && eqb q r))

-- "Shedding: every session keeps exactly those active roles for which its owner is still authorised. The session stays open, even with none."
pub record Shed (m after : Model) : Type 0 where
  -- Every session is open or closed as it was,
  pub live : (s : ℕ) → (after.sessions s).live ≡ (m.sessions s).live
  -- and its owner is who it was.
  pub owner : (s : ℕ) → (after.sessions s).owner ≡ (m.sessions s).owner
  -- A role is active after exactly where it was active before and the session's owner is authorised for it after.
  pub active : (s r : ℕ) → (has (after.sessions s).active r ≡ true) ↔ ((has (m.sessions s).active r ≡ true) × Authorised after (m.sessions s).owner r)

-- ---- users and roles

-- "`user u` .. add"
pub record UserAdded (m after : Model) (u : ℕ) : Type 0 where
  -- The users are those that were, and u.
  pub users : (v : ℕ) → after.users v ≡ (m.users v || eqb v u)
  -- Nothing but the users is changed.
  pub only : after ≡ with_users m after.users

-- "`role r` add"
pub record RoleAdded (m after : Model) (r : ℕ) : Type 0 where
  -- The roles are those that were, and r.
  pub roles : (q : ℕ) → has after.roles q ≡ (has m.roles q || eqb q r)
  -- Nothing but the roles is changed.
  pub only : after ≡ with_roles m after.roles

-- `nouser u`: removes the user and its assignments. No session is touched.
pub record UserGone (m after : Model) (u : ℕ) : Type 0 where
  -- The users are those that were, but for u,
  pub users : (v : ℕ) → after.users v ≡ (m.users v && not (eqb v u))
  -- and so are the assignments, but for those of u.
  pub assigned : (v q : ℕ) → has (after.assigned v) q ≡ (has (m.assigned v) q && not (eqb v u))
  -- Nothing but the users and the assignments is changed.
  pub only : after ≡ with_users (with_assigned m after.assigned) after.users

-- "`norole r`: removes its assignments, grants and direct lines at either end, then sheds .. Roles above and below it are not joined up."
pub record RoleGone (m after : Model) (r : ℕ) : Type 0 where
  -- The roles are those that were, but for r;
  pub roles : (q : ℕ) → has after.roles q ≡ (has m.roles q && not (eqb q r))
  -- the lines are those that were, but for those with r at either end;
  pub lines : (a b : ℕ) → line after.juniors a b ≡ (line m.juniors a b && not (eqb a r || eqb b r))
  -- the assignments are those that were, but for those to r;
  pub assigned : (v q : ℕ) → has (after.assigned v) q ≡ (has (m.assigned v) q && not (eqb q r))
  -- and the grants are those that were, but for those to r.
  pub grants : (p q : ℕ) → has (after.holders p) q ≡ (has (m.holders p) q && not (eqb q r))
  -- Then every session sheds.
  pub shedding : Shed m after
  -- The users and the separation sets are as they were.
  pub only : after ≡ with_sessions (with_roles (with_holders (with_assigned (with_juniors m after.juniors) after.assigned) after.holders) after.roles) after.sessions

-- ---- assignments, grants and lines

-- `assign u r`: the assignment (u, r) is there besides those that were, and nothing else is changed.
pub record AssignmentAdded (m after : Model) (u r : ℕ) : Type 0 where
  pub assigned : Added m.assigned after.assigned u r
  pub only : after ≡ with_assigned m after.assigned

-- `deassign u r`: the assignment (u, r) is gone and no other; every session sheds, whatever role is named; nothing else is changed.
pub record AssignmentGone (m after : Model) (u r : ℕ) : Type 0 where
  pub assigned : Removed m.assigned after.assigned u r
  pub shedding : Shed m after
  pub only : after ≡ with_sessions (with_assigned m after.assigned) after.sessions

-- `grant op obj r`: the grant is there besides those that were, and nothing else is changed.
pub record GrantAdded (m after : Model) (p r : ℕ) : Type 0 where
  pub grants : Added m.holders after.holders p r
  pub only : after ≡ with_holders m after.holders

-- `revoke op obj r`: the grant is gone and no other, and nothing else is changed.
pub record GrantGone (m after : Model) (p r : ℕ) : Type 0 where
  pub grants : Removed m.holders after.holders p r
  pub only : after ≡ with_holders m after.holders

-- `inherit senior junior`: this line is recorded besides those that were, and none that a longer chain implies; nothing else is changed.
pub record LineAdded (m after : Model) (senior junior : ℕ) : Type 0 where
  pub lines : Added m.juniors after.juniors senior junior
  pub only : after ≡ with_juniors m after.juniors

-- `disinherit senior junior`: this line is gone and no other, since "only recorded lines are kept and deleted"; every session sheds.
pub record LineGone (m after : Model) (senior junior : ℕ) : Type 0 where
  pub lines : Removed m.juniors after.juniors senior junior
  pub shedding : Shed m after
  pub only : after ≡ with_sessions (with_juniors m after.juniors) after.sessions

-- ---- separation sets, of either kind

-- The set `name` is there or not, has this cardinality and these roles; every other set is as it was, and nothing else is changed.
pub record SetBecomes (kind : Kind) (m after : Model) (name : ℕ) (is_there : Bool) (n : ℕ) (member : ℕ → Bool) : Type 0 where
  pub there : (sets_of kind after name).there ≡ is_there
  pub card : (sets_of kind after name).card ≡ n
  pub roles : (q : ℕ) → has (sets_of kind after name).roles q ≡ member q
  pub others : (k : ℕ) → (k ≡ name → ⊥) → sets_of kind after k ≡ sets_of kind m k
  pub only : after ≡ with_sets kind m (sets_of kind after)

-- ---- sessions

-- Session s is open or not, has this owner and these active roles; every other session is as it was, and nothing else is changed.
pub record SessionBecomes (m after : Model) (s : ℕ) (is_live : Bool) (u : ℕ) (active_role : ℕ → Bool) : Type 0 where
  pub live : (after.sessions s).live ≡ is_live
  pub owner : (after.sessions s).owner ≡ u
  pub active : (q : ℕ) → has (after.sessions s).active q ≡ active_role q
  pub others : (k : ℕ) → (k ≡ s → ⊥) → after.sessions k ≡ m.sessions k
  pub only : after ≡ with_sessions m after.sessions

-- "`end-all u` ends the user's sessions"
pub record AllEnded (m after : Model) (u : ℕ) : Type 0 where
  -- Every open session of u is closed,
  pub ended : (s : ℕ) → OpenOf m u s → after.sessions s ≡ closed_session
  -- and every other session is as it was.
  pub others : (s : ℕ) → (OpenOf m u s → ⊥) → after.sessions s ≡ m.sessions s
  -- Nothing but the sessions is changed.
  pub only : after ≡ with_sessions m after.sessions

-- ---- every command

-- What the command changes, by the records above.
abbrev pub Changed : Model → Command → List ℕ → Model → Type 0
Changed m (AddUser u) list after = UserAdded m after u.number
Changed m (AddRole r) list after = RoleAdded m after r.number
Changed m (NoUser u) list after = UserGone m after u.number
Changed m (NoRole r) list after = RoleGone m after r.number
Changed m (Assign u r) list after = AssignmentAdded m after u.number r.number
Changed m (Deassign u r) list after = AssignmentGone m after u.number r.number
Changed m (Grant op obj r) list after = GrantAdded m after (permission op obj) r.number
Changed m (Revoke op obj r) list after = GrantGone m after (permission op obj) r.number
Changed m (Inherit senior junior) list after = LineAdded m after senior.number junior.number
Changed m (Disinherit senior junior) list after = LineGone m after senior.number junior.number
-- `ssd name n r..`: there, with the cardinality n and the listed roles
Changed m (MakeSet kind name n) list after = SetBecomes kind m after name.number true n (listed list)
-- `nossd name`: not there
Changed m (DropSet kind name) list after = SetBecomes kind m after name.number false 0 (λ q. false)
-- `ssd-add name r`: with the role r besides, of the same cardinality
Changed m (AddMember kind name r) list after = SetBecomes kind m after name.number true (sets_of kind m name.number).card (λ q. has (sets_of kind m name.number).roles q || eqb q r.number)
-- `ssd-drop name r`: without the role r, of the same cardinality
Changed m (DropMember kind name r) list after = SetBecomes kind m after name.number true (sets_of kind m name.number).card (λ q. has (sets_of kind m name.number).roles q && not (eqb q r.number))
-- `ssd-card name n`: with the same roles
Changed m (SetCardinality kind name n) list after = SetBecomes kind m after name.number true n (has (sets_of kind m name.number).roles)
-- `session u r..`: the lowest free one is open for u, with the listed roles active
Changed m (OpenSession u) list after = SessionBecomes m after (lowest_free m) true u.number (listed list)
-- `activate u s r`, `drop u s r`: open for the same user, with the role r besides, or without it
Changed m (Activate u s r) list after = SessionBecomes m after s.number true u.number (λ q. has (m.sessions s.number).active q || eqb q r.number)
Changed m (DropActive u s r) list after = SessionBecomes m after s.number true u.number (λ q. has (m.sessions s.number).active q && not (eqb q r.number))
-- `end u s`: not live
Changed m (EndSession u s) list after = SessionBecomes m after s.number false 0 (λ q. false)
Changed m (EndAll u) list after = AllEnded m after u.number

-- A command that is done on a reachable policy changes that, and nothing else.
abbrev pub Effects : Type 0
Effects = (m : Model) → Reachable m → (c : Command) (list : List ℕ) → (step m c list).answer ≡ 0 → Changed m c list (step m c list).after
