-- "Words with an exact meaning", each as a definition over the model. Assumes nothing.
use Rattle.std.specs.Prelude.{Bool, true, false, ◌&&◌, ℕ, ◌+◌, ◌*◌, leb}
use Rattle.roleset.specs.Bounded.{some, tally}
use Rattle.roleset.specs.Roles.{common, count}
use Rattle.hierarchy.specs.Walks.{reach}
use Rattle.model.specs.Model.{Model, RoleSet, Session, with_sessions, standing}

-- ---- inheritance

-- the roles of a set and all roles these inherit
abbrev pub reached : Model → ℕ → ℕ
reached m from = reach m.juniors from

-- "Authorised: a user is authorised for an existing role if assigned to it or to a role that inherits it." The set of these roles
abbrev pub authorised : Model → ℕ → ℕ
authorised m u = reached m (m.assigned u)

-- "Effective roles of a session: its active roles and all roles these inherit"
abbrev pub effective : Model → ℕ → ℕ
effective m s = reached m (m.sessions s).active

-- ---- separation

-- this many roles of the set, or more, are among the roles held
unfoldable pub breaks : RoleSet → ℕ → Bool
breaks set held = set.there && leb set.card (count (common set.roles held))

-- some of the sets is broken by the roles held
unfoldable pub breaks_some : (ℕ → RoleSet) → ℕ → Bool
breaks_some sets held = some 16 (λ n. breaks (sets n) held)

-- "SSD set: .. Every user is authorised for fewer than n of them." The static rule is broken for user u
unfoldable pub static_broken : Model → ℕ → Bool
static_broken m u = breaks_some m.ssd (authorised m u)

-- the roles of a session that a dynamic set counts: "a session may have fewer than n effective roles of a dynamic set" (request 2)
abbrev pub counted : Model → ℕ → ℕ
counted m s = effective m s

-- "DSD set: the same shape." The dynamic rule is broken in session s
unfoldable pub dynamic_broken : Model → ℕ → Bool
dynamic_broken m s = breaks_some m.dsd (counted m s)

-- ---- permissions

-- "Permission: an operation on an object, written as operation * 256 + object"
abbrev pub permission : ℕ → ℕ → ℕ
permission op obj = op * 256 + obj

-- ---- shedding

-- the session keeps exactly those active roles that are in the set
abbrev pub keeping : Session → ℕ → Session
keeping s held = record { live = s.live; owner = s.owner; active = common s.active held }

-- "Shedding: every session keeps exactly those active roles for which its owner is still authorised. The session stays open, even with none."
unfoldable pub shedded : (ℕ → ℕ) → (ℕ → ℕ) → Session → Session
shedded juniors assigned s = elim s.live [ true ↦ keeping s (reach juniors (assigned s.owner)) | false ↦ s ]

unfoldable pub shed : Model → Model
shed m = with_sessions m (λ k. shedded m.juniors m.assigned (m.sessions k))

-- ---- how full the tables are: their own counts

unfoldable pub assignments : Model → ℕ
assignments m = standing 256 m.assigned

unfoldable pub grants : Model → ℕ
grants m = standing 4096 m.holders

unfoldable pub lines_standing : Model → ℕ
lines_standing m = standing 64 m.juniors

unfoldable pub sessions_open : Model → ℕ
sessions_open m = tally 64 (λ s. (m.sessions s).live)
