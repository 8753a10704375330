-- What the sweeps over all users and over all sessions give. Assumes nothing.
use Rattle.std.specs.Prelude.{Bool, List, map, ◌≡◌, ℕ, ◌<◌, length}
use Rattle.roleset.specs.Bounded.{some}
use Rattle.roleset.specs.Roles.{without}
use Rattle.hierarchy.specs.Lines.{table_of}
use Rattle.hierarchy.specs.Walks.{reach}
use Rattle.model.specs.Model.{Model, Session}
use Rattle.model.specs.Words.{breaks_some, shedded}
use Rattle.model.specs.commands.Sets.{sets_of, asked_of}
use Rattle.model.specs.commands.Users.{holding}
use Rattle.model.specs.declared.Kind.{Kind}
use Rattle.model.specs.declared.Kind.TheVariants.{Static, Dynamic}

-- the roles that one of those has itself of whom a rule of the kind is asked: those assigned to the user, or those active in the session
abbrev pub own_roles : Kind → Model → ℕ → ℕ
own_roles Static m u = m.assigned u
own_roles Dynamic m s = (m.sessions s).active

-- the rule of the kind is broken for some user, or in some session, of m, with these lines
abbrev pub asks_rule : Kind → Model → (ℕ → ℕ) → Bool
asks_rule kind m juniors = some (asked_of kind) (λ i. breaks_some (sets_of kind m) (reach juniors (own_roles kind m i)))

-- the active roles that each session keeps
pub record ShedsAll (juniors assigned : ℕ → ℕ) (sessions : ℕ → Session) (kept : List ℕ) : Type 0 where
  pub long : length kept ≡ 64
  pub each : (k : ℕ) → k < 64 → table_of kept k ≡ (shedded juniors assigned (sessions k)).active

-- a role was taken out of every set of a table, and so many had it
pub record Strips (before after : List ℕ) (r n : ℕ) : Type 0 where
  pub stripped : after ≡ map (λ x. without x r) before
  pub had : n ≡ holding (length before) (table_of before) r
