-- The conditions of the refusals in Demand2 that are more than a comparison, each in the paper's words. Assumes nothing.
use Rattle.std.specs.Prelude.{Bool, true, false, ◌⊎◌, ◌↔◌, ◌≡◌, ℕ, ◌≤◌, ◌<◌, ◌^◌}
use mathlib.Core.List.{List, Memᴰ}
use Rattle.roleset.specs.Roles.{has, count, subset}
use Rattle.hierarchy.specs.Lines.{Inherits}
use Rattle.model.specs.Lists.{ascending, some_from, listed, set_of}
use Rattle.model.specs.Model.{Model}
use Rattle.model.specs.Sheet.{Refusal}
use Rattle.model.specs.Words.{authorised, assignments, grants, lines_standing, sessions_open}
use Rattle.model.specs.commands.Users.{in_set}
use Rattle.model.specs.commands.Inheriting.{would_circle}
use Rattle.model.specs.commands.Sets.{sets_of}
use Rattle.model.specs.commands.Sessions.{lowest_free}
use Rattle.model.specs.commands.Sessions as sessions
use Rattle.model.specs.declared.Command.{Command}
use Rattle.model.specs.declared.Kind.{Kind}
use Rattle.model.specs.declared.Kind.TheVariants.{Dynamic}
use Rattle.demands.specs.Authorised.{Authorised}
use Rattle.demands.specs.Broken.{StaticBroken, DynamicBroken}
use Rattle.demands.specs.Demand2.{Applies, place, refusals, effect, would_break, would_break_opened, OpenOf, has_open}
use Rattle.demands.specs.Many.{AsMany, Ascending}
use Rattle.demands.specs.Reachable.{Reachable}

-- No number that applies comes before n.
abbrev pub NoneBefore : List Refusal → ℕ → Type 0
NoneBefore cases n = (k : ℕ) → Applies cases k → place n ≤ place k

-- Of lists of roles, whatever they hold.
pub record OfLists : Type 0 where
  -- A role is listed where it stands in the list.
  pub member : (list : List ℕ) (r : ℕ) → (listed list r ≡ true) ↔ Memᴰ r list
  -- 14: the list is not strictly ascending.
  pub ascends : (list : List ℕ) → (ascending list ≡ true) ↔ Ascending list
  -- 1: some listed number is beyond 63.
  pub beyond : (list : List ℕ) → (some_from 64 list ≡ true) ↔ ((r : ℕ) × Memᴰ r list × (64 ≤ r))
  -- 2, and 9: where none is, every listed role is one of these roles.
  pub within : (list : List ℕ) → some_from 64 list ≡ false → (roles : ℕ) → (subset (set_of list) roles ≡ true) ↔ ((r : ℕ) → Memᴰ r list → has roles r ≡ true)
  -- 7: the size of a set of roles is the number of its members.
  pub size : (roles : ℕ) → roles < 2 ^ 64 → (n : ℕ) → (n ≤ count roles) ↔ AsMany n (λ r. has roles r ≡ true)

-- Of a reachable policy.
pub record OfPolicy (m : Model) : Type 0 where
  -- 6: "equal, or the junior inherits the senior"
  pub circle : (senior junior : ℕ) → junior < 64 → (would_circle m senior junior ≡ true) ↔ ((junior ≡ senior) ⊎ Inherits m.juniors junior senior)
  -- 8: "the role to be deleted stands in an SSD or DSD set", one that is there
  pub stands : (kind : Kind) (r : ℕ) → (in_set (sets_of kind m) r ≡ true) ↔ ((name : ℕ) × ((sets_of kind m name).there ≡ true) × (has (sets_of kind m name).roles r ≡ true))
  -- 9: the computed set of the roles that a user is authorised for is what the paper's sentence says.
  pub authorises : (u r : ℕ) → (has (authorised m u) r ≡ true) ↔ Authorised m u r
  -- 12: what is compared with 2,048, 2,048, 512 and 64 is how many assignments, grants, lines and open sessions stand.
  pub assigned : (n : ℕ) → (n ≤ assignments m) ↔ AsMany n (λ (p : ℕ × ℕ). has (m.assigned p.0) p.1 ≡ true)
  pub granted : (n : ℕ) → (n ≤ grants m) ↔ AsMany n (λ (p : ℕ × ℕ). has (m.holders p.0) p.1 ≡ true)
  pub lined : (n : ℕ) → (n ≤ lines_standing m) ↔ AsMany n (λ (p : ℕ × ℕ). has (m.juniors p.0) p.1 ≡ true)
  pub opened : (n : ℕ) → (n ≤ sessions_open m) ↔ AsMany n (λ s. (m.sessions s).live ≡ true)
  -- 16: "the user has open sessions": some session is open, and the user's.
  pub opens : (u : ℕ) → (has_open m u ≡ true) ↔ ((s : ℕ) × OpenOf m u s)
  -- "the lowest free session number": where fewer than 64 sessions are open it is one of the 64, is free, and every lower one is taken.
  pub lowest : sessions_open m < 64 → (lowest_free m < 64) × ((m.sessions (lowest_free m)).live ≡ false) × ((k : ℕ) → k < lowest_free m → (m.sessions k).live ≡ true)
  -- 11 of `session`: where there is room the session to be opened is one of the 64.
  pub room : (u roles : ℕ) → sessions_open m < 64 → would_break_opened (sessions.opened m u roles) ≡ would_break Dynamic (sessions.opened m u roles)
  -- 10: "an SSD rule would be broken for some user", by the policy as it would be after the command; of any command, wherever no earlier refusal
  -- applies. A command with no 10 on its list would break none.
  pub static : (c : Command) (list : List ℕ) → NoneBefore (refusals m c list) 10 → Applies (refusals m c list) 10 ↔ StaticBroken (effect m c list)
  -- 11: "a DSD rule would be broken in some session", likewise.
  pub dynamic : (c : Command) (list : List ℕ) → NoneBefore (refusals m c list) 11 → Applies (refusals m c list) 11 ↔ DynamicBroken (effect m c list)

pub record Conditions : Type 0 where
  pub lists : OfLists
  pub policy : (m : Model) → Reachable m → OfPolicy m
