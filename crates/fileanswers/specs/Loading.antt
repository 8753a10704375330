-- What loading answers, for any bytes. "Answer 14: .. Then 6 (a line from a role to itself too), 7, 9, 10, 11 .., lowest first. An accepted load
-- replaces the policy and sessions whole." Assumes nothing.
use Rattle.std.specs.Prelude.{Bool, true, List, [], ◌∷◌, ◌⊎◌, ◌↔◌, ◌≡◌, ℕ, ◌<◌, length}
use Rattle.roleset.specs.Roles.{has}
use Rattle.hierarchy.specs.Lines.{Inherits}
use Rattle.model.specs.Model.{Model}
use Rattle.model.specs.Sheet.{Refusal, ◌when◌, Told, refused}
use Rattle.model.specs.commands.Sets.{sets_of}
use Rattle.model.specs.declared.Kind.{Kind}
use Rattle.policyform.specs.Form.{FileOf}
use Rattle.policyform.specs.Promises.{Loads}
use Rattle.filebytes.specs.Sections.{Sections, bytes_of, Every, Ascending, OfTheForm}
use Rattle.filebytes.specs.Meaning.{Says}
use Rattle.filebytes.specs.FileForm.{AsThePaperSays}
use Rattle.demands.specs.Authorised.{Authorised}
use Rattle.demands.specs.Broken.{StaticBroken, DynamicBroken}
use Rattle.demands.specs.Demand2.{Exactly}
use Rattle.demands.specs.Many.{AsMany}

-- ---- what a file of the form may break

-- 6: "a role would inherit itself": some role inherits itself. A line from a role to itself is such a chain.
pub record Circle (m : Model) : Type 0 where
  pub role : ℕ
  pub itself : Inherits m.juniors role role

-- 7: "a cardinality would be below 2 or above its set's size": the cardinality of some set, static or dynamic, is below 2, or the set has not as
-- many roles.
pub record BadCardinality (m : Model) : Type 0 where
  pub kind : Kind
  pub name : ℕ
  pub there : (sets_of kind m name).there ≡ true
  pub bad : ((sets_of kind m name).card < 2) ⊎ (AsMany (sets_of kind m name).card (λ r. has (sets_of kind m name).roles r ≡ true) → ⊥)

-- 9: "the owner is not authorised for an asked role": some open session has an active role that its owner is not authorised for.
pub record NotAuthorised (m : Model) : Type 0 where
  pub session : ℕ
  pub role : ℕ
  pub live : (m.sessions session).live ≡ true
  pub active : has (m.sessions session).active role ≡ true
  pub not_authorised : Authorised m (m.sessions session).owner role → ⊥

-- 10: "an SSD rule would be broken for some user", and 11: "a DSD rule would be broken in some session", are `StaticBroken` and `DynamicBroken` of
-- `demands/specs/Broken`, as for the commands.

-- ---- the answers

-- Five answers of yes or no that say what the file breaks. The last two come after 7, and need to say it only where 7 does not apply.
pub record Asked (m : Model) : Type 0 where
  pub circle : Bool
  pub circle_says : (circle ≡ true) ↔ Circle m
  pub cardinality : Bool
  pub cardinality_says : (cardinality ≡ true) ↔ BadCardinality m
  pub owner : Bool
  pub owner_says : (owner ≡ true) ↔ NotAuthorised m
  pub static : Bool
  pub static_says : (BadCardinality m → ⊥) → (static ≡ true) ↔ StaticBroken m
  pub dynamic : Bool
  pub dynamic_says : (BadCardinality m → ⊥) → (dynamic ≡ true) ↔ DynamicBroken m

-- "Then 6 .., 7, 9, 10, 11".
abbrev pub load_refusals : {m : Model} → Asked m → List Refusal
load_refusals asked =
    6 when asked.circle
    ∷ 7 when asked.cardinality
    ∷ 9 when asked.owner
    ∷ 10 when asked.static
    ∷ 11 when asked.dynamic
    ∷ []

-- Exactly what this list says is told: a number where it is the first of the list that applies, and then nothing changes; 0 where none applies,
-- and then the policy and sessions are those of the file.
pub record Answered (before m : Model) (told : Told) : Type 0 where
  pub asked : Asked m
  pub exactly : Exactly before (load_refusals asked) [] m told

pub record Loading : Type 0 where
  -- 14 is answered exactly when the bytes are not of the form that the paper says.
  pub fourteen : (before : Model) (bytes : List ℕ) (told : Told) → Loads before bytes told → (told.answer ≡ 14) ↔ (AsThePaperSays bytes → ⊥)
  -- 14 changes nothing.
  pub unchanged : (before : Model) (bytes : List ℕ) (told : Told) → Loads before bytes told → told.answer ≡ 14 → told ≡ refused 14 before
  -- Sections of the form, written and loaded, get the first of 6, 7, 9, 10 and 11 that applies to the policy that they list, or they are loaded and
  -- this policy is there.
  pub listed : (before : Model) (f : Sections) (told : Told) → OfTheForm f → Loads before (bytes_of f) told → (m : Model) × (Says f m) × Answered before m told
  -- The same, of the file of any policy: it gets the first of 6, 7, 9, 10 and 11 that applies to this policy, or it is loaded
  -- and the policy is this one.
  pub answers : (before m : Model) (bytes : List ℕ) (told : Told) → FileOf m bytes → Loads before bytes told → Answered before m told
  -- A file is the file of one policy only.
  pub one_policy : (m m' : Model) (bytes : List ℕ) → FileOf m bytes → FileOf m' bytes → m ≡ m'
