-- Document 001's hole, that request 2 closes: a dynamic set that counts the active roles only. Assumes nothing.
use Rattle.std.specs.Prelude.{Bool, true, false, List, [], ◌∷◌, ◌≡◌, ℕ}
use Rattle.roleset.specs.Bounded.{some}
use Rattle.numbers.specs.declared.Role.{Role}
use Rattle.numbers.specs.declared.Session.{Session}
use Rattle.numbers.specs.declared.User.{User}
use Rattle.model.specs.Lists.{set_of}
use Rattle.model.specs.Model.{Model, empty}
use Rattle.model.specs.Words.{breaks_some, dynamic_broken}
use Rattle.model.specs.commands.Inheriting.{lined}
use Rattle.model.specs.commands.Sessions.{opened}
use Rattle.model.specs.declared.Command.{Command}
use Rattle.model.specs.declared.Command.TheVariants.{AddUser, AddRole, NoRole, Assign, Deassign, Grant, Inherit, Disinherit, MakeSet, OpenSession, Activate, DropActive, EndSession, EndAll}
use Rattle.model.specs.declared.Kind.TheVariants.{Dynamic}
use Rattle.model.specs.declared.Question.TheVariants.{Check}
use Rattle.benchsheet.specs.Lines.{Line, command, question, answers, afterwards, u, r, s, set}
use Rattle.demands.specs.Broken.{StaticBroken, DynamicBroken}
use Rattle.demands.specs.Demand2.{Obeys, effect, would_break}
use Rattle.demands.specs.Reachable.{Reachable}
use Rattle.misreadings.specs.ShutOut.{Engine}

-- ---- the student's session

-- "A student activated two senior roles and used capture and release together, though a dynamic set forbade it." Role 0 captures a map, operation 0
-- on object 30, and role 1 releases it, operation 2; no session may have both. Role 2 is over 0 and role 3 over 1, and user 7, the student, is
-- assigned to 2 and to 3
abbrev pub two_seniors : List Line
two_seniors =
    command (AddUser (u 7)) []
    ∷ command (AddRole (r 0)) []
    ∷ command (AddRole (r 1)) []
    ∷ command (AddRole (r 2)) []
    ∷ command (AddRole (r 3)) []
    ∷ command (Inherit (r 2) (r 0)) []
    ∷ command (Inherit (r 3) (r 1)) []
    ∷ command (Grant 0 30 (r 0)) []
    ∷ command (Grant 2 30 (r 1)) []
    ∷ command (MakeSet Dynamic (set 0) 2) (0 ∷ 1 ∷ [])
    ∷ command (Assign (u 7) (r 2)) []
    ∷ command (Assign (u 7) (r 3)) []
    ∷ []

unfoldable pub the_students : Model
the_students = afterwards empty two_seniors

-- the policy with the student's session, both seniors active in it
unfoldable pub both_active : Model
both_active = opened the_students 7 (set_of (2 ∷ 3 ∷ []))

-- the rule over active roles only
unfoldable pub broken_by_active : Model → Bool
broken_by_active after = some 64 (λ k. breaks_some after.dsd (after.sessions k).active)

-- "a user can exercise the combined permissions from both r2 and r4 without violating the constraint, as the user can use the permissions of r2 and
-- r4 without activating them" (document 001)
pub record Hole : Type 0 where
  -- The rule over active roles lets the session through,
  pub passed : broken_by_active both_active ≡ false
  -- and in it the student both captures and releases.
  pub together : answers both_active (question (Check (s 0) 0 30) ∷ question (Check (s 0) 2 30) ∷ []) ≡ (0 ∷ 1 ∷ 1 ∷ []) ∷ (0 ∷ 1 ∷ 2 ∷ []) ∷ []
  -- By the rule over effective roles it is broken:
  pub broken : DynamicBroken both_active
  -- `session 7 2 3` is refused; with 2 alone it is not, but then `activate 7 0 3` is, and the student captures and does not release.
  pub refused : answers the_students (command (OpenSession (u 7)) (2 ∷ 3 ∷ []) ∷ command (OpenSession (u 7)) (2 ∷ []) ∷ command (Activate (u 7) (s 0) (r 3)) [] ∷ question (Check (s 0) 0 30) ∷ question (Check (s 0) 2 30) ∷ []) ≡ (11 ∷ []) ∷ (0 ∷ 0 ∷ []) ∷ (11 ∷ []) ∷ (0 ∷ 1 ∷ 1 ∷ []) ∷ (0 ∷ 0 ∷ 2 ∷ []) ∷ []

-- ---- a line that breaks the rule in another's session

-- User 7 has session 0 open with role 2, which inherits 0, and user 8 session 1 with role 5 over 4 over 3; no session may have both 1 and 3. A line
-- from 4 to 1 would bring 1 into session 1 alone, two lines below what is active there
abbrev pub two_sessions : List Line
two_sessions =
    command (AddUser (u 7)) []
    ∷ command (AddUser (u 8)) []
    ∷ command (AddRole (r 0)) []
    ∷ command (AddRole (r 1)) []
    ∷ command (AddRole (r 2)) []
    ∷ command (AddRole (r 3)) []
    ∷ command (AddRole (r 4)) []
    ∷ command (AddRole (r 5)) []
    ∷ command (Inherit (r 2) (r 0)) []
    ∷ command (Inherit (r 4) (r 3)) []
    ∷ command (Inherit (r 5) (r 4)) []
    ∷ command (MakeSet Dynamic (set 15) 2) (1 ∷ 3 ∷ [])
    ∷ command (Assign (u 7) (r 2)) []
    ∷ command (Assign (u 8) (r 5)) []
    ∷ command (OpenSession (u 7)) (2 ∷ [])
    ∷ command (OpenSession (u 8)) (5 ∷ [])
    ∷ []

unfoldable pub both_open : Model
both_open = afterwards empty two_sessions

pub record InAnothersSession : Type 0 where
  -- With the lines as they are no session breaks the rule; with the new one session 0 does not, and session 1 does.
  pub before : would_break Dynamic both_open ≡ false
  pub first : dynamic_broken (lined both_open 4 1) 0 ≡ false
  pub second : dynamic_broken (lined both_open 4 1) 1 ≡ true
  -- `inherit 4 1` is refused; when user 8 has dropped the role, it is done.
  pub refused : answers both_open (command (Inherit (r 4) (r 1)) [] ∷ command (DropActive (u 8) (s 1) (r 5)) [] ∷ command (Inherit (r 4) (r 1)) [] ∷ []) ≡ (11 ∷ []) ∷ (0 ∷ []) ∷ (0 ∷ []) ∷ []

-- ---- engines that ask the dynamic rule otherwise

-- Of an engine that obeys demand 2, a policy that can be reached, a command and any list. (`DynamicBroken` speaks of the effective roles of any
-- session, whoever's it is, and `effect` is the policy as it would be, with the new line or the new session.)
pub record AsksEffective (engine : Engine) (m : Model) (c : Command) (list : List ℕ) : Type 0 where
  -- It is not done where the dynamic rule would be broken;
  pub forgets_none : (engine m c list).answer ≡ 0 → DynamicBroken (effect m c list) → ⊥
  -- it is answered 11 only there;
  pub only_then : (engine m c list).answer ≡ 11 → DynamicBroken (effect m c list)
  -- there 11 comes before 12, and 10 before 11.
  pub before_12 : (engine m c list).answer ≡ 12 → DynamicBroken (effect m c list) → ⊥
  pub after_10 : (engine m c list).answer ≡ 11 → StaticBroken (effect m c list) → ⊥

-- `assign`, and what takes something away, leave the dynamic sets alone and give no session an effective role: they are never answered 11.
pub record NeverEleven (engine : Engine) (m : Model) (list : List ℕ) : Type 0 where
  pub assign : (v : User) (x : Role) → (engine m (Assign v x) list).answer ≡ 11 → ⊥
  pub deassign : (v : User) (x : Role) → (engine m (Deassign v x) list).answer ≡ 11 → ⊥
  pub disinherit : (a b : Role) → (engine m (Disinherit a b) list).answer ≡ 11 → ⊥
  pub norole : (x : Role) → (engine m (NoRole x) list).answer ≡ 11 → ⊥
  pub drop : (v : User) (k : Session) (x : Role) → (engine m (DropActive v k x) list).answer ≡ 11 → ⊥
  pub end : (v : User) (k : Session) → (engine m (EndSession v k) list).answer ≡ 11 → ⊥
  pub end_all : (v : User) → (engine m (EndAll v) list).answer ≡ 11 → ⊥

pub record DynamicShutOut : Type 0 where
  pub hole : Hole
  pub another : InAnothersSession
  pub asks : (engine : Engine) → Obeys engine → (m : Model) → Reachable m → (c : Command) (list : List ℕ) → AsksEffective engine m c list
  pub never : (engine : Engine) → Obeys engine → (m : Model) → Reachable m → (list : List ℕ) → NeverEleven engine m list
