-- Demand 2: "Each command changes exactly what the standard, as read in the paper, says, and is refused exactly in the listed cases. Access is
-- granted exactly when an active role, or a role that one inherits, holds the permission." Assumes nothing.
use Rattle.std.specs.Prelude.{Bool, true, false, not, ◌&&◌, ◌||◌, ◌⊎◌, ◌↔◌, ◌≡◌, ℕ, suc, ◌+◌, ◌*◌, ◌≤◌, eqb, leb, ltb}
use mathlib.Core.List.{List, [], ◌∷◌, Memᴰ}
use Rattle.roleset.specs.Bounded.{some}
use Rattle.roleset.specs.Roles.{has, with, without, count, subset}
use Rattle.model.specs.Lists.{ascending, some_from, set_of}
use Rattle.model.specs.Model.{Model, RoleSet, put, with_users, with_roles}
use Rattle.model.specs.Model as model
use Rattle.model.specs.Sheet.{Refusal, ◌when◌, Told}
use Rattle.model.specs.Step.{step}
use Rattle.model.specs.Words.{authorised, static_broken, dynamic_broken, shed, assignments, grants, lines_standing, sessions_open}
use Rattle.model.specs.commands.Users.{in_set, all_ended, without_user, without_role}
use Rattle.model.specs.commands.Assigning.{assigned, deassigned, granted, revoked}
use Rattle.model.specs.commands.Inheriting.{lined, unlined, would_circle}
use Rattle.model.specs.commands.Sets.{sets_of, with_sets, rule_number, a_set}
use Rattle.model.specs.commands.Sessions.{lowest_free, session_set, opened, active_set, check}
use Rattle.model.specs.declared.Command.{Command}
use Rattle.model.specs.declared.Command.TheVariants.{AddUser, AddRole, NoUser, NoRole, Assign, Deassign, Grant, Revoke, Inherit, Disinherit, MakeSet, DropSet, AddMember, DropMember, SetCardinality, OpenSession, Activate, DropActive, EndSession, EndAll}
use Rattle.model.specs.declared.Kind.{Kind}
use Rattle.model.specs.declared.Kind.TheVariants.{Static, Dynamic}
use Rattle.demands.specs.Authorised.{Effective}
use Rattle.demands.specs.Many.{HowMany}
use Rattle.demands.specs.Reachable.{Reachable}

-- ---- what each command changes, where it is done

-- The policy in which the set `name` of the kind is this one.
abbrev pub set_made : Kind → Model → ℕ → RoleSet → Model
set_made kind m name set = with_sets kind m (put (sets_of kind m) name set)

-- The policy and sessions after the command. (`Effects` says them member by member.)
unfoldable pub effect : Model → Command → List ℕ → Model
-- "`user u`, `role r` add"
effect m (AddUser u) list = with_users m (put m.users u.number true)
effect m (AddRole r) list = with_roles m (with m.roles r.number)
-- `nouser u`: removes the user and its assignments
effect m (NoUser u) list = without_user m u.number
-- "`norole r`: removes its assignments, grants and direct lines at either end, then sheds"
effect m (NoRole r) list = shed (without_role m r.number)
effect m (Assign u r) list = assigned m u.number r.number
-- "`deassign u r`: .. then sheds"
effect m (Deassign u r) list = shed (deassigned m u.number r.number)
effect m (Grant op obj r) list = granted m (op * 256 + obj) r.number
effect m (Revoke op obj r) list = revoked m (op * 256 + obj) r.number
-- "A line that a longer chain already implies is recorded all the same."
effect m (Inherit senior junior) list = lined m senior.number junior.number
-- "`disinherit senior junior`: .. then sheds"
effect m (Disinherit senior junior) list = shed (unlined m senior.number junior.number)
-- "SSD set: roles and a cardinality n"; "DSD set: the same shape"
effect m (MakeSet kind name n) list = set_made kind m name.number (a_set n (set_of list))
effect m (DropSet kind name) list = set_made kind m name.number model.absent_set
effect m (AddMember kind name r) list = set_made kind m name.number (a_set (sets_of kind m name.number).card (with (sets_of kind m name.number).roles r.number))
effect m (DropMember kind name r) list = set_made kind m name.number (a_set (sets_of kind m name.number).card (without (sets_of kind m name.number).roles r.number))
effect m (SetCardinality kind name n) list = set_made kind m name.number (a_set n (sets_of kind m name.number).roles)
-- "the lowest free session number"
effect m (OpenSession u) list = opened m u.number (set_of list)
effect m (Activate u s r) list = active_set m s.number (with (m.sessions s.number).active r.number)
effect m (DropActive u s r) list = active_set m s.number (without (m.sessions s.number).active r.number)
effect m (EndSession u s) list = session_set m s.number model.closed_session
-- "`end-all u` ends the user's sessions"
effect m (EndAll u) list = all_ended m u.number

-- The results of the command: "`session u r..`: .. the result is the lowest free session number". No other command has a result.
unfoldable pub results : Model → Command → List ℕ → List ℕ
results m (AddUser u) list = []
results m (AddRole r) list = []
results m (NoUser u) list = []
results m (NoRole r) list = []
results m (Assign u r) list = []
results m (Deassign u r) list = []
results m (Grant op obj r) list = []
results m (Revoke op obj r) list = []
results m (Inherit senior junior) list = []
results m (Disinherit senior junior) list = []
results m (MakeSet kind name n) list = []
results m (DropSet kind name) list = []
results m (AddMember kind name r) list = []
results m (DropMember kind name r) list = []
results m (SetCardinality kind name n) list = []
results m (OpenSession u) list = lowest_free m ∷ []
results m (Activate u s r) list = []
results m (DropActive u s r) list = []
results m (EndSession u s) list = []
results m (EndAll u) list = []

-- ---- the refusals of each command, as the paper lists them (11 of `inherit`: request 2; 16 and `end-all`: request 4)

-- 10: "an SSD rule would be broken for some user"; 11: "a DSD rule would be broken in some session". It is asked of the policy and
-- sessions as they would be after the command.
abbrev pub would_break : Kind → Model → Bool
would_break Static after = some 256 (static_broken after)
would_break Dynamic after = some 64 (dynamic_broken after)

-- 11 of `session`: in some session, the one to be opened among them. It is one of the 64 where there is room. Where all 64 are open it is
-- counted as the 65th, so that 11 comes before 12 there too: with 64 sessions open, `session 7 0 1` is 11 where 0 and 1, with all that they
-- inherit, have two roles of a dynamic set of cardinality 2, and else 12.
abbrev pub would_break_opened : Model → Bool
would_break_opened after = some 65 (dynamic_broken after)

-- Session s is open, and the user's. (The owner of a closed one is 0, so the owner alone does not tell.)
abbrev pub OpenOf : Model → ℕ → ℕ → Type 0
OpenOf m u s = ((m.sessions s).live ≡ true) × ((m.sessions s).owner ≡ u)

-- 16: "the user has open sessions": one of the sessions 0 to 63 is.
abbrev pub has_open : Model → ℕ → Bool
has_open m u = some 64 (λ s. (m.sessions s).live && eqb (m.sessions s).owner u)

infixl 90 ◌beyond◌
-- The number n "is beyond its range", whose last number this is: "Users are 0 to 255, roles 0 to 63, sessions 0 to 63, SSD sets 0 to 15, DSD sets
-- 0 to 15. Operations 0 to 15 and objects 0 to 255".
abbrev pub ◌beyond◌ : ℕ → ℕ → Bool
n beyond last = leb (suc last) n

-- The cases in which the command is refused, in the order of the answer sheet.
unfoldable pub refusals : Model → Command → List ℕ → List Refusal
-- "`user u`, `role r` add; 1, 4."
refusals m (AddUser u) list = 1 when u.number beyond 255 ∷ 4 when m.users u.number ∷ []
refusals m (AddRole r) list = 1 when r.number beyond 63 ∷ 4 when has m.roles r.number ∷ []
-- `nouser u`: 1, 2; "16, the user has open sessions, last in the order for `nouser`"
refusals m (NoUser u) list = 1 when u.number beyond 255 ∷ 2 when not (m.users u.number) ∷ 16 when has_open m u.number ∷ []
-- "`norole r`: .. 1, 2, 8."
refusals m (NoRole r) list =
    1 when r.number beyond 63
    ∷ 2 when not (has m.roles r.number)
    ∷ 8 when (in_set m.ssd r.number || in_set m.dsd r.number)
    ∷ []
-- "`assign u r`: 1, 2, 4, 10, 12."
refusals m (Assign u r) list =
    1 when (u.number beyond 255 || r.number beyond 63)
    ∷ 2 when (not (m.users u.number) || not (has m.roles r.number))
    ∷ 4 when has (m.assigned u.number) r.number
    ∷ 10 when would_break Static (effect m (Assign u r) list)
    ∷ 12 when leb 2048 (assignments m)
    ∷ []
-- "`deassign u r`: 1, 2, 5, then sheds."
refusals m (Deassign u r) list =
    1 when (u.number beyond 255 || r.number beyond 63)
    ∷ 2 when (not (m.users u.number) || not (has m.roles r.number))
    ∷ 5 when not (has (m.assigned u.number) r.number)
    ∷ []
-- "`grant op obj r`: 1, 2, 4, 12."
refusals m (Grant op obj r) list =
    1 when ((op beyond 15 || obj beyond 255) || r.number beyond 63)
    ∷ 2 when not (has m.roles r.number)
    ∷ 4 when has (m.holders (op * 256 + obj)) r.number
    ∷ 12 when leb 2048 (grants m)
    ∷ []
-- "`revoke op obj r`: 1, 2, 5."
refusals m (Revoke op obj r) list =
    1 when ((op beyond 15 || obj beyond 255) || r.number beyond 63)
    ∷ 2 when not (has m.roles r.number)
    ∷ 5 when not (has (m.holders (op * 256 + obj)) r.number)
    ∷ []
-- "`inherit senior junior`: 1, 2, 4 (this direct line stands), 6 (equal, or the junior inherits the senior), 10, 12."; "`inherit` may now answer 11,
-- after 10" (request 2)
refusals m (Inherit senior junior) list =
    1 when (senior.number beyond 63 || junior.number beyond 63)
    ∷ 2 when (not (has m.roles senior.number) || not (has m.roles junior.number))
    ∷ 4 when has (m.juniors senior.number) junior.number
    ∷ 6 when would_circle m senior.number junior.number
    ∷ 10 when would_break Static (effect m (Inherit senior junior) list)
    ∷ 11 when would_break Dynamic (effect m (Inherit senior junior) list)
    ∷ 12 when leb 512 (lines_standing m)
    ∷ []
-- "`disinherit senior junior`: 1, 2, 5, then sheds."
refusals m (Disinherit senior junior) list =
    1 when (senior.number beyond 63 || junior.number beyond 63)
    ∷ 2 when (not (has m.roles senior.number) || not (has m.roles junior.number))
    ∷ 5 when not (has (m.juniors senior.number) junior.number)
    ∷ []
-- "`ssd name n r..`: 1, 2 (a role), 4, 7, 10." "The five `dsd` commands are alike with 11 for 10." A list "must be strictly ascending, else 14"
refusals m (MakeSet kind name n) list =
    14 when not (ascending list)
    ∷ 1 when (name.number beyond 15 || some_from 64 list)
    ∷ 2 when not (subset (set_of list) m.roles)
    ∷ 4 when (sets_of kind m name.number).there
    ∷ 7 when (ltb n 2 || ltb (count (set_of list)) n)
    ∷ rule_number kind when would_break kind (effect m (MakeSet kind name n) list)
    ∷ []
-- "`nossd name`: 1, 2."
refusals m (DropSet kind name) list = 1 when name.number beyond 15 ∷ 2 when not (sets_of kind m name.number).there ∷ []
-- "`ssd-add name r`: 1, 2, 4, 10."
refusals m (AddMember kind name r) list =
    1 when (name.number beyond 15 || r.number beyond 63)
    ∷ 2 when (not (sets_of kind m name.number).there || not (has m.roles r.number))
    ∷ 4 when has (sets_of kind m name.number).roles r.number
    ∷ rule_number kind when would_break kind (effect m (AddMember kind name r) list)
    ∷ []
-- "`ssd-drop name r`: 1, 2, 5, 7."
refusals m (DropMember kind name r) list =
    1 when (name.number beyond 15 || r.number beyond 63)
    ∷ 2 when (not (sets_of kind m name.number).there || not (has m.roles r.number))
    ∷ 5 when not (has (sets_of kind m name.number).roles r.number)
    ∷ 7 when (ltb (sets_of kind m name.number).card 2 || ltb (count (without (sets_of kind m name.number).roles r.number)) (sets_of kind m name.number).card)
    ∷ []
-- "`ssd-card name n`: 1, 2, 7, 10."
refusals m (SetCardinality kind name n) list =
    1 when name.number beyond 15
    ∷ 2 when not (sets_of kind m name.number).there
    ∷ 7 when (ltb n 2 || ltb (count (sets_of kind m name.number).roles) n)
    ∷ rule_number kind when would_break kind (effect m (SetCardinality kind name n) list)
    ∷ []
-- "`session u r..`: 1, 2, 9, 11, 12"
refusals m (OpenSession u) list =
    14 when not (ascending list)
    ∷ 1 when (u.number beyond 255 || some_from 64 list)
    ∷ 2 when (not (m.users u.number) || not (subset (set_of list) m.roles))
    ∷ 9 when not (subset (set_of list) (authorised m u.number))
    ∷ 11 when would_break_opened (effect m (OpenSession u) list)
    ∷ 12 when leb 64 (sessions_open m)
    ∷ []
-- "`activate u s r`: 1, 2, 3, 4, 9, 11."
refusals m (Activate u s r) list =
    1 when (u.number beyond 255 || (s.number beyond 63 || r.number beyond 63))
    ∷ 2 when (not (m.users u.number) || (not (m.sessions s.number).live || not (has m.roles r.number)))
    ∷ 3 when not (eqb (m.sessions s.number).owner u.number)
    ∷ 4 when has (m.sessions s.number).active r.number
    ∷ 9 when not (has (authorised m u.number) r.number)
    ∷ 11 when would_break Dynamic (effect m (Activate u s r) list)
    ∷ []
-- "`drop u s r`: 1, 2, 3, 5."
refusals m (DropActive u s r) list =
    1 when (u.number beyond 255 || (s.number beyond 63 || r.number beyond 63))
    ∷ 2 when (not (m.users u.number) || (not (m.sessions s.number).live || not (has m.roles r.number)))
    ∷ 3 when not (eqb (m.sessions s.number).owner u.number)
    ∷ 5 when not (has (m.sessions s.number).active r.number)
    ∷ []
-- "`end u s`: 1, 2, 3."
refusals m (EndSession u s) list =
    1 when (u.number beyond 255 || s.number beyond 63)
    ∷ 2 when (not (m.users u.number) || not (m.sessions s.number).live)
    ∷ 3 when not (eqb (m.sessions s.number).owner u.number)
    ∷ []
-- "`end-all` answers 1 or 2"
refusals m (EndAll u) list = 1 when u.number beyond 255 ∷ 2 when not (m.users u.number) ∷ []

-- ---- exactly

-- The number n is among the cases, and its condition holds.
abbrev pub Applies : List Refusal → ℕ → Type 0
Applies cases n = Memᴰ (n when true) cases

-- The place of a number in the order "14 comes first and then the lowest number".
abbrev pub place : ℕ → ℕ
place n = elim (eqb n 14) [ true ↦ 0 | false ↦ n ]

-- "Where several apply, 14 comes first and then the lowest number": n applies, and no number that applies comes before it.
pub record FirstToApply (cases : List Refusal) (n : ℕ) : Type 0 where
  pub applies : Applies cases n
  pub first : (k : ℕ) → Applies cases k → place n ≤ place k

-- With these cases of refusal, these results and this policy after it, no more and no less is told: "refused exactly in the listed cases".
pub record Exactly (before : Model) (cases : List Refusal) (results : List ℕ) (after : Model) (told : Told) : Type 0 where
  -- A number, not 0, is answered exactly when it is the first of the cases that applies.
  pub refused : (n : ℕ) → (n ≡ 0 → ⊥) → (told.answer ≡ n) ↔ FirstToApply cases n
  -- 0 is answered exactly when none applies,
  pub done : (told.answer ≡ 0) ↔ ((n : ℕ) → Applies cases n → ⊥)
  -- and then the results and the policy after it are these.
  pub gives : told.answer ≡ 0 → told.results ≡ results
  pub changes : told.answer ≡ 0 → told.after ≡ after
  -- "Every refusal changes nothing .. and gives no results."
  pub silent : (told.answer ≡ 0 → ⊥) → told.results ≡ []
  pub unchanged : (told.answer ≡ 0 → ⊥) → told.after ≡ before

-- Anything that takes commands obeys demand 2, if on every reachable policy each command tells exactly that.
abbrev pub Obeys : (Model → Command → List ℕ → Told) → Type 0
Obeys engine = (m : Model) → Reachable m → (c : Command) (list : List ℕ) → Exactly m (refusals m c list) (results m c list) (effect m c list) (engine m c list)

-- ---- access

-- An active role of the session, or a role that one inherits, holds the permission.
pub record Granted (m : Model) (s p : ℕ) : Type 0 where
  pub role : ℕ
  pub effective : Effective m s role
  pub holds : has (m.holders p) role ≡ true

-- The first effective role of the session, "taken in ascending order", "that holds the grant": active or inherited alike.
pub record FirstHolder (m : Model) (s p first : ℕ) : Type 0 where
  pub effective : Effective m s first
  pub holds : has (m.holders p) first ≡ true
  pub lowest : (k : ℕ) → Effective m s k → has (m.holders p) k ≡ true → first ≤ k

-- "the number of effective roles it looked at .. up to and including the first that holds the grant" (request 10)
pub record LookedUpTo (m : Model) (s p n : ℕ) : Type 0 where
  pub role : ℕ
  pub holder : FirstHolder m s p role
  pub number : HowMany (λ k. Effective m s k × (k ≤ role)) n

-- "or all of them where none does"
pub record LookedAtAll (m : Model) (s p n : ℕ) : Type 0 where
  pub none : Granted m s p → ⊥
  pub number : HowMany (Effective m s) n

-- "`check s op obj`: refusals 1 and 2, else answer 0 with the result 1 for yes or 0 for no. Yes exactly when some effective role of the session
-- holds the grant." "`check` now also gives the number of effective roles it looked at" (request 10)
abbrev pub check_refusals : Model → ℕ → ℕ → ℕ → List Refusal
check_refusals m s op obj = 1 when (s beyond 63 || (op beyond 15 || obj beyond 255)) ∷ 2 when not (m.sessions s).live ∷ []

-- What is told of a question for access.
pub record Checked (m : Model) (s op obj : ℕ) (told : Told) : Type 0 where
  -- A number, not 0, is answered exactly when it is the first of the two refusals that applies.
  pub refused : (n : ℕ) → (n ≡ 0 → ⊥) → (told.answer ≡ n) ↔ FirstToApply (check_refusals m s op obj) n
  -- 0 is answered exactly when neither applies.
  pub done : (told.answer ≡ 0) ↔ ((n : ℕ) → Applies (check_refusals m s op obj) n → ⊥)
  -- Then there are two results, and the first is 1 or 0.
  pub answers : told.answer ≡ 0 → (n : ℕ) × ((told.results ≡ 1 ∷ n ∷ []) ⊎ (told.results ≡ 0 ∷ n ∷ []))
  -- It is 1, yes, exactly when an effective role of the session holds the permission, "written as operation * 256 + object".
  pub exactly : told.answer ≡ 0 → ((n : ℕ) × (told.results ≡ 1 ∷ n ∷ [])) ↔ Granted m s (op * 256 + obj)
  -- The second is the number of the effective roles looked at: on yes of those up to the first that holds it, on no of all of them.
  pub looked_yes : told.answer ≡ 0 → (n : ℕ) → (told.results ≡ 1 ∷ n ∷ []) ↔ LookedUpTo m s (op * 256 + obj) n
  pub looked_no : told.answer ≡ 0 → (n : ℕ) → (told.results ≡ 0 ∷ n ∷ []) ↔ LookedAtAll m s (op * 256 + obj) n
  -- "The number .. is at most 64. A session with none active gives 0", and no other does.
  pub at_most : (said n : ℕ) → told.results ≡ said ∷ n ∷ [] → n ≤ 64
  pub none_active : (said n : ℕ) → told.results ≡ said ∷ n ∷ [] → (n ≡ 0) ↔ ((r : ℕ) → has (m.sessions s).active r ≡ false)
  -- A refusal gives no results.
  pub silent : (told.answer ≡ 0 → ⊥) → told.results ≡ []
  -- Nothing is changed, whatever the answer.
  pub unchanged : told.after ≡ m

-- Anything that is asked for access obeys demand 2, if on every reachable policy it answers so.
abbrev pub Answers : (Model → ℕ → ℕ → ℕ → Told) → Type 0
Answers checker = (m : Model) → Reachable m → (s op obj : ℕ) → Checked m s op obj (checker m s op obj)

-- Every command does, and every question for access is answered, exactly as the paper says.
pub record Demand2 : Type 0 where
  pub commands : Obeys step
  pub access : Answers check
