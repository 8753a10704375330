-- What becomes of the effective roles of a session with `assign`, and with the commands that take something away: none comes to them. So these need no
-- 11 (request 2; that no command leaves the dynamic rule broken is `Rules.dynamic`). Of every policy, whether or not it can be reached, and of
-- refused commands too. Assumes nothing.
use Rattle.std.specs.Prelude.{List, ◌↔◌, ℕ}
use Rattle.numbers.specs.declared.Role.{Role}
use Rattle.numbers.specs.declared.Session.{Session}
use Rattle.numbers.specs.declared.User.{User}
use Rattle.model.specs.Model.{Model}
use Rattle.model.specs.Step.{step}
use Rattle.model.specs.declared.Command.{Command}
use Rattle.model.specs.declared.Command.TheVariants.{NoRole, Assign, Deassign, Disinherit, DropActive, EndSession, EndAll}
use Rattle.demands.specs.Authorised.{Effective}

-- The role x is effective in session s after the command.
abbrev pub EffectiveAfter : Model → Command → List ℕ → ℕ → ℕ → Type 0
EffectiveAfter m c list s x = Effective (step m c list).after s x

-- Of a policy, a list, a session s and a role x:
pub record EffectiveRoles (m : Model) (list : List ℕ) (s x : ℕ) : Type 0 where
  -- An assignment changes nothing in them.
  pub assign : (u : User) (r : Role) → EffectiveAfter m (Assign u r) list s x ↔ Effective m s x
  -- What takes away gives none: what is effective afterwards was effective before.
  pub deassign : (u : User) (r : Role) → EffectiveAfter m (Deassign u r) list s x → Effective m s x
  pub disinherit : (senior junior : Role) → EffectiveAfter m (Disinherit senior junior) list s x → Effective m s x
  pub norole : (r : Role) → EffectiveAfter m (NoRole r) list s x → Effective m s x
  pub drop : (u : User) (k : Session) (r : Role) → EffectiveAfter m (DropActive u k r) list s x → Effective m s x
  pub end : (u : User) (k : Session) → EffectiveAfter m (EndSession u k) list s x → Effective m s x
  pub end_all : (u : User) → EffectiveAfter m (EndAll u) list s x → Effective m s x
