-- "The policy and sessions that a function takes are the engine's own: the empty policy, or what an earlier answer handed back." The code's own
-- states: from `start`, by calls of the functions in any order and with any arguments. Assumes nothing.
--
-- The engine's own functions are `start`, the commands, `step`, `load` and the lines of a script. The public functions named here can change an array
-- of numbers too and are none of them: they are parts that the engine is made of, and a crate cannot hide a function from some crates only. An array
-- that a caller changed by one of them, or by storing into it, is not of the code's own states, and nothing is said of it here.
-- ---- written by tests/unique.py: the functions outside
-- `state.stores` (put_all, put_user, put_roles, put_juniors, put_assigned, put_holders, put_lines, put_assignments, put_set, put_members,
-- clear_set, open_session, put_active, close_session, put_all_active): each stores one part of the state as it is given, for the commands, which
-- ask their refusals first.
-- `sweeps` (end_all, strip): passes of `end-all` and `norole` over the sessions, and over a table that is lent as a slice.
-- `policyread` (gather): the numbers of any file, stored without a test, for `load`, which tests them before it stores them as the state.
-- ---- end of what tests/unique.py writes
use Rattle.std.specs.Prelude.{List, ℕ}
use contract.Lifetimes.{Lfts}
use denote.Triple.Clauses.{AtExit}
use borrow.Fn.Kinds.{ParamKind, ResultKind, Dens, res_t, ended_of, Out}
use Rattle.state.specs.View.{view}
use Rattle.demands.specs.Conditions.{OfPolicy}
use Rattle.demands.specs.Demand3.{Rules, Shape, Limits}
use Rattle.demands.specs.Reachable.{Reachable}
use Rattle.state.proofs as state
-- ---- written by tests/unique.py: the crates
use Rattle.users.proofs as users
use Rattle.roles.proofs as roles
use Rattle.assigning.proofs as assigning
use Rattle.granting.proofs as granting
use Rattle.inheriting.proofs as inheriting
use Rattle.sets.proofs as sets
use Rattle.sessions.proofs as sessions
use Rattle.engine.proofs as engine
use Rattle.policyfile.proofs as policyfile
use Rattle.script.proofs as script
use Rattle.program.proofs as program
use Rattle.clibrary.proofs as clibrary

-- ---- end of what tests/unique.py writes

-- a call: what a function was given, what it handed back, and that its contract holds of these. (Every call of a proved function is one.)
pub record Call {n : ℕ} (ps : List (ParamKind n)) (r : ResultKind n) (Post : Out n ps r) : Type 0 where
  pub lifetimes : Lfts n
  pub given : Dens lifetimes ps
  pub result : (res_t r lifetimes).Denot
  pub exits : AtExit (ended_of n ps r) lifetimes
  pub met : Post lifetimes given result exits

-- the numbers are those that `start` or `begin` left, or those that a command (by its own function, or by `step`), a line of a script, a call of the
-- program or a load of any bytes left of such numbers, done or refused. A C program's calls count as these.
pub data Handed : List ℕ → Type 0 where
  empty : (c : Call state.stores.start.Kinds.ps state.stores.start.Kinds.r state.stores.start.Reads.Post) → Handed c.exits.0.now
  -- ---- written by tests/unique.py: the functions that change the state and answer
  user : (c : Call users.user.Kinds.ps users.user.Kinds.r users.user.Reads.Post) → Handed c.given.0.now → Handed c.exits.0.now
  end_all : (c : Call users.end_all.Kinds.ps users.end_all.Kinds.r users.end_all.Reads.Post) → Handed c.given.0.now → Handed c.exits.0.now
  nouser : (c : Call users.nouser.Kinds.ps users.nouser.Kinds.r users.nouser.Reads.Post) → Handed c.given.0.now → Handed c.exits.0.now
  role : (c : Call roles.role.Kinds.ps roles.role.Kinds.r roles.role.Reads.Post) → Handed c.given.0.now → Handed c.exits.0.now
  norole : (c : Call roles.norole.Kinds.ps roles.norole.Kinds.r roles.norole.Reads.Post) → Handed c.given.0.now → Handed c.exits.0.now
  assign : (c : Call assigning.assign.Kinds.ps assigning.assign.Kinds.r assigning.assign.Reads.Post) → Handed c.given.0.now → Handed c.exits.0.now
  deassign : (c : Call assigning.deassign.Kinds.ps assigning.deassign.Kinds.r assigning.deassign.Reads.Post) → Handed c.given.0.now → Handed c.exits.0.now
  grant : (c : Call granting.grant.Kinds.ps granting.grant.Kinds.r granting.grant.Reads.Post) → Handed c.given.0.now → Handed c.exits.0.now
  revoke : (c : Call granting.revoke.Kinds.ps granting.revoke.Kinds.r granting.revoke.Reads.Post) → Handed c.given.0.now → Handed c.exits.0.now
  inherit : (c : Call inheriting.inherit.Kinds.ps inheriting.inherit.Kinds.r inheriting.inherit.Reads.Post) → Handed c.given.0.now → Handed c.exits.0.now
  disinherit : (c : Call inheriting.disinherit.Kinds.ps inheriting.disinherit.Kinds.r inheriting.disinherit.Reads.Post) → Handed c.given.0.now → Handed c.exits.0.now
  make_set : (c : Call sets.make_set.Kinds.ps sets.make_set.Kinds.r sets.make_set.Reads.Post) → Handed c.given.0.now → Handed c.exits.0.now
  drop_set : (c : Call sets.drop_set.Kinds.ps sets.drop_set.Kinds.r sets.drop_set.Reads.Post) → Handed c.given.0.now → Handed c.exits.0.now
  add_member : (c : Call sets.add_member.Kinds.ps sets.add_member.Kinds.r sets.add_member.Reads.Post) → Handed c.given.0.now → Handed c.exits.0.now
  drop_member : (c : Call sets.drop_member.Kinds.ps sets.drop_member.Kinds.r sets.drop_member.Reads.Post) → Handed c.given.0.now → Handed c.exits.0.now
  set_cardinality : (c : Call sets.set_cardinality.Kinds.ps sets.set_cardinality.Kinds.r sets.set_cardinality.Reads.Post) → Handed c.given.0.now → Handed c.exits.0.now
  session : (c : Call sessions.session.Kinds.ps sessions.session.Kinds.r sessions.session.Reads.Post) → Handed c.given.0.now → Handed c.exits.0.now
  activate : (c : Call sessions.activate.Kinds.ps sessions.activate.Kinds.r sessions.activate.Reads.Post) → Handed c.given.0.now → Handed c.exits.0.now
  drop : (c : Call sessions.drop.Kinds.ps sessions.drop.Kinds.r sessions.drop.Reads.Post) → Handed c.given.0.now → Handed c.exits.0.now
  end : (c : Call sessions.end.Kinds.ps sessions.end.Kinds.r sessions.end.Reads.Post) → Handed c.given.0.now → Handed c.exits.0.now
  step : (c : Call engine.step.Kinds.ps engine.step.Kinds.r engine.step.Reads.Post) → Handed c.given.0.now → Handed c.exits.0.now
  load : (c : Call policyfile.load.Kinds.ps policyfile.load.Kinds.r policyfile.load.Reads.Post) → Handed c.given.0.now → Handed c.exits.0.now
  answer_line : (c : Call script.answer_line.Kinds.ps script.answer_line.Kinds.r script.answer_line.Reads.Post) → Handed c.given.0.now → Handed c.exits.0.now
  turn : (c : Call script.turn.Kinds.ps script.turn.Kinds.r script.turn.Reads.Post) → Handed c.given.1.0.now → Handed c.exits.1.0.now
  begin : (c : Call program.begin.Kinds.ps program.begin.Kinds.r program.begin.Reads.Post) → Handed c.exits.0.now
  next : (c : Call program.next.Kinds.ps program.next.Kinds.r program.next.Reads.Post) → Handed c.given.1.0.now → Handed c.exits.1.0.now
  marruskil_start : (c : Call clibrary.marruskil_start.Kinds.ps clibrary.marruskil_start.Kinds.r clibrary.marruskil_start.Reads.Post) → Handed c.exits.0.now
  marruskil_obey : (c : Call clibrary.marruskil_obey.Kinds.ps clibrary.marruskil_obey.Kinds.r clibrary.marruskil_obey.Reads.Post) → Handed c.given.0.now → Handed c.exits.0.now
  marruskil_load : (c : Call clibrary.marruskil_load.Kinds.ps clibrary.marruskil_load.Kinds.r clibrary.marruskil_load.Reads.Post) → Handed c.given.0.now → Handed c.exits.0.now

-- ---- end of what tests/unique.py writes

-- What such a state holds can be reached from the empty policy by the commands of the paper and by loads, and so the demands are about it. (What each
-- call on it tells is in OwnCalls.)
pub record Owned : Type 0 where
  pub reachable : {l : List ℕ} → Handed l → Reachable (view l)
  -- Demand 3: the rules; that every user and role that it names exists, and its sets have the paper's shape; the paper's limits.
  pub rules : {l : List ℕ} → Handed l → Rules (view l)
  pub shape : {l : List ℕ} → Handed l → Shape (view l)
  pub limits : {l : List ℕ} → Handed l → Limits (view l)
  -- Demand 2: the conditions of the refusals 6, 8, 9, 10, 11 and 12 are of it what the paper's words say.
  pub conditions : {l : List ℕ} → Handed l → OfPolicy (view l)
