-- Demand 2 of the code's own calls on the code's own states: "Each command changes exactly what the standard, as read in the paper, says, and is refused
-- exactly in the listed cases. Access is granted exactly when an active role, or a role that one inherits, holds the permission." "A saved policy loads
-- as itself; a file that loads is saved again byte for byte." What a call told is read from what it handed back: its answer, its results, and the numbers
-- that it left. No two states mean the same (Frame), so that what is said of the policy and sessions after a call fixes every number. Assumes nothing.
--
-- Of a call c, `c.given` is what the function was given, in the order of its parameters: .0 is the first, .1 .0 the second, .1 .1 .0 the third. `c.exits`
-- is the same after the call, `c.result` what it handed back, and `.now` the numbers of what was lent.
use Rattle.std.specs.Prelude.{true, not, Result, Ok, Err, IsOkAnd, List, [], ◌∷◌, ◌⊎◌, ◌↔◌, ◌≡◌, ℕ, ◌+◌, ◌*◌, ◌<◌, ◌≤◌, eqb, length, get_or, take, drop, Option, Some, None}
use Rattle.std.proofs.lemmas.List.Edits.{sets}
use Rattle.numbers.specs.Answers.{number_of, refusal_number}
use Rattle.numbers.specs.declared.Refusal.{Refusal}
use Rattle.numbers.specs.declared.Session.{Session}
use Rattle.model.specs.Model.{Model, empty}
use Rattle.model.specs.Questions as model
use Rattle.model.specs.Sheet.{Told, ◌when◌, refused}
use Rattle.model.specs.declared.Command.{Command}
use Rattle.model.specs.declared.Command.TheVariants as commands
use Rattle.model.specs.declared.Question.{Question}
use Rattle.model.specs.declared.Question.TheVariants as questions
use Rattle.state.specs.View.{view, told}
use Rattle.state.specs.Results.{given_number, given, both_given}
use Rattle.sessions.specs.Answering.{told_opened}
use Rattle.checking.specs.Answering.{told_checked}
use Rattle.text.specs.Putting.{Put}
use Rattle.textlines.specs.Parts.{part_at, place_past}
use Rattle.textlines.specs.Tallies.{counted}
use Rattle.words.specs.ScriptWords.{word_of}
use Rattle.transcripts.specs.LineForm.{LineForm}
use Rattle.meaning.specs.Meaning.{meant}
use Rattle.meaning.specs.declared.Meant.{Meant}
use Rattle.meaning.specs.declared.Meant.TheVariants.{Do, Ask}
use Rattle.script.specs.Script.{answer_text, line_feed}
use Rattle.program.specs.Printing.{Begins, stage_of, line}
use Rattle.demands.specs.Demand2.{Exactly, Applies, ◌beyond◌, refusals, results, effect, check_refusals, Checked, Granted}
use Rattle.demands.specs.Reviews as demands
use Rattle.policyform.specs.Promises.{Loads, Saves}
use Rattle.unique.specs.Handed.{Call, Handed}
use Rattle.unique.specs.Unique.{State}
-- ---- written by tests/unique.py: the crates
use Rattle.users.proofs as users
use Rattle.roles.proofs as roles
use Rattle.assigning.proofs as assigning
use Rattle.granting.proofs as granting
use Rattle.inheriting.proofs as inheriting
use Rattle.sets.proofs as sets
use Rattle.sessions.proofs as sessions
use Rattle.checking.proofs as checking
use Rattle.reviews.proofs as reviews
use Rattle.engine.proofs as engine
use Rattle.policyfile.proofs as policyfile
use Rattle.script.proofs as script
use Rattle.program.proofs as program
use Rattle.clibrary.proofs as clibrary

-- ---- end of what tests/unique.py writes

-- ---- the commands

-- Demand 2 of what was told of a command: it is refused exactly in the listed cases, and else has exactly these results and leaves exactly this policy
-- with its sessions.
abbrev pub Does : Model → Command → List ℕ → Told → Type 0
Does m c list told = Exactly m (refusals m c list) (results m c list) (effect m c list) told

-- The same of a command that a state l of the code's own was lent to.
abbrev pub Obeyed : List ℕ → Command → List ℕ → Told → Type 0
Obeyed l c list told = Handed l → Does (view l) c list told

-- What `step` told that left the state l: the answer's number, the session that was opened where there is one, and the policy and sessions after it.
abbrev pub told_stepped : Result (Option Session) Refusal → List ℕ → Told
told_stepped (Ok None) l = record { answer = 0; results = []; after = view l }
told_stepped (Ok (Some opened)) l = record { answer = 0; results = opened.number ∷ []; after = view l }
told_stepped (Err refusal) l = record { answer = refusal_number refusal; results = []; after = view l }

-- Each command, by its own function, with any numbers and any list; and any command through `step`.
pub record Commands : Type 0 where
  -- ---- written by tests/unique.py: the commands
  pub user : (c : Call users.user.Kinds.ps users.user.Kinds.r users.user.Reads.Post) → Obeyed c.given.0.now (commands.AddUser c.given.1.0) [] (told c.result c.exits.0.now)
  pub end_all : (c : Call users.end_all.Kinds.ps users.end_all.Kinds.r users.end_all.Reads.Post) → Obeyed c.given.0.now (commands.EndAll c.given.1.0) [] (told c.result c.exits.0.now)
  pub nouser : (c : Call users.nouser.Kinds.ps users.nouser.Kinds.r users.nouser.Reads.Post) → Obeyed c.given.0.now (commands.NoUser c.given.1.0) [] (told c.result c.exits.0.now)
  pub role : (c : Call roles.role.Kinds.ps roles.role.Kinds.r roles.role.Reads.Post) → Obeyed c.given.0.now (commands.AddRole c.given.1.0) [] (told c.result c.exits.0.now)
  pub norole : (c : Call roles.norole.Kinds.ps roles.norole.Kinds.r roles.norole.Reads.Post) → Obeyed c.given.0.now (commands.NoRole c.given.1.0) [] (told c.result c.exits.0.now)
  pub assign : (c : Call assigning.assign.Kinds.ps assigning.assign.Kinds.r assigning.assign.Reads.Post) → Obeyed c.given.0.now (commands.Assign c.given.1.0 c.given.1.1.0) [] (told c.result c.exits.0.now)
  pub deassign : (c : Call assigning.deassign.Kinds.ps assigning.deassign.Kinds.r assigning.deassign.Reads.Post) → Obeyed c.given.0.now (commands.Deassign c.given.1.0 c.given.1.1.0) [] (told c.result c.exits.0.now)
  pub grant : (c : Call granting.grant.Kinds.ps granting.grant.Kinds.r granting.grant.Reads.Post) → Obeyed c.given.0.now (commands.Grant c.given.1.0 c.given.1.1.0 c.given.1.1.1.0) [] (told c.result c.exits.0.now)
  pub revoke : (c : Call granting.revoke.Kinds.ps granting.revoke.Kinds.r granting.revoke.Reads.Post) → Obeyed c.given.0.now (commands.Revoke c.given.1.0 c.given.1.1.0 c.given.1.1.1.0) [] (told c.result c.exits.0.now)
  pub inherit : (c : Call inheriting.inherit.Kinds.ps inheriting.inherit.Kinds.r inheriting.inherit.Reads.Post) → Obeyed c.given.0.now (commands.Inherit c.given.1.0 c.given.1.1.0) [] (told c.result c.exits.0.now)
  pub disinherit : (c : Call inheriting.disinherit.Kinds.ps inheriting.disinherit.Kinds.r inheriting.disinherit.Reads.Post) → Obeyed c.given.0.now (commands.Disinherit c.given.1.0 c.given.1.1.0) [] (told c.result c.exits.0.now)
  pub make_set : (c : Call sets.make_set.Kinds.ps sets.make_set.Kinds.r sets.make_set.Reads.Post) → Obeyed c.given.0.now (commands.MakeSet c.given.1.0 c.given.1.1.0 c.given.1.1.1.0) c.given.1.1.1.1.0.now (told c.result c.exits.0.now)
  pub drop_set : (c : Call sets.drop_set.Kinds.ps sets.drop_set.Kinds.r sets.drop_set.Reads.Post) → Obeyed c.given.0.now (commands.DropSet c.given.1.0 c.given.1.1.0) [] (told c.result c.exits.0.now)
  pub add_member : (c : Call sets.add_member.Kinds.ps sets.add_member.Kinds.r sets.add_member.Reads.Post) → Obeyed c.given.0.now (commands.AddMember c.given.1.0 c.given.1.1.0 c.given.1.1.1.0) [] (told c.result c.exits.0.now)
  pub drop_member : (c : Call sets.drop_member.Kinds.ps sets.drop_member.Kinds.r sets.drop_member.Reads.Post) → Obeyed c.given.0.now (commands.DropMember c.given.1.0 c.given.1.1.0 c.given.1.1.1.0) [] (told c.result c.exits.0.now)
  pub set_cardinality : (c : Call sets.set_cardinality.Kinds.ps sets.set_cardinality.Kinds.r sets.set_cardinality.Reads.Post) → Obeyed c.given.0.now (commands.SetCardinality c.given.1.0 c.given.1.1.0 c.given.1.1.1.0) [] (told c.result c.exits.0.now)
  pub session : (c : Call sessions.session.Kinds.ps sessions.session.Kinds.r sessions.session.Reads.Post) → Obeyed c.given.0.now (commands.OpenSession c.given.1.0) c.given.1.1.0.now (told_opened c.result c.exits.0.now)
  pub activate : (c : Call sessions.activate.Kinds.ps sessions.activate.Kinds.r sessions.activate.Reads.Post) → Obeyed c.given.0.now (commands.Activate c.given.1.0 c.given.1.1.0 c.given.1.1.1.0) [] (told c.result c.exits.0.now)
  pub drop : (c : Call sessions.drop.Kinds.ps sessions.drop.Kinds.r sessions.drop.Reads.Post) → Obeyed c.given.0.now (commands.DropActive c.given.1.0 c.given.1.1.0 c.given.1.1.1.0) [] (told c.result c.exits.0.now)
  pub end : (c : Call sessions.end.Kinds.ps sessions.end.Kinds.r sessions.end.Reads.Post) → Obeyed c.given.0.now (commands.EndSession c.given.1.0 c.given.1.1.0) [] (told c.result c.exits.0.now)
  -- ---- end of what tests/unique.py writes
  pub step : (c : Call engine.step.Kinds.ps engine.step.Kinds.r engine.step.Reads.Post) → Obeyed c.given.0.now c.given.1.0 c.given.1.1.0.now (told_stepped c.result c.exits.0.now)

-- ---- the questions

-- The session may do the operation on the object: the operation is one of 0 to 15, the object is one of 0 to 255, and the permission, "written as
-- operation * 256 + object", is granted to an effective role of the session.
pub record MayDo (m : Model) (s op obj : ℕ) : Type 0 where
  pub operation : op ≤ 15
  pub object : obj ≤ 255
  pub granted : Granted m s (op * 256 + obj)

-- What a review told over m that left this buffer: the answer's number, and as many results at the buffer's front as it counted. A question changes nothing.
unfoldable pub told_review : Model → Result ℕ Refusal → List ℕ → Told
told_review m x after = record { answer = number_of x; results = take (given_number x) after; after = m }

-- What a review handed back is what the model's `ask` tells of the question, asked of the state l with as much room as the buffer had before.
abbrev pub Tells : List ℕ → Question → List ℕ → List ℕ → Result ℕ Refusal → Type 0
Tells l q before after x = told_review (view l) x after ≡ model.ask (view l) (length before) q

-- What is told of a question in a buffer with so many places: what has no more results than that is told as it is, and what would have more is 15.
abbrev pub InPlaces : ℕ → Model → Told → Told → Type 0
InPlaces places m asked told = ((length asked.results ≤ places) × (told ≡ asked)) ⊎ ((places < length asked.results) × (told ≡ refused 15 m))

-- A question has its room: a review asks for it itself, and `check` has two results.
abbrev pub HasRoom : Question → ℕ → Type 0
HasRoom q places = (s : Session) (op obj : ℕ) → q ≡ questions.Check s op obj → 2 ≤ places

-- What the question whose session s is answers, and the owner that it hands back.
abbrev pub OwnerTold : Model → ℕ → ℕ → ℕ → Type 0
OwnerTold m s answer owner = Exactly m (1 when (s beyond 63) ∷ 2 when not (m.sessions s).live ∷ []) ((m.sessions s).owner ∷ []) m (record { answer = answer; results = given (eqb answer 0) owner; after = m })

pub record Questions : Type 0 where
  -- `check`, asked with the lent state and the session's number, is refused and answered as demand 2 says.
  pub check : (c : Call checking.check.Kinds.ps checking.check.Kinds.r checking.check.Reads.Post) → Handed c.given.0.now → Checked (view c.given.0.now) c.given.1.0.number c.given.1.1.0 c.given.1.1.1.0 (told_checked (view c.given.0.now) c.result)
  -- "Yes exactly when some effective role of the session holds the grant."
  pub yes : (c : Call checking.check.Kinds.ps checking.check.Kinds.r checking.check.Reads.Post) → Handed c.given.0.now → IsOkAnd c.result (λ x. x.yes ≡ true) ↔ MayDo (view c.given.0.now) c.given.1.0.number c.given.1.1.0 c.given.1.1.1.0
  -- Any question through `ask`, of any state: a review with any buffer, `check` with one of two places or more.
  pub ask : (c : Call engine.ask.Kinds.ps engine.ask.Kinds.r engine.ask.Reads.Post) → HasRoom c.given.1.0 (length c.given.1.1.0.now)
      → Tells c.given.0.now c.given.1.0 c.given.1.1.0.now c.exits.1.1.0.now c.result
  -- So on a state of the code's own it is answered as demand 2 says of questions.
  pub asked : (c : Call engine.ask.Kinds.ps engine.ask.Kinds.r engine.ask.Reads.Post) → Handed c.given.0.now → HasRoom c.given.1.0 (length c.given.1.1.0.now)
      → demands.Answered (view c.given.0.now) (length c.given.1.1.0.now) c.given.1.0 (told_review (view c.given.0.now) c.result c.exits.1.1.0.now)
  -- With any buffer, of any state.
  pub in_places : (c : Call engine.ask.Kinds.ps engine.ask.Kinds.r engine.ask.Reads.Post)
      → InPlaces (length c.given.1.1.0.now) (view c.given.0.now) (model.ask (view c.given.0.now) (length c.given.1.1.0.now) c.given.1.0) (told_review (view c.given.0.now) c.result c.exits.1.1.0.now)
  -- So `check` is 15 exactly where it is not refused otherwise and the buffer has fewer than two places (request 10).
  pub two_places : (c : Call engine.ask.Kinds.ps engine.ask.Kinds.r engine.ask.Reads.Post) (s : Session) (op obj : ℕ) → c.given.1.0 ≡ questions.Check s op obj
      → (number_of c.result ≡ 15) ↔ (((n : ℕ) → Applies (check_refusals (view c.given.0.now) s.number op obj) n → ⊥) × (length c.given.1.1.0.now < 2))
  -- Whose a session is, of any state: 1 where its number is beyond 63, else 2 where it is not open, else its owner.
  pub owner : (c : Call checking.owner.Kinds.ps checking.owner.Kinds.r checking.owner.Reads.Post) → OwnerTold (view c.given.0.now) c.given.1.0.number (number_of c.result) (given_number c.result)
  -- Each review by its own function, of any state, with any buffer.
  -- ---- written by tests/unique.py: the reviews
  pub assigned_users : (c : Call reviews.assigned_users.Kinds.ps reviews.assigned_users.Kinds.r reviews.assigned_users.Reads.Post) → Tells c.given.0.now (questions.AssignedUsers c.given.1.0) c.given.1.1.0.now c.exits.1.1.0.now c.result
  pub assigned_roles : (c : Call reviews.assigned_roles.Kinds.ps reviews.assigned_roles.Kinds.r reviews.assigned_roles.Reads.Post) → Tells c.given.0.now (questions.AssignedRoles c.given.1.0) c.given.1.1.0.now c.exits.1.1.0.now c.result
  pub auth_users : (c : Call reviews.auth_users.Kinds.ps reviews.auth_users.Kinds.r reviews.auth_users.Reads.Post) → Tells c.given.0.now (questions.AuthUsers c.given.1.0) c.given.1.1.0.now c.exits.1.1.0.now c.result
  pub auth_roles : (c : Call reviews.auth_roles.Kinds.ps reviews.auth_roles.Kinds.r reviews.auth_roles.Reads.Post) → Tells c.given.0.now (questions.AuthRoles c.given.1.0) c.given.1.1.0.now c.exits.1.1.0.now c.result
  pub role_perms : (c : Call reviews.role_perms.Kinds.ps reviews.role_perms.Kinds.r reviews.role_perms.Reads.Post) → Tells c.given.0.now (questions.RolePerms c.given.1.0) c.given.1.1.0.now c.exits.1.1.0.now c.result
  pub user_perms : (c : Call reviews.user_perms.Kinds.ps reviews.user_perms.Kinds.r reviews.user_perms.Reads.Post) → Tells c.given.0.now (questions.UserPerms c.given.1.0) c.given.1.1.0.now c.exits.1.1.0.now c.result
  pub session_roles : (c : Call reviews.session_roles.Kinds.ps reviews.session_roles.Kinds.r reviews.session_roles.Reads.Post) → Tells c.given.0.now (questions.SessionRoles c.given.1.0) c.given.1.1.0.now c.exits.1.1.0.now c.result
  pub session_perms : (c : Call reviews.session_perms.Kinds.ps reviews.session_perms.Kinds.r reviews.session_perms.Reads.Post) → Tells c.given.0.now (questions.SessionPerms c.given.1.0) c.given.1.1.0.now c.exits.1.1.0.now c.result
  pub role_ops : (c : Call reviews.role_ops.Kinds.ps reviews.role_ops.Kinds.r reviews.role_ops.Reads.Post) → Tells c.given.0.now (questions.RoleOps c.given.1.0 c.given.1.1.0) c.given.1.1.1.0.now c.exits.1.1.1.0.now c.result
  pub user_ops : (c : Call reviews.user_ops.Kinds.ps reviews.user_ops.Kinds.r reviews.user_ops.Reads.Post) → Tells c.given.0.now (questions.UserOps c.given.1.0 c.given.1.1.0) c.given.1.1.1.0.now c.exits.1.1.1.0.now c.result
  pub set_names : (c : Call reviews.set_names.Kinds.ps reviews.set_names.Kinds.r reviews.set_names.Reads.Post) → Tells c.given.0.now (questions.Sets c.given.1.0) c.given.1.1.0.now c.exits.1.1.0.now c.result
  pub set_roles : (c : Call reviews.set_roles.Kinds.ps reviews.set_roles.Kinds.r reviews.set_roles.Reads.Post) → Tells c.given.0.now (questions.SetRoles c.given.1.0 c.given.1.1.0) c.given.1.1.1.0.now c.exits.1.1.1.0.now c.result
  pub set_count : (c : Call reviews.set_count.Kinds.ps reviews.set_count.Kinds.r reviews.set_count.Reads.Post) → Tells c.given.0.now (questions.SetCount c.given.1.0 c.given.1.1.0) c.given.1.1.1.0.now c.exits.1.1.1.0.now c.result
  -- ---- end of what tests/unique.py writes

-- ---- lines of a script

-- What is told of a line that means a command, a question or nothing.
abbrev pub Means : Model → Option Meant → List ℕ → Told → Type 0
Means m (Some (Do c)) list told = Does m c list told
Means m (Some (Ask q)) list told = told ≡ model.ask m 4096 q
Means m None list told = told ≡ refused 14 m

-- What is told of any text: where it is a word and its numbers, written as the paper says, what these mean; else 14, and nothing is changed.
pub record LineTells (m : Model) (text : List ℕ) (told : Told) : Type 0 where
  pub formed : (k : ℕ) (ns : List ℕ) → LineForm text k ns → Means m (meant k (get_or ns 0 0) (get_or ns 1 0) (get_or ns 2 0)) (drop (word_of k).numbers ns) told
  pub not_formed : ((k : ℕ) (ns : List ℕ) → LineForm text k ns → ⊥) → told ≡ refused 14 m

-- What a line left: its answer and results as a text at the front of the lent buffer, ending at `len`, and its policy and sessions in the state l.
pub record Answered (m : Model) (text before after : List ℕ) (len : ℕ) (l : List ℕ) : Type 0 where
  pub line : Told
  pub tells : LineTells m text line
  pub puts : Put before 0 (answer_text line.answer line.results) after len
  pub state : view l ≡ line.after

pub record Lines : Type 0 where
  -- A line, and whether its answer was 0.
  pub answer_line : (c : Call script.answer_line.Kinds.ps script.answer_line.Kinds.r script.answer_line.Reads.Post) → Handed c.given.0.now
      → (x : Answered (view c.given.0.now) c.given.1.0.now c.given.1.1.0.now c.exits.1.1.0.now c.result.len c.exits.0.now) × (c.result.ok ≡ eqb x.line.answer 0)
  -- The line at a place of a script; the tally counts it as answered 0 or otherwise, and the next place is past it.
  pub turn : (c : Call script.turn.Kinds.ps script.turn.Kinds.r script.turn.Reads.Post) → Handed c.given.1.0.now
      → (x : Answered (view c.given.1.0.now) (part_at line_feed c.given.0.now c.given.1.1.0.at) c.given.1.1.1.0.now c.exits.1.1.1.0.now c.result.len c.exits.1.0.now)
      × (c.result.next.tally ≡ counted c.given.1.1.0.tally (eqb x.line.answer 0)) × (c.result.next.at ≡ place_past line_feed c.given.0.now c.given.1.1.0.at)
  -- The program begins with no policy, no session and no line answered.
  pub begin : (c : Call program.begin.Kinds.ps program.begin.Kinds.r program.begin.Reads.Post) → Begins c.exits.0.now c.result
  -- A call of the program that has a line to answer answers this line.
  pub next : (c : Call program.next.Kinds.ps program.next.Kinds.r program.next.Reads.Post) → Handed c.given.1.0.now → stage_of c.given.0.now c.given.1.1.0 ≡ line
      → Answered (view c.given.1.0.now) (part_at line_feed c.given.0.now c.given.1.1.0.progress.at) c.given.1.1.1.0.now c.exits.1.1.1.0.now c.result.len c.exits.1.0.now

-- ---- the policy file

pub record Files : Type 0 where
  -- "A policy of ours never needs more than 36,048 bytes": with that much room saving is done.
  pub room : (s : Call policyfile.save.Kinds.ps policyfile.save.Kinds.r policyfile.save.Reads.Post) → Handed s.given.0.now → 36048 ≤ length s.given.1.0.now → number_of s.result ≡ 0
  -- "A saved policy loads as itself": a save that is done, and then a load, into any state, of the bytes that it wrote. The load is done, and the array
  -- after it is the array that was saved, number by number.
  pub itself : (s : Call policyfile.save.Kinds.ps policyfile.save.Kinds.r policyfile.save.Reads.Post) (l : Call policyfile.load.Kinds.ps policyfile.load.Kinds.r policyfile.load.Reads.Post)
      → Handed s.given.0.now → State s.given.0.now → State l.exits.0.now → number_of s.result ≡ 0 → l.given.1.0.now ≡ take (given_number s.result) s.exits.1.0.now
      → (number_of l.result ≡ 0) × (l.exits.0.now ≡ s.given.0.now)
  -- "a file that loads is saved again byte for byte": a load that is done, and then a save of what it left into a buffer with room for the file. The save
  -- is done, and what it wrote is the file.
  pub again : (l : Call policyfile.load.Kinds.ps policyfile.load.Kinds.r policyfile.load.Reads.Post) (s : Call policyfile.save.Kinds.ps policyfile.save.Kinds.r policyfile.save.Reads.Post)
      → number_of l.result ≡ 0 → s.given.0.now ≡ l.exits.0.now → length l.given.1.0.now ≤ length s.given.1.0.now
      → (number_of s.result ≡ 0) × (given_number s.result ≡ length l.given.1.0.now) × (take (given_number s.result) s.exits.1.0.now ≡ l.given.1.0.now)

-- ---- what a C program calls

pub record FromC : Type 0 where
  -- The state becomes the empty policy with no session.
  pub marruskil_start : (c : Call clibrary.marruskil_start.Kinds.ps clibrary.marruskil_start.Kinds.r clibrary.marruskil_start.Reads.Post) → view c.exits.0.now ≡ empty
  -- What a line tells, by demand 2, is obeyed: where its answer line has room, this stands at the front of the buffer, its length is handed back, and the
  -- policy and sessions are what the line tells. Where it has none, 0 is handed back, and the buffer, the policy and the sessions are as they were.
  pub marruskil_obey : (c : Call clibrary.marruskil_obey.Kinds.ps clibrary.marruskil_obey.Kinds.r clibrary.marruskil_obey.Reads.Post) → Handed c.given.0.now
      → (t : Told) × LineTells (view c.given.0.now) c.given.1.0.now t
      × (length (answer_text t.answer t.results) ≤ length c.given.1.1.0.now
      → (c.result ≡ length (answer_text t.answer t.results)) × (c.exits.1.1.0.now ≡ sets c.given.1.1.0.now 0 (answer_text t.answer t.results)) × (view c.exits.0.now ≡ t.after))
      × (length c.given.1.1.0.now < length (answer_text t.answer t.results) → (c.result ≡ 0) × (c.exits.1.1.0.now ≡ c.given.1.1.0.now) × (view c.exits.0.now ≡ view c.given.0.now))
  -- The number that is handed back, and where that is 0 the two stored where the caller says, are those that demand 2 says of the question for access.
  -- Where it is refused, what stood there stays.
  pub marruskil_check : (c : Call clibrary.marruskil_check.Kinds.ps clibrary.marruskil_check.Kinds.r clibrary.marruskil_check.Reads.Post) → Handed c.given.0.now
      → Checked (view c.given.0.now) c.given.1.0 c.given.1.1.0 c.given.1.1.1.0 (record { answer = c.result; results = both_given (eqb c.result 0) c.exits.1.1.1.1.0.now c.exits.1.1.1.1.1.0.now; after = view c.given.0.now })
      × ((c.result ≡ 0 → ⊥) → (c.exits.1.1.1.1.0.now ≡ c.given.1.1.1.1.0.now) × (c.exits.1.1.1.1.1.0.now ≡ c.given.1.1.1.1.1.0.now))
  -- Loading and saving are those of the policy file, to which `Loading` and `SavesAsThePaperSays` apply (fileanswers/specs).
  pub marruskil_load : (c : Call clibrary.marruskil_load.Kinds.ps clibrary.marruskil_load.Kinds.r clibrary.marruskil_load.Reads.Post)
      → Loads (view c.given.0.now) c.given.1.0.now (record { answer = c.result; results = []; after = view c.exits.0.now })
  -- A save that is done stores the file's length where the caller says, and where it is refused, what stood there stays.
  pub marruskil_save : (c : Call clibrary.marruskil_save.Kinds.ps clibrary.marruskil_save.Kinds.r clibrary.marruskil_save.Reads.Post)
      → (n : ℕ) × Saves (view c.given.0.now) c.given.1.0.now c.exits.1.0.now c.result n
      × (c.result ≡ 0 → c.exits.1.1.0.now ≡ n) × ((c.result ≡ 0 → ⊥) → c.exits.1.1.0.now ≡ c.given.1.1.0.now)

pub record OwnCalls : Type 0 where
  pub commands : Commands
  -- "Every refusal changes nothing": where a call told so of a command and refused it, the array after it is the array before it, number by number.
  -- (`State`: the numbers are of the type that a state is lent as.)
  pub unchanged : (before after : List ℕ) → State before → State after → (c : Command) (list : List ℕ) (told : Told) → told.after ≡ view after → Does (view before) c list told → (told.answer ≡ 0 → ⊥) → after ≡ before
  pub questions : Questions
  pub lines : Lines
  pub files : Files
  pub from_c : FromC
