-- What the code's own calls tell. Assumes nothing.
use mathlib.Core.Bool.{Bool, true, false, not, ◌||◌}
use mathlib.Core.List.{List, [], ◌∷◌}
use mathlib.Core.Logic.{◌⊎◌, inl, inr, ◌↔◌}
use mathlib.Core.Path.{◌≡◌, refl, sym, ap, subst, ◌∙◌}
use Prim.Native.Nat.{ℕ, ◌<◌, ◌≤◌}
use native.Mathlib.Omega.{arith}
use lib.Dec.{eqb, ltb}
use lib.ListN.{length, get_or, take, drop}
use lib.Seq.{sets, take_at}
use borrow.Author.Tests.{ne_eqb, eqb-true, eqb-false, leb-false, lt-leb, le-ltb, ltb-true, ltb-false}
use Rattle.roleset.specs.Bounded.{bit}
use Rattle.roleset.specs.Roles.{has}
use Rattle.roleset.proofs.BoundedLaws.{clash, or-clear}
use Rattle.numbers.specs.Answers.{Answer, number_of, refusal_number}
use Rattle.numbers.specs.declared.Refusal.{Refusal}
use Rattle.numbers.proofs.Answers.{refused-not-0}
use Rattle.numbers.specs.declared.Session.{Session}
use Rattle.model.specs.Model.{Model}
use Rattle.model.specs.Questions.{ask}
use Rattle.model.specs.Sheet.{Told, ◌when◌, verdict, settle, done, refused}
use Rattle.model.specs.Step as steps
use Rattle.model.specs.declared.Command.{Command}
use Rattle.model.specs.declared.Command.TheVariants as commands
use Rattle.model.specs.declared.Question.{Question}
use Rattle.model.specs.declared.Question.TheVariants as questions
use Rattle.state.specs.View.{view, told}
use Rattle.state.specs.Results.{told_of, given_number, given, both_given}
use Rattle.checking.specs.Answering.{told_checked, told_owned}
use Rattle.checking.specs.declared.Checked as code
use Rattle.engine.specs.Stepping as stepping
use Rattle.reviews.specs.Reviewing.{Reviewed, fitted}
use Rattle.reviews.proofs.Promised.{asked-with-room}
use Rattle.policyform.specs.Encode.{encode}
use Rattle.policyform.specs.Promises.{Saves, Loads}
use Rattle.policyfile.proofs.Laws.{saved-buffer}
use Rattle.words.specs.ScriptWords.{word_of}
use Rattle.transcripts.specs.LineForm.{LineForm}
use Rattle.meaning.specs.Meaning.{meant}
use Rattle.std.proofs.Common.{Option, Some, None, Result, Ok, Err, IsOkAnd}
use Rattle.meaning.specs.declared.Meant.{Meant}
use Rattle.meaning.specs.declared.Meant.TheVariants.{Do, Ask}
use Rattle.text.specs.Putting.{Put}
use Rattle.textlines.specs.Parts.{part_at}
use Rattle.script.specs.Script.{obey, doing, line_feed}
use Rattle.script.specs.LineAnswers.{told_at}
use Rattle.program.specs.Printing.{Stage, piece}
use Rattle.transcripts.proofs.ScriptLines.{script-lines}
use Rattle.demands.specs.Authorised.{InOrBelow, Effective}
use Rattle.demands.specs.Demand2.{Exactly, Applies, ◌beyond◌, check_refusals, Checked}
use Rattle.demands.specs.Demand3.{Shape}
use Rattle.demands.specs.Reachable.{Reachable}
use Rattle.demands.specs.Reviews as reviewing
use Rattle.demands.proofs.Demand1.{demand1}
use Rattle.demands.proofs.Demand2.{demand2}
use Rattle.demands.proofs.Reviews.{questions-demand}
use Rattle.demands.proofs.Exact.{exact, applies-none, none-applies}
use Rattle.demands.proofs.PolicyFile.{faithful}
use Rattle.unique.specs.Handed.{Handed}
use Rattle.unique.specs.Unique.{State}
use Rattle.unique.specs.OwnCalls.{Does, told_stepped, Commands, MayDo, told_review, Questions, Means, LineTells, Lines, Files, OwnCalls, FromC, InPlaces, OwnerTold}
use Rattle.clibrary.specs.Calls.{Obeys, ChecksAt, SavesAt, answer_line, placed}
use Rattle.model.specs.Words.{permission}
use Rattle.model.specs.commands.Naming.{session_beyond, permission_beyond, session_missing}
use Rattle.model.specs.commands.Sessions.{permitted, looked, check, owner}
use Rattle.unique.proofs.Handed.{reachable, owned}
use Rattle.unique.proofs.Unique.{states}

-- ---- the commands

-- what is told as the model's command tells it, on a state of the code's own, is what demand 2 says
does : {l : List ℕ} {t : Told} → Handed l → (c : Command) (list : List ℕ) → t ≡ steps.step (view l) c list → Does (view l) c list t
does {l} h c list e = subst (Does (view l) c list) (sym e) (demand2.commands (view l) (reachable h) c list)

-- a step tells what its contract says
stepped-tells : (x : Result (Option Session) Refusal) (l : List ℕ) → told_stepped x l ≡ stepping.told_stepped x l
unfolding told_of
stepped-tells (Ok None) l = refl
stepped-tells (Ok (Some opened)) l = refl
stepped-tells (Err refusal) l = refl

of-commands : Commands
unfolding steps.step
of-commands =
    record {
      -- ---- written by tests/unique.py: the commands
      user = λ c h. does h (commands.AddUser c.given.1.0) [] c.met;
      end_all = λ c h. does h (commands.EndAll c.given.1.0) [] c.met;
      nouser = λ c h. does h (commands.NoUser c.given.1.0) [] c.met;
      role = λ c h. does h (commands.AddRole c.given.1.0) [] c.met;
      norole = λ c h. does h (commands.NoRole c.given.1.0) [] c.met;
      assign = λ c h. does h (commands.Assign c.given.1.0 c.given.1.1.0) [] c.met;
      deassign = λ c h. does h (commands.Deassign c.given.1.0 c.given.1.1.0) [] c.met;
      grant = λ c h. does h (commands.Grant c.given.1.0 c.given.1.1.0 c.given.1.1.1.0) [] c.met;
      revoke = λ c h. does h (commands.Revoke c.given.1.0 c.given.1.1.0 c.given.1.1.1.0) [] c.met;
      inherit = λ c h. does h (commands.Inherit c.given.1.0 c.given.1.1.0) [] c.met;
      disinherit = λ c h. does h (commands.Disinherit c.given.1.0 c.given.1.1.0) [] c.met;
      make_set = λ c h. does h (commands.MakeSet c.given.1.0 c.given.1.1.0 c.given.1.1.1.0) c.given.1.1.1.1.0.now c.met;
      drop_set = λ c h. does h (commands.DropSet c.given.1.0 c.given.1.1.0) [] c.met;
      add_member = λ c h. does h (commands.AddMember c.given.1.0 c.given.1.1.0 c.given.1.1.1.0) [] c.met;
      drop_member = λ c h. does h (commands.DropMember c.given.1.0 c.given.1.1.0 c.given.1.1.1.0) [] c.met;
      set_cardinality = λ c h. does h (commands.SetCardinality c.given.1.0 c.given.1.1.0 c.given.1.1.1.0) [] c.met;
      session = λ c h. does h (commands.OpenSession c.given.1.0) c.given.1.1.0.now c.met;
      activate = λ c h. does h (commands.Activate c.given.1.0 c.given.1.1.0 c.given.1.1.1.0) [] c.met;
      drop = λ c h. does h (commands.DropActive c.given.1.0 c.given.1.1.0 c.given.1.1.1.0) [] c.met;
      end = λ c h. does h (commands.EndSession c.given.1.0 c.given.1.1.0) [] c.met;
      -- ---- end of what tests/unique.py writes
      step = λ c h. does h c.given.1.0 c.given.1.1.0.now (stepped-tells c.result _ ∙ c.met);
    }

-- ---- the questions

-- what a review hands back is what was told, where that changes nothing
reviewed-tells : {t : Told} {m : Model} {before after : List ℕ} {x : Result ℕ Refusal} → t.after ≡ m → Reviewed t before after x → told_review m x after ≡ t
unfolding told_review
reviewed-tells {t} {m} {before} {after} {x} same r = λ i. record { answer = r.answer i; results = results i; after = sym same i }
  where
    results : take (given_number x) after ≡ t.results
    results = ap (take (given_number x)) r.buffer ∙ take_at t.results (drop (length t.results) before) (given_number x) (sym r.count)

-- what is told where it is to stand in a buffer leaves the same policy
fitted-after : (room : ℕ) (t : Told) → (fitted room t).after ≡ t.after
unfolding fitted
fitted-after room t = go (ltb room (length t.results)) refl
  where
    go : (b : Bool) → ltb room (length t.results) ≡ b → (fitted room t).after ≡ t.after
    go true e = rw (e, fitted)
    go false e = rw (e, fitted)

-- in a buffer with so many places
in-places : (m : Model) (q : Question) {before after : List ℕ} {x : Result ℕ Refusal} → Reviewed (fitted (length before) (ask m (length before) q)) before after x → InPlaces (length before) m (ask m (length before) q) (told_review m x after)
unfolding fitted
in-places m q {before} {after} {x} r = go (ltb room (length t.results)) refl
  where
    room : ℕ
    room = length before

    t : Told
    t = ask m room q

    told : told_review m x after ≡ fitted room t
    told = reviewed-tells (fitted-after room t ∙ demand1.asking m room q) r

    go : (b : Bool) → ltb room (length t.results) ≡ b → InPlaces room m t (told_review m x after)
    go true e = inr (ltb-true room (length t.results) e, told ∙ rw (e, fitted) (ap (refused 15) (demand1.asking m room q)))
    go false e = inl (ltb-false room (length t.results) e, told ∙ rw (e, fitted))

-- `check`: 15 where it is done and has fewer than two places
two-or-15 : (a b : Bool) (m : Model) (said n room : ℕ) → let t = settle (1 when a ∷ 2 when b ∷ []) m (said ∷ n ∷ []) m in ((fitted room t).answer ≡ 15) ↔ ((t.answer ≡ 0) × (room < 2))
unfolding fitted settle verdict
two-or-15 true b m said n room = rw (le-ltb room 0 (omega arith), fitted) ((λ e. absurd (omega (arith, e))), λ q. absurd (omega (arith, q.0)))
two-or-15 false true m said n room = rw (le-ltb room 0 (omega arith), fitted) ((λ e. absurd (omega (arith, e))), λ q. absurd (omega (arith, q.0)))
two-or-15 false false m said n room = go (ltb room 2) refl
  where
    go : (b : Bool) → ltb room 2 ≡ b → ((elim b as (λ _. Told) [ true ↦ refused 15 m | false ↦ done (said ∷ n ∷ []) m ]).answer ≡ 15) ↔ ((◌≡◌ {A = ℕ} 0 0) × (room < 2))
    go true e = ((λ z. (refl, ltb-true room 2 e)), λ q. refl)
    go false e = ((λ z. absurd (omega (arith, z))), λ q. absurd (omega (arith, q.1, ltb-false room 2 e)))

check-15 : (m : Model) (q : Question) (s : Session) (op obj : ℕ) {before after : List ℕ} {x : Result ℕ Refusal} → q ≡ questions.Check s op obj → Reviewed (fitted (length before) (ask m (length before) q)) before after x → (number_of x ≡ 15) ↔ (((n : ℕ) → Applies (check_refusals m s.number op obj) n → ⊥) × (length before < 2))
unfolding ask check
check-15 m q s op obj {before} {after} {x} e r =
    let told : number_of x ≡ (fitted (length before) (check m s.number op obj)).answer = (rw e at r.answer) in
    let both = two-or-15 (session_beyond s.number || permission_beyond op obj) (session_missing m s.number) m (bit (permitted m s.number (permission op obj))) (looked m s.number (permission op obj)) (length before) in
    let whole : Exactly m (check_refusals m s.number op obj) _ m (check m s.number op obj) = exact (check_refusals m s.number op obj) m _ m refl refl in
    ((λ z. let y = both.0 (sym told ∙ z) in (whole.done.0 y.0, y.1)), λ z. told ∙ both.1 (whole.done.1 z.0, z.1))

-- a session with an effective role is open, and is one of the 64
open-session : {m : Model} {s r : ℕ} → Shape m → Effective m s r → ((m.sessions s).live ≡ true) × (s ≤ 63)
open-session {m} {s} {r} shape e = go e.through
  where
    live : (a : ℕ) → has (m.sessions s).active a ≡ true → ((m.sessions s).live ≡ true) × (s ≤ 63)
    live a h = let l = (shape.actives s a h).0 in (l, shape.sessions s l)

    go : InOrBelow m (m.sessions s).active r → ((m.sessions s).live ≡ true) × (s ≤ 63)
    go (inl h) = live r h
    go (inr (a, h, below)) = live a h

-- what `check` hands back says yes exactly where access is granted
-- where the session may, no refusal of `check` applies
clear-of-refusals : (m : Model) (s op obj : ℕ) → Shape m → MayDo m s op obj → (n : ℕ) → Applies (check_refusals m s op obj) n → ⊥
clear-of-refusals m s op obj shape may =
    let there = open-session shape may.granted.effective in
    let within : (s beyond 63 || (op beyond 15 || obj beyond 255)) ≡ false = rw (lt-leb 64 s (omega (arith, there.1)), lt-leb 16 op (omega (arith, may.operation)), lt-leb 256 obj (omega (arith, may.object))) in
    none-applies (check_refusals m s op obj) (within, (rw there.0, tt))

says-yes : (m : Model) (s op obj : ℕ) (x : Result code.Checked Refusal) → Shape m → Checked m s op obj (told_checked m x) → IsOkAnd x (λ c. c.yes ≡ true) ↔ MayDo m s op obj
unfolding told_of
says-yes m s op obj (Err r) shape c = ((λ y. absurd y), λ may. refused-not-0 r (done may))
  where
    done : MayDo m s op obj → refusal_number r ≡ 0
    done may = c.done.1 (clear-of-refusals m s op obj shape may)
says-yes m s op obj (Ok x) shape c = (granted, yes)
  where
    granted : x.yes ≡ true → MayDo m s op obj
    granted y =
        let clear = (applies-none (check_refusals m s op obj) (c.done.0 refl)).0 in
        let ranges = or-clear (op beyond 15) (obj beyond 255) (or-clear (s beyond 63) (op beyond 15 || obj beyond 255) clear).1 in
        record { operation = omega (arith, leb-false 16 op ranges.0); object = omega (arith, leb-false 256 obj ranges.1); granted = (c.exactly refl).0 (x.looked, rw y) }

    said : (y : Bool) (n k : ℕ) → ◌≡◌ {A = List ℕ} (bit y ∷ n ∷ []) (1 ∷ k ∷ []) → y ≡ true
    said true n k e = refl
    said false n k e = absurd (let z : ◌≡◌ {A = ℕ} 0 1 = cc in omega arith)

    yes : MayDo m s op obj → x.yes ≡ true
    yes may = let told = (c.exactly refl).1 may.granted in said x.yes x.looked told.0 told.1

-- whose a session is
owner-tells : (m : Model) (x : Result ℕ Refusal) → ◌≡◌ {A = Told} (record { answer = number_of x; results = given (eqb (number_of x) 0) (given_number x); after = m }) (told_owned m x)
unfolding told_of
owner-tells m (Ok n) = refl
owner-tells m (Err r) = rw (ne_eqb (refusal_number r) 0 (refused-not-0 r))

owner-told : (m : Model) (s : ℕ) (x : Result ℕ Refusal) → told_owned m x ≡ owner m s → OwnerTold m s (number_of x) (given_number x)
unfolding owner
owner-told m s x o = subst (Exactly m _ _ m) (sym (owner-tells m x ∙ o)) (exact (1 when (s beyond 63) ∷ 2 when not (m.sessions s).live ∷ []) m ((m.sessions s).owner ∷ []) m refl refl)

of-questions : Questions
unfolding ask
of-questions =
    record {
      check = λ c h. subst (Checked _ _ _ _) (sym c.met) (demand2.access _ (reachable h) _ _ _);
      yes = λ c h. says-yes _ _ _ _ c.result (owned.shape h) (subst (Checked _ _ _ _) (sym c.met) (demand2.access _ (reachable h) _ _ _));
      ask = λ c h. reviewed-tells (demand1.asking _ _ c.given.1.0) (rw (asked-with-room _ _ c.given.1.0 h) at c.met);
      asked = λ c h room. subst (reviewing.Answered (view c.given.0.now) (length c.given.1.1.0.now) c.given.1.0) (sym (reviewed-tells (demand1.asking _ _ c.given.1.0) (rw (asked-with-room _ _ c.given.1.0 room) at c.met))) (questions-demand.questions (view c.given.0.now) (reachable h) (length c.given.1.1.0.now) c.given.1.0);
      in_places = λ c. in-places (view c.given.0.now) c.given.1.0 c.met;
      two_places = λ c s op obj e. check-15 (view c.given.0.now) c.given.1.0 s op obj e c.met;
      owner = λ c. owner-told _ _ _ c.met;
      -- ---- written by tests/unique.py: the reviews
      assigned_users = λ c. reviewed-tells (demand1.asking _ _ (questions.AssignedUsers c.given.1.0)) c.met;
      assigned_roles = λ c. reviewed-tells (demand1.asking _ _ (questions.AssignedRoles c.given.1.0)) c.met;
      auth_users = λ c. reviewed-tells (demand1.asking _ _ (questions.AuthUsers c.given.1.0)) c.met;
      auth_roles = λ c. reviewed-tells (demand1.asking _ _ (questions.AuthRoles c.given.1.0)) c.met;
      role_perms = λ c. reviewed-tells (demand1.asking _ _ (questions.RolePerms c.given.1.0)) c.met;
      user_perms = λ c. reviewed-tells (demand1.asking _ _ (questions.UserPerms c.given.1.0)) c.met;
      session_roles = λ c. reviewed-tells (demand1.asking _ _ (questions.SessionRoles c.given.1.0)) c.met;
      session_perms = λ c. reviewed-tells (demand1.asking _ _ (questions.SessionPerms c.given.1.0)) c.met;
      role_ops = λ c. reviewed-tells (demand1.asking _ _ (questions.RoleOps c.given.1.0 c.given.1.1.0)) c.met;
      user_ops = λ c. reviewed-tells (demand1.asking _ _ (questions.UserOps c.given.1.0 c.given.1.1.0)) c.met;
      set_names = λ c. reviewed-tells (demand1.asking _ _ (questions.Sets c.given.1.0)) c.met;
      set_roles = λ c. reviewed-tells (demand1.asking _ _ (questions.SetRoles c.given.1.0 c.given.1.1.0)) c.met;
      set_count = λ c. reviewed-tells (demand1.asking _ _ (questions.SetCount c.given.1.0 c.given.1.1.0)) c.met;
      -- ---- end of what tests/unique.py writes
    }

-- ---- lines of a script

means : {m : Model} → Reachable m → (x : Option Meant) (list : List ℕ) → Means m x list (doing m x list)
means {m} r (Some (Do c)) list = demand2.commands m r c list
means {m} r (Some (Ask q)) list = refl
means {m} r None list = refl

line-tells : {m : Model} → Reachable m → (text : List ℕ) → LineTells m text (obey m text)
line-tells {m} r text = record { formed = formed; not_formed = script-lines.not_formed m text }
  where
    formed : (k : ℕ) (ns : List ℕ) → LineForm text k ns → Means m (meant k (get_or ns 0 0) (get_or ns 1 0) (get_or ns 2 0)) (drop (word_of k).numbers ns) (obey m text)
    formed k ns w =
        let word = meant k (get_or ns 0 0) (get_or ns 1 0) (get_or ns 2 0) in
        let list = drop (word_of k).numbers ns in
        subst (Means m word list) (sym (script-lines.formed m text k ns w)) (means r word list)

of-lines : Lines
of-lines =
    record {
      answer_line = λ c h. (record { line = _; tells = line-tells (reachable h) _; puts = c.met.puts.text; state = c.met.state }, c.met.puts.ok);
      turn = λ c h. (record { line = _; tells = line-tells (reachable h) _; puts = c.met.text; state = c.met.state }, c.met.tally, c.met.place);
      begin = λ c. c.met;
      next = λ c h e.
          let script = c.given.0.now in
          let l = c.given.1.0.now in
          let p = c.given.1.1.0.progress in
          record {
            line = told_at script l p;
            tells = line-tells (reachable h) (part_at line_feed script p.at);
            puts = subst (λ (x : Stage). Put c.given.1.1.1.0.now 0 (piece x script l p).text c.exits.1.1.1.0.now c.result.len) e c.met.puts.text;
            state = c.met.state ∙ ap (λ (x : Stage). (piece x script l p).after) e;
          };
    }

-- ---- the policy file

-- what a save that is done wrote is the file
saved-file : {m : Model} {out after : List ℕ} {answer n : ℕ} → answer ≡ 0 → Saves m out after answer n → take n after ≡ encode m
saved-file z (inl x) = absurd (omega (arith, x.answered))
saved-file {m} {out} {after} {answer} {n} z (inr x) = ap (take n) (saved-buffer m out after answer n x) ∙ take_at (encode m) (drop n out) n (sym x.long)

-- and with room for the file it is done
saved-done : {m : Model} {out after : List ℕ} {a n : ℕ} → Saves m out after a n → length (encode m) ≤ length out → (a ≡ 0) × (n ≡ length (encode m))
saved-done (inl x) h = absurd (omega (arith, x.short))
saved-done (inr x) h = (x.answered, x.long)

loaded-itself : {saved out after bytes left : List ℕ} {answer n : ℕ} (before : List ℕ) (a : Answer) → Handed saved → State saved → State left → answer ≡ 0 → Saves (view saved) out after answer n → bytes ≡ take n after → Loads (view before) bytes (told a left) → (number_of a ≡ 0) × (left ≡ saved)
unfolding told
loaded-itself {saved} {left = left} before a h ss sl z s e l =
    let t = faithful.itself (view saved) (view before) (told a left) (reachable h) (subst (λ (b : List ℕ). Loads (view before) b (told a left)) (e ∙ saved-file z s) l) in
    (ap (λ (x : Told). x.answer) t, states sl ss (ap (λ (x : Told). x.after) t) refl)

saved-again : {before : Model} {bytes out after : List ℕ} {answer n : ℕ} (saved left : List ℕ) (a : Answer) → Loads before bytes (told a left) → Saves (view saved) out after answer n → number_of a ≡ 0 → saved ≡ left → length bytes ≤ length out → (answer ≡ 0) × (n ≡ length bytes) × (take n after ≡ bytes)
unfolding told
saved-again {before} {bytes} {out} {after} {answer} {n} saved left a l s z e room =
    let file = ap (λ (x : List ℕ). encode (view x)) e ∙ faithful.again before bytes (told a left) l z in
    let done = saved-done s (omega (arith, ap length file)) in
    (done.0, done.1 ∙ ap length file, saved-file done.0 s ∙ file)

of-files : Files
of-files =
    record {
      room = λ s h r. faithful.room _ _ _ _ _ (reachable h) r s.met;
      itself = λ s l h ss sl z e. loaded-itself _ l.result h ss sl z s.met e l.met;
      again = λ l s z e r. saved-again _ _ l.result l.met s.met z e r;
    }

-- ---- what a C program calls

-- the answer line has room and is written, or it has none and nothing is obeyed
obeyed-at : {m : Model} {t : Told} {out after l : List ℕ} {size : ℕ} → Obeys m t out after size l
    → (length (answer_line t) ≤ length out → (size ≡ length (answer_line t)) × (after ≡ sets out 0 (answer_line t)) × (view l ≡ t.after)) × (length out < length (answer_line t) → (size ≡ 0) × (after ≡ out) × (view l ≡ m))
obeyed-at (inl x) = ((λ h. absurd (omega (arith, h, x.short))), (λ h. (x.no_length, x.untouched, x.unchanged)))
obeyed-at (inr x) = ((λ h. (x.long, x.stored, x.state)), (λ h. absurd (omega (arith, h, x.fits))))

-- what `check` stores where the caller says is its results
module _ {m : Model} {s op obj before after looked_before looked_after answer : ℕ} {t : Told} (x : Checked m s op obj t) (p : ChecksAt t before after looked_before looked_after answer) where
  stored : (b : Bool) → eqb answer 0 ≡ b → t.results ≡ both_given b after looked_after
  stored true e = let q = x.answers (sym p.answered ∙ eqb-true answer 0 e) in both q.0 q.1
    where
      two : (a k : ℕ) → t.results ≡ a ∷ k ∷ [] → t.results ≡ after ∷ looked_after ∷ []
      two a k q = q ∙ (λ i. sym (p.result ∙ ap (λ (l : List ℕ). placed l before) q) i ∷ sym (p.looked ∙ ap (λ (l : List ℕ). placed (drop 1 l) looked_before) q) i ∷ [])

      both : (k : ℕ) → (t.results ≡ 1 ∷ k ∷ []) ⊎ (t.results ≡ 0 ∷ k ∷ []) → t.results ≡ after ∷ looked_after ∷ []
      both k (inl q) = two 1 k q
      both k (inr q) = two 0 k q
  stored false e = x.silent (λ z. eqb-false answer 0 e (p.answered ∙ z))

  checked_at : Checked m s op obj (record { answer = answer; results = both_given (eqb answer 0) after looked_after; after = m }) × ((answer ≡ 0 → ⊥) → (after ≡ before) × (looked_after ≡ looked_before))
  checked_at = (
    subst (Checked m s op obj) (λ i. record { answer = sym p.answered i; results = stored (eqb answer 0) refl i; after = x.unchanged i }) x,
    λ z. let none = x.silent (λ e. z (p.answered ∙ e)) in (p.result ∙ ap (λ (l : List ℕ). placed l before) none, p.looked ∙ ap (λ (l : List ℕ). placed (drop 1 l) looked_before) none),
  )

-- the length of a save is stored where it is done
saved-at : {m : Model} {out after : List ℕ} {before size answer : ℕ} → SavesAt m out after before size answer → (n : ℕ) × Saves m out after answer n × (answer ≡ 0 → size ≡ n) × ((answer ≡ 0 → ⊥) → size ≡ before)
saved-at (inl p) = (0, inl p.refused, (λ z. absurd (omega (arith, z, p.refused.answered))), λ n. p.kept)
saved-at {size = size} (inr p) = (size, inr p, (λ z. refl), λ n. absurd (n p.answered))

of_c : FromC
of_c =
    record {
      marruskil_start = λ c. c.met;
      marruskil_obey = λ c h. (obey (view c.given.0.now) c.given.1.0.now, line-tells (reachable h) c.given.1.0.now, (obeyed-at c.met).0, (obeyed-at c.met).1);
      marruskil_check = λ c h. checked_at (demand2.access (view c.given.0.now) (reachable h) c.given.1.0 c.given.1.1.0 c.given.1.1.1.0) c.met;
      marruskil_load = λ c. c.met;
      marruskil_save = λ c. saved-at c.met;
    }

pub own-calls : OwnCalls
own-calls =
    record {
      commands = of-commands;
      unchanged = λ before after sb sa c list told e d h. states sa sb (sym e ∙ d.unchanged h) refl;
      questions = of-questions;
      lines = of-lines;
      files = of-files;
      from_c = of_c;
    }
