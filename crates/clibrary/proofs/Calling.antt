-- What the calls rest on: an answer line that was put whole, a number of sixteen bits for a larger one, and a result where the caller says.
-- Assumes nothing.
use borrow.Author.Tests.{le-leb}
use mathlib.Core.Bool.{Bool, true, false, ◌||◌}
use mathlib.Core.List.{List, [], ◌∷◌, ◌++◌}
use mathlib.Core.Logic.{inl, inr}
use mathlib.Core.Path.{◌≡◌, refl, sym, ◌∙◌}
use Prim.Native.Nat.{ℕ, ◌+◌, ◌*◌, ◌≤◌, ◌<◌, min}
use native.Mathlib.Omega.{arith}
use native.Mathlib.Decide.{dec_le}
use lib.Dec.{leb}
use mir.Val.{bool_byte}
use lib.ListN.{length, get_or, drop, length-append}
use Rattle.std.specs.Option.{unwrap_or}
use Rattle.std.proofs.Common.{Option, Some, None}
use Rattle.roleset.specs.Bounded.{bit}
use Rattle.roleset.proofs.BoundedLaws.{or_left, or_right}
use Rattle.std.specs.Option.{unwrap_or}
use Rattle.std.proofs.Common.{Option, Some, None, Result, Ok, Err}
use Rattle.numbers.specs.Answers.{refusal_number}
use Rattle.numbers.specs.declared.Refusal.{Refusal}
use Rattle.model.specs.Model.{Model}
use Rattle.model.specs.Sheet.{Told, verdict, settle, refused}
use Rattle.model.specs.Step.{step}
use Rattle.model.proofs.Asking.{asked-same}
use Rattle.model.proofs.Results.{few-results}
use Rattle.model.specs.commands.Naming.{session_beyond, permission_beyond}
use Rattle.model.specs.commands.Sessions.{check}
use Rattle.state.specs.Results.{told_of}
use Rattle.checking.specs.Answering.{told_checked}
use Rattle.checking.specs.declared.Checked.{Checked}
use Rattle.text.specs.Putting.{Put}
use Rattle.policyform.specs.Promises.{Saves}
use Rattle.decimal.specs.Decimal.{decimal, numbered}
use Rattle.decimal.proofs.Laws.{decimal-short, numbered-short}
use Rattle.words.specs.ScriptWords.{word_of}
use Rattle.reading.specs.Form.{Parsed, line, no_line, parse}
use Rattle.meaning.specs.Meaning.{meant}
use Rattle.meaning.specs.declared.Meant.{Meant}
use Rattle.meaning.specs.declared.Meant.TheVariants.{Do, Ask}
use Rattle.script.specs.Script.{obey, obeyed, doing, answer_text, line_feed}
use Rattle.script.proofs.Turning.{answer-short, obey-few}
use Rattle.clibrary.specs.Calls.{answer_line, ChecksAt, SavesAt, Tries, Obeys, LongestAnswer}

-- ---- an answer line

-- how long an answer line is, by its results
by-results : (answer : ℕ) (results : List ℕ) → length (answer_text answer results) ≤ 6 + 6 * length results
unfolding answer_text
by-results answer results = omega (arith, length-append (decimal answer) (numbered results ++ (line_feed ∷ [])), length-append (numbered results) (line_feed ∷ []), decimal-short answer, numbered-short results)

long-done : (m : Model) (x : Option Meant) (list : List ℕ) → 12 < length (answer_line (doing m x list)) → (doing m x list).after ≡ m
long-done m (Some (Do c)) list h = absurd (omega (arith, h, by-results (step m c list).answer (step m c list).results, few-results m c list))
long-done m (Some (Ask q)) list h = asked-same m 4096 q
long-done m None list h = refl

long-obeyed : (m : Model) (p : Parsed) → 12 < length (answer_line (obeyed m p)) → (obeyed m p).after ≡ m
long-obeyed m (line k ns) h = long-done m (meant k (get_or ns 0 0) (get_or ns 1 0) (get_or ns 2 0)) (drop (word_of k).numbers ns) h
long-obeyed m no_line h = refl

long-answer : (m : Model) (text : List ℕ) → 12 < length (answer_line (obey m text)) → (obey m text).after ≡ m
unfolding obey
long-answer m text h = long-obeyed m (parse text) h

pub longest-answer : LongestAnswer
longest-answer = record { holds = λ m text. answer-short (obey m text).answer (obey m text).results (obey-few m text); commands = long-answer }

-- a text that was put at the front of a buffer with room for it ends at its own length
pub put_whole : {l l' a : List ℕ} {next : ℕ} → Put l 0 a l' next → length a ≤ length l → next ≡ length a
put_whole p h = omega (arith, p.ends)

-- A line that was obeyed whatever the buffer, in one that holds every command's answer line: where its answer line was not put, it changed nothing.
pub obeys_tried : (m : Model) (text : List ℕ) {out after l : List ℕ} (r : Option ℕ) → 12 ≤ length out → Tries (obey m text) out after r l → Obeys m (obey m text) out after (unwrap_or r 0) l
obeys_tried m text None h t = inl (record { short = t.0; no_length = refl; untouched = t.1; unchanged = t.2 ∙ long-answer m text (omega (arith, h, t.0)) })
obeys_tried m text (Some n) h t = inr t

-- ---- numbers of sixteen bits

abbrev sixteen : ℕ → ℕ
sixteen n = min n 65535

beyond-refused : (m : Model) (s op obj : ℕ) → (session_beyond s || permission_beyond op obj) ≡ true → check m s op obj ≡ refused 1 m
unfolding check settle verdict
beyond-refused m s op obj e = rw e

-- a number of more than sixteen bits is beyond every range, and so is the largest of sixteen bits
large : (n k : ℕ) → k ≤ 65535 → (n ≤ 65535 → ⊥) → (leb k n ≡ true) × (leb k (sixteen n) ≡ true)
large n k h big = (le-leb k n (omega arith), le-leb k (sixteen n) (omega arith))

fits : (n : ℕ) → n ≤ 65535 → sixteen n ≡ n
fits n h = omega arith

by-operation : (s op obj : ℕ) → leb 16 op ≡ true → (session_beyond s || permission_beyond op obj) ≡ true
by-operation s op obj h = or_right (session_beyond s) (permission_beyond op obj) (or_left (leb 16 op) (leb 256 obj) h)

by-object : (s op obj : ℕ) → leb 256 obj ≡ true → (session_beyond s || permission_beyond op obj) ≡ true
by-object s op obj h = or_right (session_beyond s) (permission_beyond op obj) (or_right (leb 16 op) (leb 256 obj) h)

-- `check` tells the same of a number and of its sixteen bits
module _ (m : Model) (s op obj : ℕ) where
  both : (session_beyond s || permission_beyond op obj) ≡ true → (session_beyond (sixteen s) || permission_beyond (sixteen op) (sixteen obj)) ≡ true → check m (sixteen s) (sixteen op) (sixteen obj) ≡ check m s op obj
  both e f = beyond-refused m (sixteen s) (sixteen op) (sixteen obj) f ∙ sym (beyond-refused m s op obj e)

  by_size : Dec (s ≤ 65535) → Dec (op ≤ 65535) → Dec (obj ≤ 65535) → check m (sixteen s) (sixteen op) (sixteen obj) ≡ check m s op obj
  by_size (no h) o b = let l = large s 64 (omega arith) h in both (or_left (session_beyond s) (permission_beyond op obj) l.0) (or_left (session_beyond (sixteen s)) (permission_beyond (sixteen op) (sixteen obj)) l.1)
  by_size (yes h) (no o) b = let l = large op 16 (omega arith) o in both (by-operation s op obj l.0) (by-operation (sixteen s) (sixteen op) (sixteen obj) l.1)
  by_size (yes h) (yes o) (no b) = let l = large obj 256 (omega arith) b in both (by-object s op obj l.0) (by-object (sixteen s) (sixteen op) (sixteen obj) l.1)
  by_size (yes h) (yes o) (yes b) = rw (fits s h, fits op o, fits obj b)

  pub check_sixteen : check m (sixteen s) (sixteen op) (sixteen obj) ≡ check m s op obj
  check_sixteen = by_size (dec_le s 65535) (dec_le op 65535) (dec_le obj 65535)

-- ---- a result where the caller says

as_number : (t : Bool) → bool_byte t ≡ bit t
as_number true = refl
as_number false = refl

pub checked-done : (m : Model) {told : Told} {r : Result Checked Refusal} {x : Checked} (before looked_before : ℕ) → told_checked m r ≡ told → r ≡ Ok x → ChecksAt told before (bool_byte x.yes) looked_before x.looked 0
unfolding told_of
checked-done m {x = x} before looked_before p e = rw (← p, e, as_number x.yes) (record { answered = refl; result = refl; looked = refl })

pub checked_refused : (m : Model) {told : Told} {r : Result Checked Refusal} {refusal : Refusal} (before looked_before : ℕ) → told_checked m r ≡ told → r ≡ Err refusal → ChecksAt told before before looked_before looked_before (refusal_number refusal)
unfolding told_of
checked_refused m before looked_before p e = rw (← p, e) (record { answered = refl; result = refl; looked = refl })

pub saved-done : {m : Model} {out after : List ℕ} {a n : ℕ} (before : ℕ) → Saves m out after a n → a ≡ 0 → SavesAt m out after before n 0
saved-done before (inl p) z = absurd (omega (arith, p.answered))
saved-done before (inr p) z = inr (record { fits = p.fits; answered = refl; long = p.long; stored = p.stored })

pub saved-refused : {m : Model} {out after : List ℕ} {a n : ℕ} (before : ℕ) → Saves m out after a n → (a ≡ 0 → ⊥) → SavesAt m out after before before a
saved-refused before (inl p) z = inl (record { refused = record { short = p.short; answered = p.answered; no_length = refl; untouched = p.untouched }; kept = refl })
saved-refused before (inr p) z = absurd (z p.answered)
