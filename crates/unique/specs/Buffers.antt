-- "After a refusal the policy, the sessions and the caller's buffers hold what they held." "Every refusal changes nothing in policy, sessions or lent
-- buffers". What the code's own calls leave in the buffer that they were lent, whatever the state, the numbers, the text and the buffer.
-- Assumes nothing.
use Rattle.std.specs.Prelude.{List, ◌≡◌, ℕ, ◌≤◌, ◌<◌, length, get_or}
use Rattle.numbers.specs.Answers.{number_of}
use Rattle.state.specs.Results.{given_number}
use Rattle.state.specs.View.{view}
use Rattle.textlines.specs.Parts.{part_at}
use Rattle.script.specs.Script.{answer_text, obey, line_feed}
use Rattle.program.specs.Printing.{stage_of, piece}
use Rattle.unique.specs.Handed.{Call}
-- ---- written by tests/unique.py: the crates
use Rattle.reviews.proofs as reviews
use Rattle.engine.proofs as engine
use Rattle.text.proofs as text
use Rattle.policywrite.proofs as policywrite
use Rattle.policyfile.proofs as policyfile
use Rattle.decimal.proofs as decimal
use Rattle.words.proofs as words
use Rattle.script.proofs as script
use Rattle.program.proofs as program
use Rattle.clibrary.proofs as clibrary

-- ---- end of what tests/unique.py writes

-- A buffer before and after a call that answered with this number and wrote so many places.
pub record Lent (answer size : ℕ) (before after : List ℕ) : Type 0 where
  -- A refusal gives no results and leaves the whole buffer as it was.
  pub refused : (answer ≡ 0 → ⊥) → (size ≡ 0) × (after ≡ before)
  -- What was written fits in the buffer, which is as long as it was.
  pub fits : size ≤ length before
  pub long : length after ≡ length before
  -- "Buffer places past the list are untouched." "bytes past that length are untouched"
  pub past : (k : ℕ) → size ≤ k → get_or after k 0 ≡ get_or before k 0

-- A buffer before and after a text was put at its front, which ends there at `len`.
pub record Texted (text : List ℕ) (len : ℕ) (before after : List ℕ) : Type 0 where
  -- The text is put whole where the buffer has room for it; else the buffer is filled.
  pub whole : length text ≤ length before → len ≡ length text
  pub filled : length before ≤ length text → len ≡ length before
  pub long : length after ≡ length before
  -- Each byte before `len` is that of the text, and each byte from there on is as it was.
  pub front : (k : ℕ) → k < len → get_or after k 0 ≡ get_or text k 0
  pub past : (k : ℕ) → len ≤ k → get_or after k 0 ≡ get_or before k 0

-- A buffer before and after bytes were put into it from the place `at` on: the places before that and from `next` on are as they were.
pub record Around (at next : ℕ) (before after : List ℕ) : Type 0 where
  pub long : length after ≡ length before
  pub before_it : (k : ℕ) → k < at → get_or after k 0 ≡ get_or before k 0
  pub past : (k : ℕ) → next ≤ k → get_or after k 0 ≡ get_or before k 0

pub record Buffers : Type 0 where
  -- Every review, by its own function and by `ask`: the buffer has the results at its front.
  -- ---- written by tests/unique.py: the reviews
  pub assigned_users : (c : Call reviews.assigned_users.Kinds.ps reviews.assigned_users.Kinds.r reviews.assigned_users.Reads.Post) → Lent (number_of c.result) (given_number c.result) c.given.1.1.0.now c.exits.1.1.0.now
  pub assigned_roles : (c : Call reviews.assigned_roles.Kinds.ps reviews.assigned_roles.Kinds.r reviews.assigned_roles.Reads.Post) → Lent (number_of c.result) (given_number c.result) c.given.1.1.0.now c.exits.1.1.0.now
  pub auth_users : (c : Call reviews.auth_users.Kinds.ps reviews.auth_users.Kinds.r reviews.auth_users.Reads.Post) → Lent (number_of c.result) (given_number c.result) c.given.1.1.0.now c.exits.1.1.0.now
  pub auth_roles : (c : Call reviews.auth_roles.Kinds.ps reviews.auth_roles.Kinds.r reviews.auth_roles.Reads.Post) → Lent (number_of c.result) (given_number c.result) c.given.1.1.0.now c.exits.1.1.0.now
  pub role_perms : (c : Call reviews.role_perms.Kinds.ps reviews.role_perms.Kinds.r reviews.role_perms.Reads.Post) → Lent (number_of c.result) (given_number c.result) c.given.1.1.0.now c.exits.1.1.0.now
  pub user_perms : (c : Call reviews.user_perms.Kinds.ps reviews.user_perms.Kinds.r reviews.user_perms.Reads.Post) → Lent (number_of c.result) (given_number c.result) c.given.1.1.0.now c.exits.1.1.0.now
  pub session_roles : (c : Call reviews.session_roles.Kinds.ps reviews.session_roles.Kinds.r reviews.session_roles.Reads.Post) → Lent (number_of c.result) (given_number c.result) c.given.1.1.0.now c.exits.1.1.0.now
  pub session_perms : (c : Call reviews.session_perms.Kinds.ps reviews.session_perms.Kinds.r reviews.session_perms.Reads.Post) → Lent (number_of c.result) (given_number c.result) c.given.1.1.0.now c.exits.1.1.0.now
  pub role_ops : (c : Call reviews.role_ops.Kinds.ps reviews.role_ops.Kinds.r reviews.role_ops.Reads.Post) → Lent (number_of c.result) (given_number c.result) c.given.1.1.1.0.now c.exits.1.1.1.0.now
  pub user_ops : (c : Call reviews.user_ops.Kinds.ps reviews.user_ops.Kinds.r reviews.user_ops.Reads.Post) → Lent (number_of c.result) (given_number c.result) c.given.1.1.1.0.now c.exits.1.1.1.0.now
  pub set_names : (c : Call reviews.set_names.Kinds.ps reviews.set_names.Kinds.r reviews.set_names.Reads.Post) → Lent (number_of c.result) (given_number c.result) c.given.1.1.0.now c.exits.1.1.0.now
  pub set_roles : (c : Call reviews.set_roles.Kinds.ps reviews.set_roles.Kinds.r reviews.set_roles.Reads.Post) → Lent (number_of c.result) (given_number c.result) c.given.1.1.1.0.now c.exits.1.1.1.0.now
  pub set_count : (c : Call reviews.set_count.Kinds.ps reviews.set_count.Kinds.r reviews.set_count.Reads.Post) → Lent (number_of c.result) (given_number c.result) c.given.1.1.1.0.now c.exits.1.1.1.0.now
  pub ask : (c : Call engine.ask.Kinds.ps engine.ask.Kinds.r engine.ask.Reads.Post) → Lent (number_of c.result) (given_number c.result) c.given.1.1.0.now c.exits.1.1.0.now
  -- ---- end of what tests/unique.py writes
  -- "Saving answers 15 or 0 with the length".
  pub save : (c : Call policyfile.save.Kinds.ps policyfile.save.Kinds.r policyfile.save.Reads.Post) → Lent (number_of c.result) (given_number c.result) c.given.1.0.now c.exits.1.0.now
  -- A line of a script puts its answer's text, done or refused, and nothing else.
  pub answer_line : (c : Call script.answer_line.Kinds.ps script.answer_line.Kinds.r script.answer_line.Reads.Post)
      → let t = obey (view c.given.0.now) c.given.1.0.now in Texted (answer_text t.answer t.results) c.result.len c.given.1.1.0.now c.exits.1.1.0.now
  -- So does the line at a place of a script.
  pub turn : (c : Call script.turn.Kinds.ps script.turn.Kinds.r script.turn.Reads.Post)
      → let t = obey (view c.given.1.0.now) (part_at line_feed c.given.0.now c.given.1.1.0.at) in Texted (answer_text t.answer t.results) c.result.len c.given.1.1.1.0.now c.exits.1.1.1.0.now
  -- A call of the program puts what is printed next.
  pub next : (c : Call program.next.Kinds.ps program.next.Kinds.r program.next.Reads.Post)
      → Texted (piece (stage_of c.given.0.now c.given.1.1.0) c.given.0.now c.given.1.0.now c.given.1.1.0.progress).text c.result.len c.given.1.1.1.0.now c.exits.1.1.1.0.now
  -- For C: an answer line, or nothing, stands at the front of the buffer up to the length that is handed back; and so does a file, which a refusal does
  -- not write.
  pub marruskil_obey : (c : Call clibrary.marruskil_obey.Kinds.ps clibrary.marruskil_obey.Kinds.r clibrary.marruskil_obey.Reads.Post) → Around 0 c.result c.given.1.1.0.now c.exits.1.1.0.now
  pub marruskil_save : (c : Call clibrary.marruskil_save.Kinds.ps clibrary.marruskil_save.Kinds.r clibrary.marruskil_save.Reads.Post)
      → ((c.result ≡ 0 → ⊥) → c.exits.1.0.now ≡ c.given.1.0.now) × (c.result ≡ 0 → Around 0 c.exits.1.1.0.now c.given.1.0.now c.exits.1.0.now)
  -- Every other function that puts bytes into a lent buffer: from the place that it is given on, or from the front, up to the place that it hands back.
  -- ---- written by tests/unique.py: what puts a text
  pub put : (c : Call text.put.Kinds.ps text.put.Kinds.r text.put.Reads.Post) → Around c.given.1.0 c.result c.given.0.now c.exits.0.now
  pub put_text : (c : Call text.put_text.Kinds.ps text.put_text.Kinds.r text.put_text.Reads.Post) → Around c.given.1.0 c.result c.given.0.now c.exits.0.now
  pub write : (c : Call policywrite.write.Kinds.ps policywrite.write.Kinds.r policywrite.write.Reads.Post) → Around 0 c.result c.given.1.0.now c.exits.1.0.now
  pub put_number : (c : Call decimal.put_number.Kinds.ps decimal.put_number.Kinds.r decimal.put_number.Reads.Post) → Around c.given.1.0 c.result c.given.0.now c.exits.0.now
  pub put_numbers : (c : Call decimal.put_numbers.Kinds.ps decimal.put_numbers.Kinds.r decimal.put_numbers.Reads.Post) → Around c.given.1.0 c.result c.given.0.now c.exits.0.now
  pub put_word : (c : Call words.put_word.Kinds.ps words.put_word.Kinds.r words.put_word.Reads.Post) → Around c.given.1.0 c.result c.given.0.now c.exits.0.now
  pub answer_text : (c : Call script.answer_text.Kinds.ps script.answer_text.Kinds.r script.answer_text.Reads.Post) → Around 0 c.result c.given.0.now c.exits.0.now
  pub total_text : (c : Call script.total_text.Kinds.ps script.total_text.Kinds.r script.total_text.Reads.Post) → Around 0 c.result c.given.0.now c.exits.0.now
  -- ---- end of what tests/unique.py writes
