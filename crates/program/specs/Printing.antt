-- The program over a script, call by call, and all that its calls hand to the output. Assumes nothing.
use Rattle.std.specs.Prelude.{Bool, true, false, List, [], ◌++◌, ◌≡◌, ℕ, eqb, ltb, length, take}
use Rattle.model.specs.Model.{Model, empty}
use Rattle.state.specs.View.{view}
use Rattle.text.specs.Putting.{Put}
use Rattle.textlines.specs.Parts.{place_past}
use Rattle.textlines.specs.Tallies.{counted}
use Rattle.script.specs.Script.{answer_text, total_text, line_feed, longest_script}
use Rattle.script.specs.LineAnswers.{told_at}
use Rattle.script.specs.declared.Progress.{Progress}
use Rattle.program.specs.declared.Run.{Run}
use Rattle.program.specs.declared.Printed.{Printed}

-- the program has answered no line
abbrev pub at_start : Run
at_start = record { progress = record { at = 0; tally = record { done = 0; others = 0 } }; over = false }

-- "starting empty": no policy and no session, and no line is answered
pub record Begins (l : List ℕ) (r : Run) : Type 0 where
  pub state : view l ≡ empty
  pub run : r ≡ at_start

-- what is to be printed next: nothing more, the total, the answer to a script that is too long, or a line's answer
pub data Stage : Type 0 where
  over : Stage
  total : Stage
  too_long : Stage
  line : Stage

-- by three tests: whether the total was handed out, whether a line is left to answer, whether the script is too long
abbrev pub stage_by : Bool → Bool → Bool → Stage
stage_by true left long = over
stage_by false false long = total
stage_by false true true = too_long
stage_by false true false = line

unfoldable pub stage_of : List ℕ → Run → Stage
stage_of script r = stage_by r.over (ltb r.progress.at (length script)) (ltb longest_script (length script))

-- what a call hands to the output, how far the program has run then, and the policy with its sessions after it
pub record Piece : Type 0 where
  pub text : List ℕ
  pub run : Run
  pub after : Model

abbrev pub piece : Stage → List ℕ → List ℕ → Progress → Piece
piece over script l p = record { text = []; run = record { progress = p; over = true }; after = view l }
piece total script l p = record { text = total_text p.tally.done p.tally.others; run = record { progress = p; over = true }; after = view l }
piece too_long script l p = record { text = answer_text 14 []; run = record { progress = record { at = length script; tally = counted p.tally false }; over = false }; after = view l }
piece line script l p =
    record {
      text = answer_text (told_at script l p).answer (told_at script l p).results;
      run = record { progress = record { at = place_past line_feed script p.at; tally = counted p.tally (eqb (told_at script l p).answer 0) }; over = false };
      after = (told_at script l p).after;
    }

-- The piece's text stands at the front of the buffer and ends there at `len`.
pub record Puts (told : Piece) (before after : List ℕ) (x : Printed) : Type 0 where
  pub text : Put before 0 told.text after x.len
  pub run : x.run ≡ told.run

-- A script that is too long is answered so, whatever the state: it is one line more that was not answered 0, and the place is past it.
abbrev pub Refuses : List ℕ → Progress → List ℕ → List ℕ → Printed → Type 0
Refuses script p before after x = Puts (piece too_long script [] p) before after x

-- One call: the piece that it hands to the output, and the state after it.
pub record Prints (script l : List ℕ) (r : Run) (before after : List ℕ) (x : Printed) (next : List ℕ) : Type 0 where
  pub puts : Puts (piece (stage_of script r) script l r.progress) before after x
  pub state : view next ≡ (piece (stage_of script r) script l r.progress).after

-- "Its buffers hold the longest result": the buffer that the program lends to each call
abbrev pub buffer_length : ℕ
buffer_length = 32768

-- The calls of the program, one after another until the total was handed out, with a buffer of that length each: from the state l and so far on,
-- this is handed to the output, piece after piece, and this state is left.
pub data Runs (script : List ℕ) : List ℕ → Run → List ℕ → List ℕ → Type 0 where
  ends : (l : List ℕ) (r : Run) → r.over ≡ true → Runs script l r [] l
  goes : (l : List ℕ) (r : Run) (before after : List ℕ) (x : Printed) (next rest last : List ℕ) → r.over ≡ false → length before ≡ buffer_length → Prints script l r before after x next → Runs script next x.run rest last → Runs script l r (take x.len after ++ rest) last
