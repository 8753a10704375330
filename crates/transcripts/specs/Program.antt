-- What the program prints for a whole script. Assumes nothing.
use Rattle.std.specs.Prelude.{List, [], ◌∷◌, ◌++◌, ◌≡◌, ℕ, ◌≤◌, ◌<◌, length}
use Rattle.model.specs.Model.{empty}
use Rattle.textlines.specs.Parts.{parts_of}
use Rattle.script.specs.Script.{line_feed, run_lines, run_script}
use Rattle.program.specs.Printing.{Begins, Runs}
use Rattle.program.specs.declared.Run.{Run}
use Rattle.transcripts.specs.Rows.{Row, ◌⇒◌, line_of, script_of, printed_for}

-- the paper's example, with what `check` gives since request 10
abbrev pub example : List Row
example =
    "user 7" ⇒ "0" ∷
    "role 0" ⇒ "0" ∷
    "role 1" ⇒ "0" ∷
    "role 2" ⇒ "0" ∷
    "inherit 2 0" ⇒ "0" ∷
    "ssd 0 2 0 1" ⇒ "0" ∷
    "assign 7 2" ⇒ "0" ∷
    "assign 7 1" ⇒ "10" ∷
    "grant 4 30 0" ⇒ "0" ∷
    "session 7 2" ⇒ "0 0" ∷
    "check 0 4 30" ⇒ "0 1 1" ∷
    "check 0 4 31" ⇒ "0 0 2" ∷
    "inherit 0 2" ⇒ "6" ∷
    "deassign 7 2" ⇒ "0" ∷
    "check 0 4 30" ⇒ "0 0 0" ∷
    "auth-roles 7" ⇒ "0" ∷
    []

pub record Program : Type 0 where
  -- "The program reads a script from standard input, starting empty.": what the program's calls hand to the output, from the very first one until the
  -- total was handed out, is together what the script prints, whatever its bytes and its length.
  pub prints : (script out l last : List ℕ) (r : Run) → Begins l r → Runs script l r out last → out ≡ run_script script
  -- "A script over 32,768 bytes prints `14` and `total 0 1`."
  pub too_long : (script : List ℕ) → 32768 < length script → run_script script ≡ line_of "14" ++ line_of "total 0 1"
  -- A script of no more bytes is obeyed line by line, from the empty policy and two counts of 0 on.
  pub line_by_line : (script : List ℕ) → length script ≤ 32768 → run_script script ≡ run_lines empty 0 0 (parts_of line_feed script)
  -- "An empty script prints `total 0 0` alone."
  pub nothing : run_script [] ≡ line_of "total 0 0"
  -- the paper's example prints what the paper says, with the second result of `check` (request 10)
  pub paper : run_script (script_of example) ≡ printed_for example "total 14 2"
