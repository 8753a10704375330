-- "A script over 32,768 bytes prints `14` and `total 0 1`." Assumes nothing.
use Rattle.std.specs.Prelude.{List, [], ◌++◌, ◌≡◌, ℕ, zero, suc, ◌<◌, length}
use Rattle.script.specs.Script.{run_script}
use Rattle.transcripts.specs.Rows.{line_of}

-- the text n times, one after another
unfoldable pub times : ℕ → List ℕ → List ℕ
times zero text = []
times (suc n) text = text ++ times n text

-- "A script over 32,768 bytes prints `14` and `total 0 1`": so many empty lines, each of which is one byte, LF, and answers 14
pub record LongScripts : Type 0 where
  -- A script of 32,768 bytes is run line by line,
  pub longest : run_script (times 32768 (line_of "")) ≡ times 32768 (line_of "14") ++ line_of "total 0 32768"
  -- and one of 32,769 bytes is not.
  pub too_long : run_script (times 32769 (line_of "")) ≡ line_of "14" ++ line_of "total 0 1"
  -- Nor is any other script over 32,768 bytes.
  pub over : (script : List ℕ) → 32768 < length script → run_script script ≡ line_of "14" ++ line_of "total 0 1"
