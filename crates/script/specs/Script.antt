-- What a script's line does, and what a whole script prints. Assumes nothing.
use Rattle.std.specs.Prelude.{true, false, List, [], ◌∷◌, ◌++◌, ℕ, ◌+◌, eqb, ltb, length, get_or, drop, Option, Some, None}
use Rattle.model.specs.Model.{Model, empty}
use Rattle.model.specs.Sheet.{Told, refused}
use Rattle.model.specs.Step.{step}
use Rattle.model.specs.Questions.{ask}
use Rattle.decimal.specs.Decimal.{decimal, numbered}
use Rattle.words.specs.Bytes.{bytes}
use Rattle.words.specs.ScriptWords.{word_of}
use Rattle.textlines.specs.Parts.{parts_of}
use Rattle.reading.specs.Form.{Parsed, line, no_line, parse}
use Rattle.meaning.specs.Meaning.{meant}
use Rattle.meaning.specs.declared.Meant.{Meant}
use Rattle.meaning.specs.declared.Meant.TheVariants.{Do, Ask}

-- "Its buffers hold the longest result, so it never prints 15.": there are 4,096 permissions
abbrev pub room : ℕ
room = 4096

-- the command or question, on the policy and sessions
abbrev pub doing : Model → Option Meant → List ℕ → Told
doing m (Some (Do c)) list = step m c list
doing m (Some (Ask q)) list = ask m room q
doing m None list = refused 14 m

-- the line with this word and these numbers: the word's own numbers, and then the list of roles where it takes one
abbrev pub obeyed : Model → Parsed → Told
obeyed m (line k ns) = doing m (meant k (get_or ns 0 0) (get_or ns 1 0) (get_or ns 2 0)) (drop (word_of k).numbers ns)
obeyed m no_line = refused 14 m

-- what any line tells: a text that is the rendering of no word and numbers answers 14 and changes nothing
unfoldable pub obey : Model → List ℕ → Told
obey m text = obeyed m (parse text)

-- "For each line it prints the answer number and then the results, one space between."
abbrev pub line_feed : ℕ
line_feed = 10

unfoldable pub answer_text : ℕ → List ℕ → List ℕ
answer_text answer results = decimal answer ++ (numbered results ++ (line_feed ∷ []))

-- "Then it prints `total`, the number of lines answered 0 and the number of others."
unfoldable pub total_text : ℕ → ℕ → List ℕ
total_text done others = bytes "total" ++ (numbered (done ∷ others ∷ []) ++ (line_feed ∷ []))

-- one line more, answered 0 or otherwise
abbrev pub done_after : ℕ → Told → ℕ
done_after done told = elim (eqb told.answer 0) [ true ↦ done + 1 | false ↦ done ]

abbrev pub others_after : ℕ → Told → ℕ
others_after others told = elim (eqb told.answer 0) [ true ↦ others | false ↦ others + 1 ]

-- what is printed for some lines, from a policy with sessions and the counts so far on
unfoldable pub run_lines : Model → ℕ → ℕ → List (List ℕ) → List ℕ
run_lines m done others [] = total_text done others
run_lines m done others (text ∷ rest) =
    answer_text (obey m text).answer (obey m text).results
    ++ run_lines (obey m text).after (done_after done (obey m text)) (others_after others (obey m text)) rest

-- "A script over 32,768 bytes prints `14` and `total 0 1`."
abbrev pub longest_script : ℕ
longest_script = 32768

-- what a script prints, from a policy with sessions on
abbrev pub run_from : Model → List ℕ → List ℕ
run_from m script =
    elim (ltb longest_script (length script)) [
      | true ↦ answer_text 14 [] ++ total_text 0 1
      | false ↦ run_lines m 0 0 (parts_of line_feed script)
    ]

-- "The program reads a script from standard input, starting empty."
unfoldable pub run_script : List ℕ → List ℕ
run_script script = run_from empty script

-- the policy and sessions after some lines
unfoldable pub after_lines : Model → List (List ℕ) → Model
after_lines m [] = m
after_lines m (text ∷ rest) = after_lines (obey m text).after rest

-- and after a script: one that is too long changes nothing
abbrev pub after_script : Model → List ℕ → Model
after_script m script = elim (ltb longest_script (length script)) [ true ↦ m | false ↦ after_lines m (parts_of line_feed script) ]
