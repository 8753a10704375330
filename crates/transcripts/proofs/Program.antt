-- What the program prints for a whole script. Assumes nothing.
use mathlib.Core.List.{[], ◌++◌}
use mathlib.Core.Path.{◌≡◌, refl, ◌∙◌}
use Rattle.decimal.specs.Decimal.{decimal, lead, numbered}
use Rattle.textlines.specs.Parts.{parts_of}
use Rattle.script.specs.Script.{answer_text, total_text, run_lines, run_script}
use Rattle.script.proofs.Turning.{from_start, too_long}
use Rattle.program.proofs.Whole.{whole}
use Rattle.transcripts.specs.Program.{Program}
use Rattle.transcripts.specs.Rows.{line_of}
use Rattle.transcripts.specs.Story.{Story}
use Rattle.transcripts.specs.Leaver.{Leaver}
use Rattle.transcripts.specs.Student.{Student}
use Rattle.transcripts.proofs.Examples.{paper-printed, story-printed, leaver-printed, student-printed}

nothing : run_script [] ≡ line_of "total 0 0"
unfolding run_script run_lines total_text numbered decimal lead parts_of
nothing = refl

-- the answer to a script that is too long
refusal : answer_text 14 [] ++ total_text 0 1 ≡ line_of "14" ++ line_of "total 0 1"
unfolding answer_text total_text numbered decimal lead
refusal = refl

pub story-holds : Story
story-holds = record { told = story-printed }

pub leaver-holds : Leaver
leaver-holds = record { told = leaver-printed }

pub student-holds : Student
student-holds = record { told = student-printed }

pub program : Program
program =
    record {
      prints = whole;
      too_long = λ script h. too_long script h ∙ refusal;
      line_by_line = from_start;
      nothing = nothing;
      paper = paper-printed;
    }
