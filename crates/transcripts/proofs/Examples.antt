-- The paper's example, the user's story, the leaver's and the student's, by computation. Assumes nothing.
use mathlib.Core.Bool.{true}
use mathlib.Core.Path.{◌≡◌, refl}
use Rattle.roleset.specs.Bounded.{some, every, tally, total, members}
use Rattle.roleset.specs.Roles.{has, pack, those, with, without, union, common, minus, subset, is_empty, count}
use Rattle.hierarchy.specs.Walks.{juniors_of, walk, reach}
use Rattle.model.specs.Lists.{rising, some_from, listed, set_of, up_to_first}
use Rattle.model.specs.Model.{empty, put}
use Rattle.model.specs.Questions.{ask, assigned_users, assigned_roles, auth_roles, session_roles}
use Rattle.model.specs.Sheet.{verdict, settle}
use Rattle.model.specs.Step.{step}
use Rattle.model.specs.Words.{breaks, breaks_some, static_broken, dynamic_broken, shedded, shed, assignments, grants, lines_standing, sessions_open}
use Rattle.model.specs.commands.Users.{user, role, ended_of, all_ended, end_all, has_open, without_user, nouser, norole, in_set, without_role}
use Rattle.model.specs.commands.Assigning.{assign, assigned, deassign, deassigned, grant, granted}
use Rattle.model.specs.commands.Inheriting.{inherit, lined, disinherit, unlined}
use Rattle.model.specs.commands.Sets.{broken, make_set, drop_member}
use Rattle.model.specs.commands.Sessions.{free_from, opened, session, active_set, activate, permitted, looked, check, end}
use Rattle.words.specs.Bytes.{same}
use Rattle.words.specs.ScriptWords.{words, spelling, takes, place_in, which}
use Rattle.reading.specs.Form.{render, word_in, numbers_in, parse}
use Rattle.meaning.specs.Meaning.{meanings, meant}
use Rattle.decimal.specs.Decimal.{decimal, lead, numbered, taken_from}
use Rattle.textlines.specs.Parts.{parts_of, up_to}
use Rattle.script.specs.Script.{obey, answer_text, total_text}
use Rattle.transcripts.specs.Program.{example}
use Rattle.transcripts.specs.Rows.{Prints}
use Rattle.transcripts.specs.Story.{story}
use Rattle.transcripts.specs.Leaver.{leaver}
use Rattle.transcripts.specs.Student.{student}
use Rattle.transcripts.proofs.Scripts.{plain, tallies, right_lines, no_feed, no_feeds, right_script, prints-rows}

paper-right : right_script (plain example) "total 14 2" ≡ true
unfolding some every tally total members has pack those with without union common minus subset is_empty count juniors_of walk reach rising some_from listed set_of up_to_first empty put ask assigned_roles auth_roles session_roles verdict settle step breaks breaks_some static_broken dynamic_broken shedded shed assignments grants lines_standing sessions_open user role norole in_set without_role assign assigned deassign deassigned grant granted inherit lined disinherit unlined broken make_set drop_member free_from opened session active_set activate permitted looked check end decimal lead numbered taken_from same words spelling takes place_in which parts_of up_to render word_in numbers_in parse meanings meant obey answer_text total_text tallies right_lines no_feed no_feeds right_script
paper-right = refl

story-right : right_script (plain story) "total 22 3" ≡ true
unfolding some every tally total members has pack those with without union common minus subset is_empty count juniors_of walk reach rising some_from listed set_of up_to_first empty put ask assigned_roles auth_roles session_roles verdict settle step breaks breaks_some static_broken dynamic_broken shedded shed assignments grants lines_standing sessions_open user role norole in_set without_role assign assigned deassign deassigned grant granted inherit lined disinherit unlined broken make_set drop_member free_from opened session active_set activate permitted looked check end decimal lead numbered taken_from same words spelling takes place_in which parts_of up_to render word_in numbers_in parse meanings meant obey answer_text total_text tallies right_lines no_feed no_feeds right_script
story-right = refl

leaver-right : right_script (plain leaver) "total 17 2" ≡ true
unfolding some every tally total members has pack those with without union common minus subset is_empty count juniors_of walk reach rising some_from listed set_of up_to_first empty put ask assigned_users assigned_roles auth_roles session_roles verdict settle step breaks breaks_some static_broken dynamic_broken shedded shed assignments grants lines_standing sessions_open user role ended_of all_ended end_all has_open without_user nouser norole in_set without_role assign assigned deassign deassigned grant granted inherit lined disinherit unlined broken make_set drop_member free_from opened session active_set activate permitted looked check end decimal lead numbered taken_from same words spelling takes place_in which parts_of up_to render word_in numbers_in parse meanings meant obey answer_text total_text tallies right_lines no_feed no_feeds right_script
leaver-right = refl

student-right : right_script (plain student) "total 21 4" ≡ true
unfolding some every tally total members has pack those with without union common minus subset is_empty count juniors_of walk reach rising some_from listed set_of up_to_first empty put ask assigned_users assigned_roles auth_roles session_roles verdict settle step breaks breaks_some static_broken dynamic_broken shedded shed assignments grants lines_standing sessions_open user role norole in_set without_role assign assigned deassign deassigned grant granted inherit lined disinherit unlined broken make_set drop_member free_from opened session active_set activate permitted looked check end decimal lead numbered taken_from same words spelling takes place_in which parts_of up_to render word_in numbers_in parse meanings meant obey answer_text total_text tallies right_lines no_feed no_feeds right_script
student-right = refl

pub paper-printed : Prints example "total 14 2"
paper-printed = prints-rows example "total 14 2" paper-right

pub story-printed : Prints story "total 22 3"
story-printed = prints-rows story "total 22 3" story-right

pub leaver-printed : Prints leaver "total 17 2"
leaver-printed = prints-rows leaver "total 17 2" leaver-right

pub student-printed : Prints student "total 21 4"
student-printed = prints-rows student "total 21 4" student-right
