-- The edges, by computation over the script's definition: each line is obeyed and compared by a test. Assumes nothing.
use mathlib.Core.Bool.{true}
use mathlib.Core.List.{◌++◌}
use mathlib.Core.Path.{◌≡◌, refl}
use Rattle.roleset.specs.Bounded.{some, every, tally, total, members}
use Rattle.roleset.specs.Roles.{has, pack, those, with, without, union, common, minus, subset, is_empty, count}
use Rattle.hierarchy.specs.Walks.{juniors_of, walk, reach, turned, at_or_above}
use Rattle.model.specs.Lists.{rising, some_from, listed, set_of, up_to_first}
use Rattle.model.specs.Model.{empty, put}
use Rattle.model.specs.Questions.{ask, assigned_users, assigned_roles, auth_users, auth_roles, session_roles, role_ops, user_ops, set_names, set_roles, set_count}
use Rattle.model.specs.Sheet.{verdict, settle}
use Rattle.model.specs.Step.{step}
use Rattle.model.specs.Words.{breaks, breaks_some, static_broken, dynamic_broken, shedded, shed, sessions_open}
use Rattle.model.specs.commands.Users.{user, role, end_all, has_open, nouser, norole, in_set, ended_of, all_ended, without_user, without_role}
use Rattle.model.specs.commands.Assigning.{assign, assigned, deassign, deassigned, grant, granted, revoke, revoked}
use Rattle.model.specs.commands.Inheriting.{inherit, lined, disinherit, unlined}
use Rattle.model.specs.commands.Sets.{broken, make_set, drop_set, add_member, drop_member, set_cardinality}
use Rattle.model.specs.commands.Sessions.{free_from, opened, session, active_set, activate, drop, end, permitted, looked, check}
use Rattle.decimal.specs.Decimal.{decimal, lead, numbered, taken_from}
use Rattle.words.specs.Bytes.{same, bytes}
use Rattle.words.specs.ScriptWords.{words, spelling, takes, place_in, which}
use Rattle.textlines.specs.Parts.{parts_of, up_to}
use Rattle.reading.specs.Form.{render, word_in, numbers_in, parse}
use Rattle.meaning.specs.Meaning.{meanings, meant}
use Rattle.script.specs.Script.{obey, answer_text, total_text, run_lines, run_script}
use Rattle.transcripts.specs.Rows.{line_of}
use Rattle.transcripts.proofs.Scripts.{plain, tallies, right_lines, no_feed, no_feeds, right_script, prints-rows}
use Rattle.edges.specs.Edges.{numbers, removals, sets, lists, forms, long_lines, open_sessions, Edges}

numbers-right : right_script (plain (numbers ++ removals)) "total 26 57" ≡ true
unfolding some every tally total members has pack those with without union common minus subset is_empty count juniors_of walk reach turned at_or_above rising some_from listed set_of up_to_first empty put ask assigned_users assigned_roles auth_users auth_roles session_roles role_ops user_ops set_names set_roles set_count verdict settle step breaks breaks_some static_broken dynamic_broken shedded shed sessions_open user role end_all has_open nouser norole in_set ended_of all_ended without_user without_role assign assigned deassign deassigned grant granted revoke revoked inherit lined disinherit unlined broken make_set drop_set add_member drop_member set_cardinality free_from opened session active_set activate drop end permitted looked check decimal lead numbered taken_from same words spelling takes place_in which parts_of up_to render word_in numbers_in parse meanings meant obey answer_text total_text tallies right_lines no_feed no_feeds right_script
numbers-right = refl

sets-right : right_script (plain sets) "total 15 36" ≡ true
unfolding some every tally total members has pack those with without union common minus subset is_empty count juniors_of walk reach turned at_or_above rising some_from listed set_of up_to_first empty put ask assigned_users assigned_roles auth_users auth_roles session_roles role_ops user_ops set_names set_roles set_count verdict settle step breaks breaks_some static_broken dynamic_broken shedded shed sessions_open user role end_all has_open nouser norole in_set ended_of all_ended without_user without_role assign assigned deassign deassigned grant granted revoke revoked inherit lined disinherit unlined broken make_set drop_set add_member drop_member set_cardinality free_from opened session active_set activate drop end permitted looked check decimal lead numbered taken_from same words spelling takes place_in which parts_of up_to render word_in numbers_in parse meanings meant obey answer_text total_text tallies right_lines no_feed no_feeds right_script
sets-right = refl

lists-right : right_script (plain lists) "total 9 12" ≡ true
unfolding some every tally total members has pack those with without union common minus subset is_empty count juniors_of walk reach turned at_or_above rising some_from listed set_of up_to_first empty put ask assigned_users assigned_roles auth_users auth_roles session_roles role_ops user_ops set_names set_roles set_count verdict settle step breaks breaks_some static_broken dynamic_broken shedded shed sessions_open user role end_all has_open nouser norole in_set ended_of all_ended without_user without_role assign assigned deassign deassigned grant granted revoke revoked inherit lined disinherit unlined broken make_set drop_set add_member drop_member set_cardinality free_from opened session active_set activate drop end permitted looked check decimal lead numbered taken_from same words spelling takes place_in which parts_of up_to render word_in numbers_in parse meanings meant obey answer_text total_text tallies right_lines no_feed no_feeds right_script
lists-right = refl

forms-right : right_script (plain forms) "total 2 26" ≡ true
unfolding some every tally total members has pack those with without union common minus subset is_empty count juniors_of walk reach turned at_or_above rising some_from listed set_of up_to_first empty put ask assigned_users assigned_roles auth_users auth_roles session_roles role_ops user_ops set_names set_roles set_count verdict settle step breaks breaks_some static_broken dynamic_broken shedded shed sessions_open user role end_all has_open nouser norole in_set ended_of all_ended without_user without_role assign assigned deassign deassigned grant granted revoke revoked inherit lined disinherit unlined broken make_set drop_set add_member drop_member set_cardinality free_from opened session active_set activate drop end permitted looked check decimal lead numbered taken_from same words spelling takes place_in which parts_of up_to render word_in numbers_in parse meanings meant obey answer_text total_text tallies right_lines no_feed no_feeds right_script
forms-right = refl

open_sessions-right : right_script (plain open_sessions) "total 88 11" ≡ true
unfolding some every tally total members has pack those with without union common minus subset is_empty count juniors_of walk reach turned at_or_above rising some_from listed set_of up_to_first empty put ask assigned_users assigned_roles auth_users auth_roles session_roles role_ops user_ops set_names set_roles set_count verdict settle step breaks breaks_some static_broken dynamic_broken shedded shed sessions_open user role end_all has_open nouser norole in_set ended_of all_ended without_user without_role assign assigned deassign deassigned grant granted revoke revoked inherit lined disinherit unlined broken make_set drop_set add_member drop_member set_cardinality free_from opened session active_set activate drop end permitted looked check decimal lead numbered taken_from same words spelling takes place_in which parts_of up_to render word_in numbers_in parse meanings meant obey answer_text total_text tallies right_lines no_feed no_feeds right_script
open_sessions-right = refl

long_lines-right : right_script (plain long_lines) "total 0 2" ≡ true
unfolding some every tally total members has pack those with without union common minus subset is_empty count juniors_of walk reach turned at_or_above rising some_from listed set_of up_to_first empty put ask assigned_users assigned_roles auth_users auth_roles session_roles role_ops user_ops set_names set_roles set_count verdict settle step breaks breaks_some static_broken dynamic_broken shedded shed sessions_open user role end_all has_open nouser norole in_set ended_of all_ended without_user without_role assign assigned deassign deassigned grant granted revoke revoked inherit lined disinherit unlined broken make_set drop_set add_member drop_member set_cardinality free_from opened session active_set activate drop end permitted looked check decimal lead numbered taken_from same words spelling takes place_in which parts_of up_to render word_in numbers_in parse meanings meant obey answer_text total_text tallies right_lines no_feed no_feeds right_script
long_lines-right = refl

-- a last line with no LF
last-lines : (run_script (bytes "user 7") ≡ line_of "0" ++ line_of "total 1 0") × (run_script (line_of "user 7" ++ bytes "role 3") ≡ line_of "0" ++ (line_of "0" ++ line_of "total 2 0"))
unfolding some every tally total members has pack those with empty put verdict settle step user role decimal lead numbered taken_from same words spelling takes place_in which parts_of up_to render word_in numbers_in parse meanings meant obey answer_text total_text run_lines run_script
last-lines = (refl, refl)

pub edges : Edges
edges =
    record {
      numbers = prints-rows (numbers ++ removals) "total 26 57" numbers-right;
      sets = prints-rows sets "total 15 36" sets-right;
      lists = prints-rows lists "total 9 12" lists-right;
      forms = prints-rows forms "total 2 26" forms-right;
      long_lines = prints-rows long_lines "total 0 2" long_lines-right;
      lengths = (refl, refl);
      open_sessions = prints-rows open_sessions "total 88 11" open_sessions-right;
      only_line = last-lines.0;
      last_line = last-lines.1;
    }
