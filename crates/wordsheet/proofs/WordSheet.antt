-- Every word of a script in lines of text, by computation over the script's definition: each line is obeyed and compared by a test. Assumes nothing.
use mathlib.Core.Bool.{true}
use mathlib.Core.List.{List, [], ◌∷◌, ◌++◌}
use mathlib.Core.Path.{◌≡◌, refl}
use Rattle.roleset.specs.Bounded.{some, every, tally, total, members}
use Rattle.roleset.specs.Roles.{has, pack, those, with, without, union, common, minus, subset, is_empty, count}
use Rattle.hierarchy.specs.Walks.{juniors_of, walk, reach, turned, at_or_above}
use Rattle.model.specs.Lists.{rising, some_from, listed, set_of, up_to_first}
use Rattle.model.specs.Model.{empty, put}
use Rattle.model.specs.Questions.{ask, assigned_users, assigned_roles, auth_users, auth_roles, session_roles, role_ops, user_ops, set_names, set_roles, set_count}
use Rattle.model.specs.Sheet.{verdict, settle}
use Rattle.model.specs.Step.{step}
use Rattle.model.specs.Words.{breaks, breaks_some, static_broken, dynamic_broken, shedded, shed, sessions_open}
use Rattle.model.specs.commands.Users.{user, role, end_all, has_open, nouser, norole, in_set, ended_of, all_ended, without_user, without_role}
use Rattle.model.specs.commands.Assigning.{assign, assigned, deassign, deassigned, grant, granted, revoke, revoked}
use Rattle.model.specs.commands.Inheriting.{inherit, lined, disinherit, unlined}
use Rattle.model.specs.commands.Sets.{broken, make_set, drop_set, add_member, drop_member, set_cardinality}
use Rattle.model.specs.commands.Sessions.{free_from, opened, session, active_set, activate, drop, end, permitted, looked, check}
use Rattle.decimal.specs.Decimal.{decimal, lead, numbered, taken_from}
use Rattle.words.specs.Bytes.{same}
use Rattle.words.specs.ScriptWords.{words, spelling, takes, place_in, which}
use Rattle.textlines.specs.Parts.{parts_of, up_to}
use Rattle.reading.specs.Form.{render, word_in, numbers_in, parse}
use Rattle.meaning.specs.Meaning.{meanings, meant}
use Rattle.script.specs.Script.{obey, answer_text, total_text}
use Rattle.transcripts.proofs.Scripts.{Said, plain, tallies, right_lines, no_feed, no_feeds, right_script, prints-rows, prints-said}
use Rattle.transcripts.proofs.Permissions.{quick, role_told, user_told, session_told, role-told, user-told, session-told}
use Rattle.wordsheet.specs.WordSheet.{people, sessions, granting, revoking, sets, one_too_few, one_too_many, WordSheet}

people-right : right_script (plain people) "total 24 1" ≡ true
unfolding some every tally total members has pack those with without union common minus subset is_empty count juniors_of walk reach turned at_or_above rising some_from listed set_of up_to_first empty put ask assigned_users assigned_roles auth_users auth_roles session_roles role_ops user_ops set_names set_roles set_count verdict settle step breaks breaks_some static_broken dynamic_broken shedded shed sessions_open user role end_all has_open nouser norole in_set ended_of all_ended without_user without_role assign assigned deassign deassigned grant granted revoke revoked inherit lined disinherit unlined broken make_set drop_set add_member drop_member set_cardinality free_from opened session active_set activate drop end permitted looked check decimal lead numbered taken_from same words spelling takes place_in which parts_of up_to render word_in numbers_in parse meanings meant obey answer_text total_text tallies right_lines no_feed no_feeds right_script
people-right = refl

sessions-right : right_script (plain sessions) "total 29 6" ≡ true
unfolding some every tally total members has pack those with without union common minus subset is_empty count juniors_of walk reach turned at_or_above rising some_from listed set_of up_to_first empty put ask assigned_users assigned_roles auth_users auth_roles session_roles role_ops user_ops set_names set_roles set_count verdict settle step breaks breaks_some static_broken dynamic_broken shedded shed sessions_open user role end_all has_open nouser norole in_set ended_of all_ended without_user without_role assign assigned deassign deassigned grant granted revoke revoked inherit lined disinherit unlined broken make_set drop_set add_member drop_member set_cardinality free_from opened session active_set activate drop end permitted looked check decimal lead numbered taken_from same words spelling takes place_in which parts_of up_to render word_in numbers_in parse meanings meant obey answer_text total_text tallies right_lines no_feed no_feeds right_script
sessions-right = refl

sets-right : right_script (plain sets) "total 32 3" ≡ true
unfolding some every tally total members has pack those with without union common minus subset is_empty count juniors_of walk reach turned at_or_above rising some_from listed set_of up_to_first empty put ask assigned_users assigned_roles auth_users auth_roles session_roles role_ops user_ops set_names set_roles set_count verdict settle step breaks breaks_some static_broken dynamic_broken shedded shed sessions_open user role end_all has_open nouser norole in_set ended_of all_ended without_user without_role assign assigned deassign deassigned grant granted revoke revoked inherit lined disinherit unlined broken make_set drop_set add_member drop_member set_cardinality free_from opened session active_set activate drop end permitted looked check decimal lead numbered taken_from same words spelling takes place_in which parts_of up_to render word_in numbers_in parse meanings meant obey answer_text total_text tallies right_lines no_feed no_feeds right_script
sets-right = refl

one_too_few-right : right_script (plain one_too_few) "total 0 40" ≡ true
unfolding some every tally total members has pack those with without union common minus subset is_empty count juniors_of walk reach turned at_or_above rising some_from listed set_of up_to_first empty put ask assigned_users assigned_roles auth_users auth_roles session_roles role_ops user_ops set_names set_roles set_count verdict settle step breaks breaks_some static_broken dynamic_broken shedded shed sessions_open user role end_all has_open nouser norole in_set ended_of all_ended without_user without_role assign assigned deassign deassigned grant granted revoke revoked inherit lined disinherit unlined broken make_set drop_set add_member drop_member set_cardinality free_from opened session active_set activate drop end permitted looked check decimal lead numbered taken_from same words spelling takes place_in which parts_of up_to render word_in numbers_in parse meanings meant obey answer_text total_text tallies right_lines no_feed no_feeds right_script
one_too_few-right = refl

one_too_many-right : right_script (plain one_too_many) "total 0 39" ≡ true
unfolding some every tally total members has pack those with without union common minus subset is_empty count juniors_of walk reach turned at_or_above rising some_from listed set_of up_to_first empty put ask assigned_users assigned_roles auth_users auth_roles session_roles role_ops user_ops set_names set_roles set_count verdict settle step breaks breaks_some static_broken dynamic_broken shedded shed sessions_open user role end_all has_open nouser norole in_set ended_of all_ended without_user without_role assign assigned deassign deassigned grant granted revoke revoked inherit lined disinherit unlined broken make_set drop_set add_member drop_member set_cardinality free_from opened session active_set activate drop end permitted looked check decimal lead numbered taken_from same words spelling takes place_in which parts_of up_to render word_in numbers_in parse meanings meant obey answer_text total_text tallies right_lines no_feed no_feeds right_script
one_too_many-right = refl

-- the three lists of permissions, said in a way that is quick to compute
unfoldable said : List Said
unfolding decimal lead numbered taken_from same words spelling takes place_in which parts_of up_to render word_in numbers_in parse meanings meant obey
said =
    record { line = "role-perms 63"; answer = "0 1822 4095"; told = role_told 63; is = role-told 63 } ∷
    record { line = "user-perms 255"; answer = "0 1822 2334 4095"; told = user_told 255; is = user-told 255 } ∷
    record { line = "session-perms 0"; answer = "0 1822 4095"; told = session_told 0; is = session-told 0 } ∷
    []

permissions-right : right_script (plain granting ++ (said ++ plain revoking)) "total 24 0" ≡ true
unfolding some every tally total members has pack those with without union common minus subset is_empty count juniors_of walk reach turned at_or_above rising some_from listed set_of up_to_first empty put ask assigned_users assigned_roles auth_users auth_roles session_roles role_ops user_ops set_names set_roles set_count verdict settle step breaks breaks_some static_broken dynamic_broken shedded shed sessions_open user role end_all has_open nouser norole in_set ended_of all_ended without_user without_role assign assigned deassign deassigned grant granted revoke revoked inherit lined disinherit unlined broken make_set drop_set add_member drop_member set_cardinality free_from opened session active_set activate drop end permitted looked check decimal lead numbered taken_from same words spelling takes place_in which parts_of up_to render word_in numbers_in parse meanings meant obey answer_text total_text tallies right_lines no_feed no_feeds right_script quick said
permissions-right = refl

pub word-sheet : WordSheet
unfolding said
word-sheet =
    record {
      people = prints-rows people "total 24 1" people-right;
      sessions = prints-rows sessions "total 29 6" sessions-right;
      permissions = prints-said (plain granting ++ (said ++ plain revoking)) "total 24 0" permissions-right;
      sets = prints-rows sets "total 32 3" sets-right;
      one_too_few = prints-rows one_too_few "total 0 40" one_too_few-right;
      one_too_many = prints-rows one_too_many "total 0 39" one_too_many-right;
    }
