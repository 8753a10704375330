-- The readings that look right, by computation over the model: the answers are compared by a test. Assumes nothing.
use mathlib.Core.Bool.{Bool, true, not, ◌&&◌}
use mathlib.Core.Path.{◌≡◌, refl}
use native.Mathlib.Omega.{arith}
use lib.Dec.{eqb}
use borrow.Author.Tests.{eqb-true, not-true}
use Rattle.roleset.specs.Bounded.{some, every, tally, members}
use Rattle.roleset.specs.Roles.{has, pack, those, with, without, union, common, minus, subset, is_empty, count}
use Rattle.roleset.proofs.BoundedLaws.{and_left, and_right, some-intro}
use Rattle.hierarchy.specs.Walks.{juniors_of, walk, reach}
use Rattle.model.specs.Lists.{rising, some_from, listed, set_of, up_to_first}
use Rattle.model.specs.Model.{Model, empty, put}
use Rattle.model.specs.Questions.{ask, assigned_roles, auth_roles, session_roles}
use Rattle.model.specs.Sheet.{verdict, settle}
use Rattle.model.specs.Step.{step}
use Rattle.model.specs.Words.{breaks, breaks_some, static_broken, dynamic_broken, shedded, shed, sessions_open}
use Rattle.model.specs.commands.Users.{user, role}
use Rattle.model.specs.commands.Assigning.{assign, assigned, deassign, deassigned, grant, granted}
use Rattle.model.specs.commands.Inheriting.{inherit, lined, disinherit, unlined}
use Rattle.model.specs.commands.Sets.{broken, make_set}
use Rattle.model.specs.commands.Sessions.{free_from, opened, session, end, permitted, looked, check}
use Rattle.benchsheet.specs.Lines.{answers, afterwards}
use Rattle.benchsheet.proofs.Same.{same_by, same_by_lem}
use Rattle.misreadings.specs.Readings.{two_seniors_above, examples, answered, expected, broken_by_two, WrongRules}
use Rattle.misreadings.proofs.Bench.{bench}

readings-same : same_by (same_by (same_by eqb)) (answered examples) (expected examples) ≡ true
unfolding same_by some every tally members has pack those with without union common minus subset is_empty count juniors_of walk reach rising some_from listed set_of up_to_first empty put ask assigned_roles auth_roles session_roles verdict settle step breaks breaks_some static_broken dynamic_broken shedded shed sessions_open user role assign assigned deassign deassigned grant granted inherit lined disinherit unlined broken make_set free_from opened session end permitted looked check answers afterwards answered expected
readings-same = refl

-- every example answers as the paper says
pub readings : answered examples ≡ expected examples
readings = same_by_lem _ (same_by_lem _ (same_by_lem _ eqb-true)) _ _ readings-same

-- the rule over the new line's two roles sees nothing, and the paper's is broken for user 7: one computation
unfoldable told-apart : Model → Bool
told-apart after = not (broken_by_two after 2 0) && static_broken after 7

two-apart : told-apart (lined (afterwards empty two_seniors_above) 2 0) ≡ true
unfolding some every tally has pack those with union common subset is_empty count juniors_of walk reach rising some_from listed set_of empty put verdict settle step breaks breaks_some static_broken dynamic_broken user role assign assigned inherit lined broken make_set afterwards broken_by_two told-apart
two-apart = refl

-- the wrong rules would pass what the paper refuses
pub wrong-rules : WrongRules
unfolding told-apart
wrong-rules =
    let after = lined (afterwards empty two_seniors_above) 2 0 in
    let passes = not-true (broken_by_two after 2 0) (and_left (not (broken_by_two after 2 0)) (static_broken after 7) two-apart) in
    let breaks = and_right (not (broken_by_two after 2 0)) (static_broken after 7) two-apart in
    record { assigned_only = (bench.passed, bench.refused); two_only = (passes, some-intro 256 (static_broken after) 7 (omega arith) breaks) }
