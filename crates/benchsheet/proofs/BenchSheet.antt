-- The bench sheet, by computation over the script's definition: each line is obeyed and compared by a test, so that a wrong row shows at once.
-- Assumes nothing.
use mathlib.Core.Bool.{Bool, true, ◌&&◌}
use mathlib.Core.List.{List, [], ◌∷◌, ◌++◌}
use mathlib.Core.Logic.{⊎_elim}
use mathlib.Core.Path.{◌≡◌, refl, ap, ◌∙◌}
use Prim.Native.Nat.{ℕ, ◌≤◌}
use native.Mathlib.Omega.{arith}
use lib.ListN.{length, drop}
use lib.Seq.{sets, sets-eq}
use Rattle.roleset.specs.Bounded.{some, every, tally, total, members}
use Rattle.roleset.specs.Roles.{has, pack, those, with, without, union, common, minus, subset, is_empty, count}
use Rattle.hierarchy.specs.Walks.{juniors_of, walk, reach}
use Rattle.model.specs.Lists.{rising, some_from, listed, set_of, up_to_first}
use Rattle.model.specs.Model.{Model, empty, put}
use Rattle.model.specs.Questions.{ask, assigned_roles, auth_roles, session_roles}
use Rattle.model.specs.Sheet.{verdict, settle}
use Rattle.model.specs.Step.{step}
use Rattle.model.specs.Words.{breaks, breaks_some, static_broken, dynamic_broken, shedded, shed, assignments, grants, lines_standing, sessions_open}
use Rattle.model.specs.commands.Users.{user, role, norole, in_set, without_role}
use Rattle.model.specs.commands.Assigning.{assign, assigned, deassign, deassigned, grant, granted}
use Rattle.model.specs.commands.Inheriting.{inherit, lined, disinherit, unlined}
use Rattle.model.specs.commands.Sets.{broken, make_set, drop_member}
use Rattle.model.specs.commands.Sessions.{free_from, opened, session, active_set, activate, permitted, looked, check}
use Rattle.decimal.specs.Decimal.{decimal, lead, numbered, taken_from}
use Rattle.words.specs.Bytes.{same}
use Rattle.words.proofs.Laws.{and-true}
use Rattle.words.specs.ScriptWords.{words, spelling, takes, place_in, which}
use Rattle.textlines.specs.Parts.{parts_of, up_to}
use Rattle.reading.specs.Form.{render, word_in, numbers_in, parse}
use Rattle.meaning.specs.Meaning.{meanings, meant}
use Rattle.script.specs.Script.{obey, answer_text}
use Rattle.transcripts.specs.Rows.{after_rows}
use Rattle.transcripts.proofs.Rows.{tells, right_then, right, answered-then, answered}
use Rattle.policyform.specs.Promises.{Saves}
use Rattle.policyfile.proofs.Laws.{empty-file}
use Rattle.benchsheet.specs.Lines.{afterwards, first_ten, at_the_bench}
use Rattle.benchsheet.specs.BenchSheet.{first_ten_lines, Labelled, P, sheet, EachAnswered, sixteen_zero_bytes, Bench}

-- each row passes the test
unfoldable each : List Labelled → Model → Bool
each [] m = true
each (P k rows ∷ rest) m = right rows m && each rest m

each-answered : (m : Model) (rows : List Labelled) → each rows m ≡ true → EachAnswered m rows
unfolding each
each-answered m [] e = tt
each-answered m (P k rows ∷ rest) e = let p = and-true (right rows m) (each rest m) e in (answered m rows p.0, each-answered m rest p.1)

-- the first ten lines and then each row, in one computation
computed : right_then first_ten_lines (each sheet) empty ≡ true
unfolding some every tally total members has pack those with without union common minus subset is_empty count juniors_of walk reach rising some_from listed set_of up_to_first empty put ask assigned_roles auth_roles session_roles verdict settle step breaks breaks_some static_broken dynamic_broken shedded shed assignments grants lines_standing sessions_open user role norole in_set without_role assign assigned deassign deassigned grant granted inherit lined disinherit unlined broken make_set drop_member free_from opened session active_set activate permitted looked check decimal lead numbered taken_from same words spelling takes place_in which parts_of up_to render word_in numbers_in parse meanings meant obey answer_text tells right_then each
computed = refl

-- lines of text and commands that say the same, whatever the policy before them
same-policy : (m : Model) → after_rows m first_ten_lines ≡ afterwards m first_ten
unfolding lead decimal numbered taken_from same words spelling takes place_in which parts_of up_to render word_in numbers_in parse meanings meant obey after_rows afterwards
same-policy m = refl

-- P12, through what saving promises
saved : (out after : List ℕ) (answer size : ℕ) → 16 ≤ length out → Saves empty out after answer size → (answer ≡ 0) × (size ≡ 16) × (after ≡ sixteen_zero_bytes ++ drop 16 out)
saved out after answer size room =
    ⊎_elim
    (λ x. absurd (let short = x.short in omega (arith, ap length empty-file)))
    (λ x. (x.answered, x.long ∙ ap length empty-file, x.stored ∙ ap (sets out 0) empty-file ∙ sets-eq sixteen_zero_bytes out 0 (omega arith)))

-- P1 to P12
pub bench-sheet : Bench
unfolding at_the_bench
bench-sheet =
    let c = answered-then empty first_ten_lines (each sheet) computed in
    record { example = c.0; rows = each-answered _ sheet c.1; saved = saved; bench = same-policy empty }
