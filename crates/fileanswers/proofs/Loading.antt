-- Loading answers as the paper says. Assumes nothing.
use mathlib.Core.List.{List, []}
use mathlib.Core.Logic.{inl, inr, ◌↔◌}
use mathlib.Core.Path.{◌≡◌, refl, sym, ap, subst, ◌∙◌}
use Prim.Native.Nat.{ℕ}
use native.Mathlib.Omega.{arith}
use Rattle.model.specs.Model.{Model}
use Rattle.model.specs.Sheet.{Refusal, Told, settle, refused}
use Rattle.sound.proofs.Sheet.{not-told}
use Rattle.policyform.specs.Form.{FileOf}
use Rattle.policyform.specs.Rules.{rules_broken}
use Rattle.policyform.specs.Promises.{Loads}
use Rattle.policyread.proofs.Whole.{file-one}
use Rattle.filebytes.specs.Sections.{Sections, bytes_of, OfTheForm}
use Rattle.filebytes.specs.Meaning.{Says}
use Rattle.filebytes.specs.FileForm.{AsThePaperSays}
use Rattle.filebytes.proofs.Listed.{form_sixteen}
use Rattle.filebytes.proofs.FileForm.{paper-form}
use Rattle.demands.proofs.Exact.{exact}
use Rattle.demands.specs.Demand2.{Exactly}
use Rattle.fileanswers.specs.Loading.{load_refusals, Answered, Loading}
use Rattle.fileanswers.proofs.Conditions.{asked}

answers : (before m : Model) (bytes : List ℕ) (told : Told) → FileOf m bytes → Loads before bytes told → Answered before m told
unfolding rules_broken
answers before m bytes told x (inl y) = absurd (y.no_file m x)
answers before m bytes told x (inr y) = record { asked = asked m x.formed; exactly = subst (Exactly before list [] m) (sym tells) (exact list before [] m refl refl) }
  where
    list : List Refusal
    list = load_refusals (asked m x.formed)

    tells : told ≡ settle list before [] m
    tells = y.tells ∙ ap (λ (n : Model). settle (rules_broken n) before [] n) (file-one bytes y.model m y.file x)

listed : (before : Model) (f : Sections) (told : Told) → OfTheForm f → Loads before (bytes_of f) told → (m : Model) × (Says f m) × Answered before m told
listed before f told form l =
    let q = paper-form.form_file (bytes_of f) (record { sections = f; form = form; written = refl }) in
    (q.0, paper-form.file_says q.0 f (form_sixteen f form) q.1, answers before q.0 (bytes_of f) told q.1 l)

-- ---- 14

-- a model that a load answers for is not refused with 14
never-14 : (before m : Model) (told : Told) → told ≡ settle (rules_broken m) before [] m → told.answer ≡ 14 → ⊥
unfolding rules_broken
never-14 before m told e = not-told 14 (rules_broken m) before [] m told (omega arith) refl e

fourteen : (before : Model) (bytes : List ℕ) (told : Told) → Loads before bytes told → (told.answer ≡ 14) ↔ (AsThePaperSays bytes → ⊥)
fourteen before bytes told (inl y) = ((λ e p. let q = paper-form.form_file bytes p in y.no_file q.0 q.1), (λ h. ap (λ (t : Told). t.answer) y.tells))
fourteen before bytes told (inr y) = ((λ e. absurd (never-14 before y.model told y.tells e)), (λ h. absurd (h (paper-form.file_form y.model bytes y.file))))

unchanged : (before : Model) (bytes : List ℕ) (told : Told) → Loads before bytes told → told.answer ≡ 14 → told ≡ refused 14 before
unchanged before bytes told (inl y) e = y.tells
unchanged before bytes told (inr y) e = absurd (never-14 before y.model told y.tells e)

-- what loading answers, for any bytes
pub loading : Loading
loading = record { fourteen = fourteen; unchanged = unchanged; listed = listed; answers = answers; one_policy = λ m m' bytes. file-one bytes m m' }
