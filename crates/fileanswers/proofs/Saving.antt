-- Saving writes what the paper says. Assumes nothing.
use mathlib.Core.List.{List, ◌++◌}
use mathlib.Core.Logic.{inl, inr}
use mathlib.Core.Path.{◌≡◌, refl, sym, ap, subst, ◌∙◌}
use Prim.Native.Nat.{ℕ, ◌<◌}
use native.Mathlib.Omega.{arith}
use lib.ListN.{length, drop}
use Rattle.model.specs.Model.{Model}
use Rattle.model.specs.Sound.{Sound}
use Rattle.policyform.specs.Encode.{encode}
use Rattle.policyform.specs.Form.{FileOf}
use Rattle.policyform.specs.Promises.{Saves}
use Rattle.policyfile.proofs.Laws.{saved-buffer}
use Rattle.policyfile.proofs.Sounding.{sound-formed}
use Rattle.filebytes.specs.Sections.{Sections, bytes_of, OfTheForm}
use Rattle.filebytes.specs.Meaning.{Says}
use Rattle.filebytes.specs.FileForm.{AsThePaperSays}
use Rattle.filebytes.proofs.FileForm.{paper-form}
use Rattle.filebytes.proofs.Listed.{form_sixteen}
use Rattle.demands.proofs.Kept.{reachable-sound}
use Rattle.fileanswers.specs.Saving.{Saving, SavesAsThePaperSays}

module _ (m : Model) (s : Sound m) where
  file : FileOf m (encode m)
  file = record { formed = sound-formed m s; written = refl }

  paper : AsThePaperSays (encode m)
  paper = paper-form.file_form m (encode m) file

  says : Says paper.sections m
  says = paper-form.file_says m paper.sections (form_sixteen paper.sections paper.form) (subst (FileOf m) (sym paper.written) file)

  -- every file of the form that says the policy is as long as the one that is written
  as_long : (f : Sections) → OfTheForm f → Says f m → length (encode m) ≡ length (bytes_of f)
  as_long f form h = ap length (paper-form.says_file m f (sound-formed m s) form h).written

  saving : (out after : List ℕ) (answer size : ℕ) → Saves m out after answer size → Saving m out after answer size
  saving out after answer size (inl x) =
      record {
        answers = inl x.answered;
        done = λ z. absurd (omega (arith, z, x.answered));
        short = ((λ e f form h. omega (arith, x.short, as_long f form h)), (λ h. x.answered));
        untouched = λ e. x.untouched;
      }
  saving out after answer size (inr x) =
      record {
        answers = inr x.answered;
        done = λ z. record { sections = paper.sections; form = paper.form; says = says; long = x.long ∙ ap length (sym paper.written); stored = saved-buffer m out after answer size x ∙ ap (λ (l : List ℕ). l ++ drop size out) (sym paper.written) };
        short = ((λ e. absurd (omega (arith, e, x.answered))), (λ h. absurd (omega (arith, x.fits, h paper.sections paper.form says, ap length paper.written))));
        untouched = λ e. absurd (omega (arith, e, x.answered));
      }

-- what saving writes and answers
pub saves : SavesAsThePaperSays
saves m out after answer size p h = saving m (reachable-sound p) out after answer size h
