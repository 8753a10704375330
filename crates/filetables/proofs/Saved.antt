-- Where the file of a reachable policy is known, so is what saving and loading it tell. Assumes nothing.
use mathlib.Core.List.{List, [], ◌∷◌, ◌++◌}
use mathlib.Core.Logic.{inl, inr}
use mathlib.Core.Path.{◌≡◌, sym, ap, ap₂, subst, ◌∙◌}
use Prim.Native.Nat.{ℕ, ◌≤◌, ◌<◌}
use native.Mathlib.Omega.{arith}
use lib.ListN.{length, drop}
use Rattle.model.specs.Model.{Model}
use Rattle.model.specs.Sound.{Sound}
use Rattle.policyform.specs.Encode.{encode}
use Rattle.policyform.specs.Promises.{Saves, Loads}
use Rattle.policyfile.proofs.Laws.{saved-buffer, load-after-save}
use Rattle.policyfile.proofs.Sounding.{sound-formed}
use Rattle.demands.specs.Reachable.{Reachable, after}
use Rattle.model.specs.Step.{step}
use Rattle.demands.proofs.Kept.{reachable-sound}
use Rattle.benchsheet.specs.Lines.{Line, command, question, afterwards}
use Rattle.filebytes.specs.Sections.{Sections, bytes_of}
use Rattle.filebytes.proofs.Decided.{Tested, tested_form}
use Rattle.filebytes.proofs.Tables.{seen, told, seen-agrees, agrees-file}
use Rattle.filetables.specs.PolicyBytes.{FileIs}

-- what lines leave of a reachable policy can be reached
pub reachable-lines : {m : Model} → Reachable m → (lines : List Line) → Reachable (afterwards m lines)
unfolding afterwards
reachable-lines p [] = p
reachable-lines {m = m} p (command c list ∷ rest) = reachable-lines {m = (step m c list).after} (after p c list) rest
reachable-lines p (question q ∷ rest) = reachable-lines p rest

pub file-is : (m : Model) → Sound m → (bytes : List ℕ) → encode m ≡ bytes → FileIs m bytes
file-is m s bytes e = record { saved = saved; short = short; loaded = λ before t l. load-after-save before m t s (subst (λ (b : List ℕ). Loads before b t) (sym e) l) }
  where
    size_of : length (encode m) ≡ length bytes
    size_of = ap length e

    saved : (out left : List ℕ) (answer size : ℕ) → length bytes ≤ length out → Saves m out left answer size → (answer ≡ 0) × (size ≡ length bytes) × (left ≡ bytes ++ drop (length bytes) out)
    saved out left answer size room (inl x) = absurd (omega (arith, size_of, x.short))
    saved out left answer size room (inr x) = (x.answered, x.long ∙ size_of, saved-buffer m out left answer size x ∙ ap₂ (λ (l : List ℕ) (n : ℕ). l ++ drop n out) e (x.long ∙ size_of))

    short : (out left : List ℕ) (answer size : ℕ) → length out < length bytes → Saves m out left answer size → (answer ≡ 15) × (left ≡ out)
    short out left answer size less (inl x) = (x.answered, x.untouched)
    short out left answer size less (inr x) = absurd (omega (arith, size_of, x.fits))

-- a policy of which was seen what the sections tell
pub file-seen : (m : Model) → Reachable m → (f : Sections) → Tested f → seen m f ≡ told f → (bytes : List ℕ) → bytes_of f ≡ bytes → FileIs m bytes
file-seen m p f t e bytes w = let s = reachable-sound p in file-is m s bytes (agrees-file m f (sound-formed m s) (tested_form f t) (seen-agrees m f e) ∙ w)
