-- What saving and loading promise. Assumes nothing.
use Rattle.std.specs.Prelude.{List, [], ◌⊎◌, ◌≡◌, ℕ, ◌<◌, ◌≤◌, length}
use Rattle.std.proofs.lemmas.List.Edits.{sets}
use Rattle.model.specs.Model.{Model}
use Rattle.model.specs.Sheet.{Told, refused, settle}
use Rattle.policyform.specs.Encode.{encode}
use Rattle.policyform.specs.Form.{FileOf}
use Rattle.policyform.specs.Rules.{rules_broken}

-- "Saving answers 15 or 0 with the length, and bytes past that length are untouched." `out` is the lent buffer.
pub record SaveRefused (m : Model) (out after : List ℕ) (answer size : ℕ) : Type 0 where
  pub short : length out < length (encode m)
  pub answered : answer ≡ 15
  pub no_length : size ≡ 0
  pub untouched : after ≡ out

pub record SaveDone (m : Model) (out after : List ℕ) (answer size : ℕ) : Type 0 where
  pub fits : length (encode m) ≤ length out
  pub answered : answer ≡ 0
  pub long : size ≡ length (encode m)
  -- the front is the file, and past it the bytes are as they were
  pub stored : after ≡ sets out 0 (encode m)

abbrev pub Saves : Model → List ℕ → List ℕ → ℕ → ℕ → Type 0
Saves m out after answer size = SaveRefused m out after answer size ⊎ SaveDone m out after answer size

-- Loading any bytes: they are not of the form, which is 14 and changes nothing; or they are the file of a model, and then the load is refused
-- with the lowest rule that this model breaks, or it replaces the policy and sessions whole.
pub record NotOfForm (before : Model) (bytes : List ℕ) (told : Told) : Type 0 where
  pub no_file : (m : Model) → FileOf m bytes → ⊥
  pub tells : told ≡ refused 14 before

pub record OfForm (before : Model) (bytes : List ℕ) (told : Told) : Type 0 where
  pub model : Model
  pub file : FileOf model bytes
  pub tells : told ≡ settle (rules_broken model) before [] model

abbrev pub Loads : Model → List ℕ → Told → Type 0
Loads before bytes told = NotOfForm before bytes told ⊎ OfForm before bytes told
