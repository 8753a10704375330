-- What saving writes, in the paper's words: "Saving answers 15 or 0 with the length, and bytes past that length are untouched." Assumes nothing.
use Rattle.std.specs.Prelude.{List, ◌++◌, ◌⊎◌, ◌↔◌, ◌≡◌, ℕ, ◌<◌, length, drop}
use Rattle.model.specs.Model.{Model}
use Rattle.policyform.specs.Promises.{Saves}
use Rattle.filebytes.specs.Sections.{Sections, bytes_of, OfTheForm}
use Rattle.filebytes.specs.Meaning.{Says}
use Rattle.demands.specs.Reachable.{Reachable}

-- At the front of the buffer stands a file of the form that says this policy and its sessions; its length is the size; past it is what was there.
pub record Saved (m : Model) (out after : List ℕ) (size : ℕ) : Type 0 where
  pub sections : Sections
  pub form : OfTheForm sections
  pub says : Says sections m
  pub long : size ≡ length (bytes_of sections)
  pub stored : after ≡ bytes_of sections ++ drop size out

-- What saving a policy of ours into a buffer tells: the buffer is `out` before and `after` then.
pub record Saving (m : Model) (out after : List ℕ) (answer size : ℕ) : Type 0 where
  -- "Saving answers 15 or 0"
  pub answers : (answer ≡ 15) ⊎ (answer ≡ 0)
  -- Where it answers 0 the file is written.
  pub done : answer ≡ 0 → Saved m out after size
  -- 15: "the lent output buffer is shorter than the whole result", which is the file that says this policy.
  pub short : (answer ≡ 15) ↔ ((f : Sections) → OfTheForm f → Says f m → length out < length (bytes_of f))
  -- Where it answers 15 the buffer is as it was.
  pub untouched : answer ≡ 15 → after ≡ out

-- Whatever meets the promise of saving, for a policy of ours, tells this.
abbrev pub SavesAsThePaperSays : Type 0
SavesAsThePaperSays = (m : Model) (out after : List ℕ) (answer size : ℕ) → Reachable m → Saves m out after answer size → Saving m out after answer size
