-- The form of the policy file is the paper's: what a file is, what it says, and each sentence of the paper's list of what is not of the form.
-- `FileOf` (in policyform) is what loading asks: it answers 14 exactly where the bytes are the file of no policy. Assumes nothing.
use Rattle.std.specs.Prelude.{List, ◌∷◌, ◌++◌, ◌≡◌, ℕ, ◌<◌}
use Rattle.model.specs.Model.{Model}
use Rattle.policyform.specs.Form.{Formed, FileOf}
use Rattle.filebytes.specs.Sections.{Sections, bytes_of, Every, OfTheForm, Sixteen}
use Rattle.filebytes.specs.Faults.{Fault}
use Rattle.filebytes.specs.Meaning.{Says}

-- The bytes are sections of the form, written as the paper says.
pub record AsThePaperSays (bytes : List ℕ) : Type 0 where
  pub sections : Sections
  pub form : OfTheForm sections
  pub written : bytes_of sections ≡ bytes

-- What any bytes are: sections written in full; or a proper front of such; or such with more bytes after them.
pub data AnyBytes (bytes : List ℕ) : Type 0 where
  in_full : (f : Sections) → Sixteen f → bytes_of f ≡ bytes → AnyBytes bytes
  cut_short : (f : Sections) → Sixteen f → (next : ℕ) (rest : List ℕ) → bytes_of f ≡ bytes ++ (next ∷ rest) → AnyBytes bytes
  with_more : (f : Sections) → Sixteen f → (next : ℕ) (rest : List ℕ) → bytes_of f ++ (next ∷ rest) ≡ bytes → AnyBytes bytes

-- The bytes are the file of no policy.
abbrev pub NoFile : List ℕ → Type 0
NoFile bytes = (m : Model) → FileOf m bytes → ⊥

pub record FileForm : Type 0 where
  -- The file of a policy is of the form that the paper says.
  pub file_form : (m : Model) (bytes : List ℕ) → FileOf m bytes → AsThePaperSays bytes
  -- Whatever is of that form is the file of a policy.
  pub form_file : (bytes : List ℕ) → AsThePaperSays bytes → (m : Model) × FileOf m bytes
  -- Sections that are the file of a policy list what this policy holds, neither more nor less.
  pub file_says : (m : Model) (f : Sections) → Sixteen f → FileOf m (bytes_of f) → Says f m
  -- A policy that may stand in a file, and holds what sections of the form list, has these sections as its file.
  pub says_file : (m : Model) (f : Sections) → Formed m → OfTheForm f → Says f m → FileOf m (bytes_of f)
  -- Sections that are the file of a policy obey every sentence of the form.
  pub obeys : (m : Model) (f : Sections) → Sixteen f → FileOf m (bytes_of f) → OfTheForm f
  -- Any bytes are sections written in full, or cut short, or with more after them; the next three laws say what is a file of each kind.
  pub any_bytes : (bytes : List ℕ) → Every (λ b. b < 256) bytes → AnyBytes bytes
  -- "an early end": sections that are cut short are no file.
  pub early_end : (f : Sections) → Sixteen f → (bytes : List ℕ) (next : ℕ) (rest : List ℕ) → bytes_of f ≡ bytes ++ (next ∷ rest) → NoFile bytes
  -- "bytes left over": sections with anything after them are no file.
  pub left_over : (f : Sections) → Sixteen f → (next : ℕ) (rest : List ℕ) → NoFile (bytes_of f ++ (next ∷ rest))
  -- "a count or number beyond its limit .., a wrong order, an entry naming a user or role not listed": sections with such a fault are no file.
  pub faults : (f : Sections) → Sixteen f → Fault f → NoFile (bytes_of f)
  -- Sections that are written in full and have no such fault are a file.
  pub faultless : (f : Sections) → Sixteen f → (Fault f → ⊥) → (m : Model) × FileOf m (bytes_of f)
  -- No file is a proper front of another.
  pub no_front : (m m' : Model) (bytes : List ℕ) (next : ℕ) (rest : List ℕ) → FileOf m bytes → FileOf m' (bytes ++ (next ∷ rest)) → ⊥
