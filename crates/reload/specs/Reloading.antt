-- What the program prints for a policy file. Assumes nothing.
use Rattle.std.specs.Prelude.{true, false, List, [], ◌∷◌, ◌++◌, ◌≡◌, ℕ, eqb, length}
use Rattle.std.specs.declared.option.Option.{Option}
use Rattle.std.specs.Io.KnownBytes.{Appends}
use Rattle.streams.specs.Writing.{Next, WritesFront}
use Rattle.model.specs.Model.{empty}
use Rattle.model.specs.Sheet.{Told}
use Rattle.decimal.specs.Decimal.{decimal}
use Rattle.policyform.specs.Promises.{Loads}

-- the answer's number and LF
abbrev pub answer_line : ℕ → List ℕ
answer_line answer = decimal answer ++ (10 ∷ [])

-- and after a 0 the policy as it is saved again, which is the file, byte for byte
unfoldable pub reloaded : ℕ → List ℕ → List ℕ
reloaded answer file = answer_line answer ++ elim (eqb answer 0) [ true ↦ file | false ↦ [] ]

-- The bytes come next in what is printed, of which so many were written, whatever loading the file into the empty policy tells.
abbrev pub NextFor : List ℕ → ℕ → List ℕ → Type 0
NextFor file count bytes = (told : Told) → Loads empty file told → Next (reloaded told.answer file) count bytes

-- So many bytes are all that is printed.
abbrev pub AllFor : List ℕ → ℕ → Type 0
AllFor file count = (told : Told) → Loads empty file told → count ≡ length (reloaded told.answer file)

-- Where it is known which bytes a writer holds, it holds all that is printed after those that it held before.
abbrev pub PrintsFor : List ℕ → Option (List ℕ) → Option (List ℕ) → Type 0
PrintsFor file before after = (told : Told) → Loads empty file told → Appends before after (reloaded told.answer file)

-- And where a write failed, it holds a front of what is printed, and nothing else, after those that it held before.
abbrev pub FrontFor : List ℕ → Option (List ℕ) → Option (List ℕ) → Type 0
FrontFor file before after = (told : Told) → Loads empty file told → WritesFront (reloaded told.answer file) before after
