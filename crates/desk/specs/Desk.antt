-- What the desk prints and saves for a policy file and a script. Assumes nothing.
use Rattle.std.specs.Prelude.{false, List, [], ◌++◌, ◌≡◌, ℕ, ◌-◌, ◌^◌, length, take, drop, codes}
use Rattle.std.specs.declared.option.Option.{Option}
use Rattle.std.specs.Fmt.{digits, format_spec, padded_integral}
use Rattle.std.specs.Io.KnownBytes.{Appends}
use Rattle.streams.specs.Writing.{WritesFront}
use Rattle.model.specs.Model.{Model, empty}
use Rattle.model.specs.Sheet.{done, refused}
use Rattle.script.specs.Script.{answer_text, run_from, after_script}
use Rattle.policyform.specs.Encode.{encode}
use Rattle.policyform.specs.Promises.{Loads}

-- The file gives this policy with its sessions: loading it into the empty policy is done.
abbrev pub Gives : List ℕ → Model → Type 0
Gives file m = Loads empty file (done [] m)

-- The bytes come next, from the place on, in what the script prints from the policy that the file gives.
pub record Next (file script : List ℕ) (from : ℕ) (bytes : List ℕ) : Type 0 where
  pub policy : Model
  pub gives : Gives file policy
  pub next : bytes ≡ take (length bytes) (drop from (run_from policy script))

-- So many bytes are all that the script prints from the policy that the file gives.
pub record Prints (file script : List ℕ) (count : ℕ) : Type 0 where
  pub policy : Model
  pub gives : Gives file policy
  pub all : count ≡ length (run_from policy script)

-- This policy with its sessions is what the script leaves of the one that the file gives.
pub record Leaves (file script : List ℕ) (after : Model) : Type 0 where
  pub policy : Model
  pub gives : Gives file policy
  pub left : after ≡ after_script policy script

-- The bytes are the file of what the script leaves of the policy that the file gives.
pub record Saved (file script bytes : List ℕ) : Type 0 where
  pub policy : Model
  pub gives : Gives file policy
  pub is : bytes ≡ encode (after_script policy script)

-- The file does not load, and the bytes are the number of its answer and LF.
pub record Refused (file bytes : List ℕ) : Type 0 where
  pub answer : ℕ
  pub refuses : Loads empty file (refused answer empty)
  pub not_done : answer ≡ 0 → ⊥
  pub is : bytes ≡ answer_text answer []

-- Where it is known which bytes a writer holds, it holds all that the script prints from the policy that the file gives, after those that it held
-- before.
pub record PrintsTo (file script : List ℕ) (before after : Option (List ℕ)) : Type 0 where
  pub policy : Model
  pub gives : Gives file policy
  pub all : Appends before after (run_from policy script)

-- Where it is known which bytes a writer holds, it holds a front of what the script prints from the policy that the file gives, and nothing else, after
-- those that it held before.
pub record PrintsFront (file script : List ℕ) (before after : Option (List ℕ)) : Type 0 where
  pub policy : Model
  pub gives : Gives file policy
  pub front : WritesFront (run_from policy script) before after

-- The name of the file beside: the name, `.part-` and the number in sixteen hexadecimal digits, with zeros in front.
abbrev pub part_name : List ℕ → ℕ → List ℕ
part_name name number = name ++ (codes ".part-" ++ padded_integral (format_spec 32 0 4 16 (2 ^ 64 - 1)) false [] (digits 16 false number))
