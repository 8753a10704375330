-- What the desk prints and leaves: a script on a policy that was loaded. Assumes nothing.
use Rattle.std.specs.Prelude.{List, [], ◌∷◌, ◌++◌, ◌≡◌, ℕ, ◌≤◌, length, replicate}
use Rattle.model.specs.Model.{Model, empty}
use Rattle.model.specs.Sheet.{Told, done}
use Rattle.state.specs.View.{view}
use Rattle.script.specs.Script.{run_from, run_script, after_script, line_feed}
use Rattle.program.specs.Printing.{at_start, Runs}
use Rattle.program.specs.declared.Run.{Run}
use Rattle.policyform.specs.Encode.{encode}
use Rattle.policyform.specs.Promises.{Loads}
use Rattle.demands.specs.Demand3.{Rules}
use Rattle.demands.specs.Reachable.{Reachable}

pub record Desk : Type 0 where
  -- What the program's calls hand to the output, begun on a state that holds any policy, is together what the script prints from that policy on;
  pub prints : (script out l last : List ℕ) (r : Run) → r ≡ at_start → Runs script l r out last → out ≡ run_from (view l) script
  -- and the state after the last call holds what the script leaves of that policy.
  pub leaves : (script out l last : List ℕ) (r : Run) → r ≡ at_start → Runs script l r out last → view last ≡ after_script (view l) script
  -- No policy yet: sixteen zero bytes are the file of the empty policy, and from there a script prints what the paper's program prints.
  pub new : Loads empty (replicate 16 0) (done [] empty)
  pub from_empty : (script : List ℕ) → run_from empty script ≡ run_script script
  -- Demand 3 holds all along: what a script leaves of a reachable policy can be reached, and so, where a file gives a policy, no script breaks a rule.
  pub reachable : (script : List ℕ) (m : Model) → Reachable m → Reachable (after_script m script)
  pub rules : (file script : List ℕ) (m : Model) → Loads empty file (done [] m) → Rules (after_script m script)
  -- "A saved policy loads as itself": the file of what a script leaves, loaded over any policy, is done and gives that policy and its sessions whole.
  pub again : (file script : List ℕ) (m before : Model) (told : Told) → Loads empty file (done [] m) → Loads before (encode (after_script m script)) told → told ≡ done [] (after_script m script)
  -- A script in two halves, the second one on what the first one left, leaves what the whole leaves.
  pub halves : (m : Model) (first second : List ℕ) → length (first ++ (line_feed ∷ second)) ≤ 32768 → after_script (after_script m (first ++ (line_feed ∷ []))) second ≡ after_script m (first ++ (line_feed ∷ second))
