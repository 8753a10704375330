-- Demand 2, of files: "A saved policy loads as itself; a file that loads is saved again byte for byte." Assumes nothing.
use Rattle.std.specs.Prelude.{List, [], ◌≡◌, ℕ, ◌≤◌, length}
use Rattle.model.specs.Model.{Model, empty}
use Rattle.model.specs.Sheet.{Told, done}
use Rattle.policyform.specs.Encode.{encode}
use Rattle.policyform.specs.Promises.{Loads, Saves}
use Rattle.demands.specs.Reachable.{Reachable}

pub record Faithful : Type 0 where
  -- the file of a reachable policy, loaded over any policy, is done and gives that policy and its sessions whole
  pub itself : (m before : Model) (told : Told) → Reachable m → Loads before (encode m) told → told ≡ done [] m
  -- a file that loads is, byte for byte, the file of the policy after it
  pub again : (before : Model) (bytes : List ℕ) (told : Told) → Loads before bytes told → told.answer ≡ 0 → encode told.after ≡ bytes
  -- "A policy of ours never needs more than 36,048 bytes": with that much room saving is done
  pub size : (m : Model) → Reachable m → length (encode m) ≤ 36048
  pub room : (m : Model) (out after : List ℕ) (answer size : ℕ) → Reachable m → 36048 ≤ length out → Saves m out after answer size → answer ≡ 0
