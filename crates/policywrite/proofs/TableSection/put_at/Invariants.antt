-- The entries of the members passed are written. Assumes nothing.
use mathlib.Core.List.{◌++◌, map}
use mathlib.Core.Path.{◌≡◌}
use Prim.Native.Nat.{◌+◌, ◌*◌}
use lib.ListN.{length}
use Rattle.roleset.specs.Bounded.{members}
use Rattle.roleset.specs.Roles.{has}
use Rattle.text.specs.Bytes.{flat}
use Rattle.policywrite.specs.Parts.{Writes}
use Rattle.policywrite.proofs.TableSection.put_at.Given as goal

abbrev pub invariant-loop-r : goal.invariant-loop-r
invariant-loop-r g l = record {
  counted : l.n ≡ length l.yielded;
  written : Writes l.initial.pen l.pen (flat g.E.Entry.bytes (map (λ r. 64 * l.k + r) l.yielded));
  ahead : l.yielded ++ members 64 (has l.r-iterator.rest) ≡ members 64 (has l.initial.r-iterator.rest);
}
