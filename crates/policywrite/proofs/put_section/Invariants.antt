-- The entries at the numbers passed are written, and counted. Assumes nothing.
use mathlib.Core.Path.{◌≡◌}
use Prim.Native.Nat.{◌*◌, ◌≤◌}
use lib.ListN.{length}
use Rattle.text.specs.Bytes.{flat}
use Rattle.policywrite.specs.Parts.{Writes, below}
use Rattle.policywrite.proofs.put_section.Given as goal

abbrev pub invariant-loop-k : goal.invariant-loop-k
invariant-loop-k g l = record {
  few : l.n ≤ 64 * l.k;
  counted : l.n ≡ length (below (g.S.Section.numbers l.part) l.k);
  written : Writes l.initial.pen l.pen (flat (g.S.Section.put l.part) (below (g.S.Section.numbers l.part) l.k));
}
