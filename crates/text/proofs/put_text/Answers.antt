-- One byte more was put. Assumes nothing.
use Prim.Native.Nat.{◌<◌}
use native.Mathlib.Numerals.{add-one}
use native.Mathlib.Omega.{arith}
use lib.ListN.{length}
use lib.Seq.{take-suc}
use Rattle.text.proofs.Putting.{put_then}
use Rattle.text.proofs.put_text.Goals as goal

pub loop-b-preserved : goal.loop-b-preserved
loop-b-preserved c =
    let l : c.loop-b.b-index < length c.args.text.now = omega arith in
    rw (add-one c.loop-b.b-index, take-suc c.args.text.now c.loop-b.b-index 0 l) (put_then c.loop-b.invariant c.put-next.ensures)
