-- One number more was put. Assumes nothing.
use Prim.Native.Nat.{◌<◌}
use native.Mathlib.Omega.{arith}
use lib.ListN.{length}
use Rattle.text.proofs.Putting.{put_then, put-none}
use Rattle.decimal.specs.Decimal.{numbered}
use Rattle.decimal.proofs.Laws.{numbered_next}
use Rattle.decimal.proofs.put_numbers.Goals as goal

pub loop-number-init : goal.loop-number-init
unfolding numbered
loop-number-init c = put-none _ _

pub loop-number-preserved : goal.loop-number-preserved
loop-number-preserved c =
    let l : c.loop-number.number-index < length c.args.numbers.now = omega arith in
    rw (numbered_next c.args.numbers.now c.loop-number.number-index l) (put_then c.loop-number.invariant (put_then c.put-digits.ensures c.put_number-next.ensures))
