-- The digits one after another, from the ten thousands on. Assumes nothing.
use mathlib.Core.Path.{◌≡◌}
use Prim.Native.Nat.{◌/◌}
use native.Mathlib.Omega.{arith}
use Rattle.text.proofs.Putting.{put_then}
use Rattle.decimal.specs.Decimal.{decimal}
use Rattle.decimal.proofs.put_number.Goals as goal

pub returns : goal.returns
unfolding decimal
returns c =
    let units : c.args.n / 1 ≡ c.args.n = omega arith in
    rw units (put_then c.put_lead-b.ensures (put_then c.put_lead-c.ensures (put_then c.put_lead-d.ensures (put_then c.put_lead-e.ensures c.put.ensures))))
