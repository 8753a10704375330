-- Of the roles passed, those in the set are counted. Assumes nothing.
use mathlib.Core.Bool.{Bool}
use mathlib.Core.Path.{◌≡◌, refl, sym}
use Prim.Native.Nat.{ℕ}
use native.Mathlib.Omega.{arith}
use Rattle.roleset.specs.Bounded.{tally}
use Rattle.roleset.specs.Roles.{has, count}
use Rattle.roleset.proofs.BoundedLaws.{tally-le, tally-step}
use Rattle.roleset.proofs.count.Goals as goal

pub loop-r-init : goal.loop-r-init
unfolding tally
loop-r-init c = (omega arith, refl)

pub overflow_add-n : goal.overflow_add-n
overflow_add-n c =
    let at = c.before.before.before in
    omega (arith, tally-le at.loop-r.r (has at.before.args.s))

-- What `has` was asked of, and what the test makes of its answer, are facts here and not forms: a pass that asks otherwise is accepted if it is right.
asked_of : (s r asked : ℕ) (b : Bool) → b ≡ has s asked → asked ≡ r → has s r ≡ b
asked_of s r asked b e p = rw (← p) (sym e)

pub loop-r-preserved : goal.loop-r-preserved
loop-r-preserved c =
    let s = c.args.s in
    let r = c.loop-r.r in
    let asked : has s r ≡ c.has.result = asked_of s r _ c.has.result c.has.ensures (omega arith) in
    let step = tally-step r (has s) in
    (omega arith, grind (arith, step, asked))

pub returns : goal.returns
unfolding count
returns c =
    let at = c.before in
    let s = at.before.args.s in
    let all : at.loop-r.r ≡ 64 = omega arith in
    let counted : at.loop-r.n ≡ tally 64 (has s) = rw all at at.loop-r.invariant.1 in
    (counted, omega (arith, tally-le 64 (has s)))
