-- The list of the places passed stands at the front of the buffer, and the rest is as before. Assumes nothing.
use mathlib.Core.Bool.{Bool}
use mathlib.Core.Path.{sym, ◌∙◌}
use Prim.Native.Nat.{ℕ, ◌≤◌}
use native.Mathlib.Omega.{arith}
use lib.ListN.{length}
use Rattle.roleset.specs.Bounded.{members}
use Rattle.reviews.specs.Reviewing.{touched, meeting}
use Rattle.reviews.proofs.Settling.{lists-done}
use Rattle.reviews.proofs.Writing.{written_start, written_stay, written_fits, written_next, written_end}
use Rattle.reviews.proofs.listing.list.Goals as goal
use Rattle.reviews.proofs.listing.list.Goals.{then-meet, else-meet, Else-out-count}

-- the buffer has room for all
room : (c : Else-out-count) → length (members (length c.args.table.now) (touched c.args.roles c.args.table.now)) ≤ length c.args.out.now
unfolding meeting
room c = omega (arith, c.count.ensures)

pub loop-k-init : goal.loop-k-init
loop-k-init c = written_start _ _

pub bounds-out-n : goal.bounds-out-n
bounds-out-n c =
    let at = c.loop-k in
    written_fits _ c.args.out.now (length c.args.table.now) (room (goal.at.bounds-out-n c).Else-out-count) at.k at.n at.out (omega arith) (sym c.meet.ensures ∙ c.if-meet.true) at.invariant

pub loop-k-preserved : goal.loop-k-preserved
loop-k-preserved c =
    let a = c.args in
    let at = c.loop-k in
    let f : ℕ → Bool = touched a.roles a.table.now in
    let met = sym c.meet.ensures in
    elim c.if-meet.branch [
      | then-meet w ↦ rw (w.out-is, w.n-is) (written_next f a.out.now (length a.table.now) (room (goal.at.loop-k-preserved c).Else-out-count) at.k at.n at.out (omega arith) (met ∙ w.if-meet.true) at.invariant)
      | else-meet w ↦ rw (w.out-is, w.n-is) (written_stay f a.out.now at.k at.n at.out (met ∙ w.if-meet.false) at.invariant)
    ]

pub returns : goal.returns
unfolding meeting
returns c =
    let a = c.args in
    let at = c.loop-k in
    let whole = written_end (touched a.roles a.table.now) a.out.now (length a.table.now) (room (goal.at.returns c).Else-out-count) at.k at.n at.out (omega arith) at.invariant in
    lists-done (meeting a.roles a.table.now) a.out.now at.out at.n (room (goal.at.returns c).Else-out-count) whole.0 whole.1
