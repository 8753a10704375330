-- The places passed that have one of the roles are counted: their list's length. Assumes nothing.
use mathlib.Core.Bool.{Bool}
use mathlib.Core.Path.{◌≡◌, sym, ap, ◌∙◌}
use Prim.Native.Nat.{ℕ}
use native.Mathlib.Omega.{arith}
use lib.ListN.{length}
use Rattle.roleset.specs.Bounded.{members}
use Rattle.roleset.proofs.MembersLaws.{members-start, members-left, members-most}
use Rattle.reviews.specs.Reviewing.{touched, meeting}
use Rattle.reviews.proofs.Writing.{taken-length}
use Rattle.reviews.proofs.listing.count.Goals as goal
use Rattle.reviews.proofs.listing.count.Goals.{then-meet, else-meet}

pub loop-set-init : goal.loop-set-init
loop-set-init c = sym (ap length (members-start _))

pub overflow_add-n : goal.overflow_add-n
overflow_add-n c = let a = c.args in omega (arith, members-most c.loop-set.set-index (touched a.roles a.table.now), c.loop-set.invariant)

pub loop-set-preserved : goal.loop-set-preserved
loop-set-preserved c =
    let a = c.args in
    let at = c.loop-set in
    let f : ℕ → Bool = touched a.roles a.table.now in
    let met = sym c.meet.ensures in
    elim c.if-meet.branch [
      | then-meet w ↦ omega (arith, w.n-is, at.invariant, taken-length at.set-index f (met ∙ w.if-meet.true))
      | else-meet w ↦ w.n-is ∙ at.invariant ∙ sym (ap length (members-left at.set-index f (met ∙ w.if-meet.false)))
    ]

pub returns : goal.returns
unfolding meeting
returns c =
    let a = c.args in
    let whole : c.loop-set.set-index ≡ length a.table.now = omega arith in
    c.loop-set.invariant ∙ ap (λ (n : ℕ). length (members n (touched a.roles a.table.now))) whole
