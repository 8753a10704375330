-- The entries at the numbers passed are written, and counted. Assumes nothing.
use mathlib.Core.Path.{◌≡◌, refl, sym, ap₂, ◌∙◌}
use Prim.Native.Nat.{ℕ, ◌+◌}
use native.Mathlib.Omega.{arith}
use lib.ListN.{length-append}
use Rattle.policywrite.specs.Parts.{below}
use Rattle.policywrite.proofs.Appended.{entries_none, entries_more, section_writes}
use Rattle.policywrite.proofs.Numbered.{below-none, below-more}
use Rattle.policywrite.proofs.put_section.Goals as goal

pub loop-k-init : goal.loop-k-init
loop-k-init g c = rw (below-none (g.S.Section.numbers c.args.part.now)) (record { few = omega arith; counted = refl; written = entries_none (g.S.Section.put c.args.part.now) _ })

pub loop-k-preserved : goal.loop-k-preserved
loop-k-preserved g c =
    let numbers = g.S.Section.numbers c.args.part.now in
    let head = c.loop-k in
    rw (below-more numbers head.k)
    (record {
      few = omega (arith, c.put_at-n.ensures.few, head.invariant.few);
      counted = ap₂ (λ (a b : ℕ). a + b) head.invariant.counted c.put_at-n.ensures.all ∙ sym (length-append (below numbers head.k) (numbers head.k));
      written = entries_more (g.S.Section.put c.args.part.now) (below numbers head.k) (numbers head.k) head.invariant.written c.put_at-n.ensures.written;
    })

pub returns : goal.returns
returns g c =
    let numbers = g.S.Section.numbers c.args.part.now in
    let all : c.loop-k.k ≡ c.args.most = omega arith in
    rw (← all) (section_writes (g.S.Section.put c.args.part.now) (below numbers c.loop-k.k) refl refl (λ h. omega (arith, c.saturating_add-pen.ensures)) c.loop-k.invariant.written c.loop-k.invariant.counted refl c.put_word.ensures refl)

pub overflow_add-n : goal.overflow_add-n
overflow_add-n g c = omega (arith, c.put_at-n.ensures.few, c.loop-k.invariant.few)
