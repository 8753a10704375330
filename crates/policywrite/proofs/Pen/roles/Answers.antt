-- The roles passed are written after their count. Assumes nothing.
use mathlib.Core.List.{List, [], ◌∷◌, ◌++◌}
use mathlib.Core.Path.{◌≡◌, ap₂, ◌∙◌}
use Prim.Native.Nat.{ℕ}
use Rattle.roleset.specs.Bounded.{members}
use Rattle.roleset.specs.Roles.{has}
use Rattle.text.specs.Bytes.{two, flat, section}
use Rattle.policywrite.proofs.Appended.{writes_as, writes_more, entries_none, entries_more, entry_written}
use Rattle.policywrite.proofs.Numbered.{many, ahead_more, ahead_none}
use Rattle.policywrite.proofs.Pen.roles.Goals as goal

pub loop-r-init : goal.loop-r-init
loop-r-init c = record { written = entries_none two _; ahead = cc }

pub loop-r-preserved : goal.loop-r-preserved
loop-r-preserved c =
    let head = c.loop-r in
    record {
      written = entries_more two head.yielded (c.in-Some.r ∷ []) head.invariant.written (entry_written two (rw c.from-in-loop-r.ensures at c.word-in-loop-r.ensures));
      ahead = ahead_more head.yielded c.in-Some.ensures.steps head.invariant.ahead;
    }

pub returns : goal.returns
unfolding section
returns c =
    let all : c.loop-r.yielded ≡ members 64 (has c.args.set) = ahead_none c.loop-r.yielded c.in-None.ensures.steps.0 c.loop-r.invariant.ahead in
    writes_as (ap₂ (λ (n : ℕ) (ks : List ℕ). two n ++ flat two ks) (c.from.ensures ∙ c.count.ensures.0 ∙ many c.args.set) all) (writes_more c.word.ensures c.loop-r.invariant.written)
