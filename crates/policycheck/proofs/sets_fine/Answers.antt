-- The sets are asked one by one; past the last all is zero. Assumes nothing.
use Rattle.std.proofs.Common.{rules}
use Rattle.policycheck.proofs.Passing.{told-numbers, set-none}
use Rattle.policycheck.proofs.Ranges.{no_set}
use Rattle.policycheck.proofs.sets_fine.Goals as goal

pub returns : goal.returns
returns c = told-numbers _ 16 _ c.all.ensures.ran (λ k b q h. search rules) (λ k h. rw (no_set c.args.state.now c.args.kind k h) (set-none _))
