-- The roles are asked one by one; past the last there are no lines. Assumes nothing.
use Rattle.std.proofs.Common.{rules}
use Rattle.policycheck.proofs.Passing.{told-numbers, backed-none}
use Rattle.policycheck.proofs.Ranges.{no_juniors}
use Rattle.policycheck.proofs.seniors.Goals as goal

pub returns : goal.returns
returns c = told-numbers _ 64 _ c.all.ensures.ran (λ k b q h. search rules) (λ k h. rw (no_juniors c.args.state.now k h) (backed-none _))
