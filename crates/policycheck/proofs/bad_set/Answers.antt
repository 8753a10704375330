-- The sets are asked one by one. Assumes nothing.
use Rattle.std.proofs.Common.{rules}
use Rattle.policyform.specs.Rules.{bad_set}
use Rattle.policycheck.proofs.Passing.{told-some}
use Rattle.policycheck.proofs.bad_set.Goals as goal

pub returns : goal.returns
unfolding bad_set
returns c = told-some _ 16 _ c.any.ensures.ran (λ k b q h. search rules)
