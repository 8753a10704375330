-- The sessions are asked one by one. Assumes nothing.
use Rattle.std.proofs.Common.{rules}
use Rattle.policyform.specs.Rules.{unauthorised}
use Rattle.policycheck.proofs.Passing.{told-some}
use Rattle.policycheck.proofs.unauthorised.Goals as goal

pub returns : goal.returns
unfolding unauthorised
returns c = told-some _ 64 _ c.any.ensures.ran (λ k b q h. search rules)
