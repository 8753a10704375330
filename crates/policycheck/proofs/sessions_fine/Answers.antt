-- The sessions are asked one by one; past the last all is zero. Assumes nothing.
use Rattle.std.proofs.Common.{rules}
use Rattle.policycheck.proofs.Passing.{told-numbers, session-none}
use Rattle.policycheck.proofs.Ranges.{no_session}
use Rattle.policycheck.proofs.sessions_fine.Goals as goal

pub returns : goal.returns
returns c = told-numbers _ 64 _ c.all.ensures.ran (λ k b q h. search rules) (λ k h. rw (no_session c.args.state.now k h) (session-none _ _))
