-- Every number is 0 after. Assumes nothing.
use native.Mathlib.Omega.{arith}
use borrow.Author.Rules.{rules}
use Rattle.state.proofs.Stored.{all_zero}
use Rattle.state.proofs.stores.start.Goals as goal

pub returns : goal.returns
returns c = all_zero _ _ (omega arith) (c.fill.ensures.after (λ y e. search rules))
