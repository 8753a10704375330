-- The lowest role stands first among the members, and the others are those of the set without it. Assumes nothing.
use native.Mathlib.Omega.{arith}
use Rattle.std.proofs.Common.{rules}
use Rattle.roleset.proofs.Machine.{member-some, lowest-dropped}
use Rattle.roleset.proofs.Taking.{none-left, lowest-first}
use Rattle.roleset.proofs.AscendingIterator.next.Goals as goal

pub returns-in_err-r-clause-steps : goal.returns-in_err-r-clause-steps
returns-in_err-r-clause-steps c = let none = none-left c.args.self.now.rest c.in_err-r.ensures in search rules

pub overflow_sub-self : goal.overflow_sub-self
overflow_sub-self c = omega (arith, member-some _ _ c.in_ok-r.ensures.1.member)

pub returns-clause-steps : goal.returns-clause-steps
returns-clause-steps c = lowest-first c.in_ok-r.ensures (lowest-dropped c.args.self.now.fits c.in_ok-r.ensures.1)

pub returns-clause-goes : goal.returns-clause-goes
returns-clause-goes c = let first = lowest-first c.in_ok-r.ensures (lowest-dropped c.args.self.now.fits c.in_ok-r.ensures.1) in search rules
