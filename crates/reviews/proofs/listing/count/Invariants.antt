-- The places passed that have one of the roles are counted: their list's length. Assumes nothing.
use mathlib.Core.Path.{◌≡◌}
use lib.ListN.{length}
use Rattle.roleset.specs.Bounded.{members}
use Rattle.reviews.specs.Reviewing.{touched}
use Rattle.reviews.proofs.listing.count.Given as goal

abbrev pub invariant-loop-set : goal.invariant-loop-set
invariant-loop-set l = l.n ≡ length (members l.set-index (touched l.roles l.table))
