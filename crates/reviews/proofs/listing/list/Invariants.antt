-- The list of the places passed stands at the front of the buffer, and the rest is as before. Assumes nothing.
use Rattle.reviews.specs.Reviewing.{touched}
use Rattle.reviews.proofs.Writing.{Written}
use Rattle.reviews.proofs.listing.list.Given as goal

abbrev pub invariant-loop-k : goal.invariant-loop-k
invariant-loop-k l = Written (touched l.roles l.table) l.initial.out l.k l.n l.out
