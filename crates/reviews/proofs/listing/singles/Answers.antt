-- Each place holds its role alone. Assumes nothing.
use Rattle.std.proofs.Common.{rules}
use Rattle.reviews.proofs.listing.singles.Goals as goal

pub returns : goal.returns
returns c r h = let called = c.from_fn.ensures.items.at r 0 h in search (rules, called)
