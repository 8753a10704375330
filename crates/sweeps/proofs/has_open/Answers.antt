-- One session after the other is asked. Assumes nothing.
use borrow.Author.Rules.{rules}
use borrow.Author.Tests.{tests}
use mathlib.Core.Path.{refl, ◌∙◌}
use Rattle.std.proofs.lemmas.Iterator.{YieldsList-from_range}
use Rattle.std.proofs.lemmas.Iterator.Search.{any_from_yields_List}
use Rattle.model.specs.commands.Users.{open_of, has_open}
use Rattle.separation.proofs.Somes.{any_range}
use Rattle.state.specs.View.{view}
use Rattle.sweeps.proofs.has_open.Goals as goal

pub returns : goal.returns
unfolding has_open
returns c =
    any_from_yields_List (λ s. open_of c.args.u.number ((view c.args.state.now).sessions s)) _ _ _ c.any.ensures.ran (YieldsList-from_range 0 64 64 refl refl) (λ x b q k. search (rules, tests))
    ∙ any_range _ 64
