-- The rule of one of the sixteen is asked after the other. Assumes nothing.
use borrow.Author.Rules.{rules}
use borrow.Author.Tests.{tests}
use mathlib.Core.Path.{refl, ◌∙◌}
use Rattle.std.proofs.lemmas.Iterator.{YieldsList-from_range}
use Rattle.std.proofs.lemmas.Iterator.Search.{any_from_yields_List}
use Rattle.model.specs.Words.{breaks, breaks_some}
use Rattle.model.specs.commands.Sets.{sets_of}
use Rattle.state.specs.View.{view}
use Rattle.separation.proofs.Somes.{any_range}
use Rattle.separation.proofs.breaks_some.Goals as goal

pub returns : goal.returns
unfolding breaks_some
returns c =
    any_from_yields_List (λ n. breaks (sets_of c.args.kind (view c.args.state.now) n) c.args.held) _ _ _ c.any.ensures.ran (YieldsList-from_range 0 16 16 refl refl) (λ x b q k. (search rules, search (rules, tests)))
    ∙ any_range _ 16
