-- What each of the 16 sets is asked: whether it has the role. Assumes nothing.
use Rattle.std.proofs.Common.{rules, tests, refl, ◌∙◌}
use Rattle.std.proofs.lemmas.Iterator.{YieldsList-from_range}
use Rattle.std.proofs.lemmas.Iterator.Search.{any_from_yields_List}
use Rattle.roleset.specs.Roles.{has}
use Rattle.model.specs.commands.Sets.{sets_of}
use Rattle.model.specs.commands.Users.{in_set}
use Rattle.state.specs.View.{view}
use Rattle.roles.proofs.Finding.{any-some}
use Rattle.roles.proofs.in_set.Goals as goal

pub returns : goal.returns
unfolding in_set
returns c =
    any_from_yields_List (λ n. has (sets_of c.args.kind (view c.args.state.now) n).roles c.args.r.number) _ _ _ c.any.ensures.ran (YieldsList-from_range 0 16 16 (cc) refl) (λ x b q k. search (rules, tests))
    ∙ any-some 16 _
