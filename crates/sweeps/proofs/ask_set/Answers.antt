-- Having no role, and else one by one, by the table of the kind. Assumes nothing.
use borrow.Author.Rules.{rules}
use borrow.Author.Tests.{tests}
use mathlib.Core.Bool.{◌&&◌, not}
use mathlib.Core.Path.{sym, ◌∙◌}
use lib.Dec.{eqb}
use Rattle.std.proofs.lemmas.Iterator.{YieldsList-from_slice}
use Rattle.std.proofs.lemmas.Iterator.Search.{any_from_yields_List}
use Rattle.hierarchy.specs.Walks.{reach}
use Rattle.model.specs.Words.{breaks}
use Rattle.model.specs.commands.Sets.{asked_of}
use Rattle.separation.proofs.Breaking.{breaks-any}
use Rattle.state.specs.View.{view}
use Rattle.sweeps.specs.Sweeps.{own_roles}
use Rattle.sweeps.proofs.Asking.{set-broken, asks_any, asked-some, asked-any}
use Rattle.sweeps.proofs.ask_set.Goals as goal

pub returns-then-breaks : goal.returns-then-breaks
returns-then-breaks c =
    let m = view c.args.state.now in
    asks_any (breaks c.args.set) m.juniors (own_roles c.args.kind m) (asked_of c.args.kind) (asked-some c.args.kind) (λ held. breaks-any _ held (sym c.breaks.ensures ∙ c.if-breaks.true))
    ∙ sym (set-broken c.args.kind m c.args.set)

pub returns : goal.returns
returns c =
    let m = view c.args.state.now in
    let rule = breaks c.args.set in
    asked-any rule m.juniors (own_roles c.args.kind m) (asked_of c.args.kind) _ _ c.own_roles.ensures (sym c.breaks.ensures ∙ c.if-breaks.false)
    (any_from_yields_List (λ r. not (eqb r 0) && rule (reach m.juniors r)) _ _ _ c.any.ensures.ran (YieldsList-from_slice c.own_roles.result.now cc) (λ x b q k. (search rules, search (rules, tests))))
    ∙ sym (set-broken c.args.kind m c.args.set)
