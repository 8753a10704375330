-- Having no role, having all, and else one by one, by the table of the kind. Assumes nothing.
use borrow.Author.Rules.{rules}
use borrow.Author.Tests.{tests, not-true}
use mathlib.Core.Bool.{◌&&◌, not}
use mathlib.Core.Path.{sym, ap, ◌∙◌}
use lib.Dec.{eqb}
use Rattle.std.proofs.lemmas.Iterator.{YieldsList-from_slice}
use Rattle.std.proofs.lemmas.Iterator.Search.{any_from_yields_List}
use Rattle.hierarchy.specs.Lines.{table_of}
use Rattle.hierarchy.specs.Walks.{reach}
use Rattle.model.specs.Words.{breaks_some}
use Rattle.model.specs.commands.Sets.{sets_of, asked_of}
use Rattle.separation.proofs.Breaking.{some-any, some_grows}
use Rattle.state.specs.View.{view}
use Rattle.sweeps.specs.Sweeps.{own_roles}
use Rattle.sweeps.proofs.Asking.{asks_none, asks_any, asked-some, all_held, asked-any}
use Rattle.sweeps.proofs.ask_rule.Goals as goal

pub returns-then-breaks_some : goal.returns-then-breaks_some
returns-then-breaks_some c =
    let m = view c.args.state.now in
    asks_any (breaks_some (sets_of c.args.kind m)) (table_of c.args.juniors.now) (own_roles c.args.kind m) (asked_of c.args.kind) (asked-some c.args.kind) (λ held. some-any _ held (sym c.breaks_some.ensures ∙ c.if-breaks_some.true))

pub returns-then-not-breaks_some : goal.returns-then-not-breaks_some
returns-then-not-breaks_some c =
    let m = view c.args.state.now in
    asks_none (breaks_some (sets_of c.args.kind m)) (table_of c.args.juniors.now) (own_roles c.args.kind m) (asked_of c.args.kind) _ (λ held e. some_grows held _ (all_held held) _ e) (sym c.breaks_some-2.ensures ∙ not-true _ (ap not c.if-not-breaks_some.true))

pub returns : goal.returns
returns c =
    let m = view c.args.state.now in
    let lines = table_of c.args.juniors.now in
    let rule = breaks_some (sets_of c.args.kind m) in
    asked-any rule lines (own_roles c.args.kind m) (asked_of c.args.kind) _ _ c.own_roles.ensures (sym c.breaks_some.ensures ∙ c.if-breaks_some.false)
    (any_from_yields_List (λ r. not (eqb r 0) && rule (reach lines r)) _ _ _ c.any.ensures.ran (YieldsList-from_slice c.own_roles.result.now cc) (λ x b q k. (search rules, search (rules, tests))))
