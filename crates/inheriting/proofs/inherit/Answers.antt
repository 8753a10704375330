-- A circle is looked for in all that the junior inherits, and both rules are asked with the new line drawn. Assumes nothing.
use Rattle.std.proofs.Common.{◌≡◌, ◌<◌, sym, ◌∙◌, arith}
use borrow.Author.Tests.{leb-false}
use Rattle.roleset.specs.Bounded.{some}
use Rattle.roleset.specs.Roles.{with}
use Rattle.model.specs.Sheet.{verdict, settle, refused}
use Rattle.model.specs.Words.{static_broken, dynamic_broken}
use Rattle.model.specs.commands.Inheriting.{inherit, lined, would_circle}
use Rattle.model.specs.declared.Kind.TheVariants.{Static, Dynamic}
use Rattle.state.specs.View.{view, told}
use Rattle.inheriting.proofs.Laws.{inheriting, asks_lined}
use Rattle.inheriting.proofs.inherit.Goals as goal
use Rattle.inheriting.proofs.inherit.Goals.{After-ask_rule, After-ask_rule-2}

pub returns-then-has-2 : goal.returns-then-has-2
unfolding told inherit settle verdict
returns-then-has-2 c =
    let circle : would_circle (view c.args.state.now) c.args.senior.number c.args.junior.number ≡ c.has-2.result = cc in
    grind (arith, inheriting)

static : (c : After-ask_rule) → some 256 (static_broken (lined (view c.args.state.now) c.args.senior.number c.args.junior.number)) ≡ c.ask_rule.result
static c =
    let place : c.args.senior.number < 64 = grind (arith, leb-false) in
    let new : c.with-more.result ≡ with ((view c.args.state.now).juniors c.args.senior.number) c.args.junior.number = cc in
    sym (c.ask_rule.ensures ∙ asks_lined _ _ c.args.junior.number place _ new Static _ c.juniors_table-juniors.ensures)

dynamic : (c : After-ask_rule-2) → some 64 (dynamic_broken (lined (view c.args.state.now) c.args.senior.number c.args.junior.number)) ≡ c.ask_rule-2.result
dynamic c =
    let place : c.args.senior.number < 64 = grind (arith, leb-false) in
    let new : c.with-more.result ≡ with ((view c.args.state.now).juniors c.args.senior.number) c.args.junior.number = cc in
    sym (c.ask_rule-2.ensures ∙ asks_lined _ _ c.args.junior.number place _ new Dynamic _ c.juniors_table-juniors.ensures)

pub returns-then-ask_rule : goal.returns-then-ask_rule
unfolding told inherit settle verdict
returns-then-ask_rule c =
    let s = static (goal.at.returns-then-ask_rule c).After-ask_rule in
    grind (arith, inheriting)

pub returns-then-ask_rule-2 : goal.returns-then-ask_rule-2
unfolding told inherit settle verdict
returns-then-ask_rule-2 c =
    let s = static (goal.at.returns-then-ask_rule-2 c).After-ask_rule in
    let d = dynamic (goal.at.returns-then-ask_rule-2 c).After-ask_rule-2 in
    let told_11 : refused 11 (view c.args.state.now) ≡ inherit (view c.args.state.now) c.args.senior.number c.args.junior.number = grind (arith, inheriting) in
    told_11

pub returns-then-standing-ge512 : goal.returns-then-standing-ge512
unfolding told inherit settle verdict
returns-then-standing-ge512 c =
    let s = static (goal.at.returns-then-standing-ge512 c).After-ask_rule in
    let d = dynamic (goal.at.returns-then-standing-ge512 c).After-ask_rule-2 in
    grind (arith, inheriting)

pub returns : goal.returns
unfolding told inherit settle verdict
returns c =
    let s = static (goal.at.returns c).After-ask_rule in
    let d = dynamic (goal.at.returns c).After-ask_rule-2 in
    grind (arith, inheriting)
