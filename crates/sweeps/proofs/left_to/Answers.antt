-- One session, live or closed; beyond the table its owner has no roles. Assumes nothing.
use borrow.Author.Rules.{rules}
use borrow.Author.Tests.{not-true, not-false}
use mathlib.Core.Path.{◌≡◌, sym, ap, ◌∙◌}
use native.Mathlib.Omega.{arith}
use Prim.Native.Nat.{ℕ}
use Rattle.hierarchy.specs.Lines.{table_of}
use Rattle.hierarchy.specs.Walks.{reach}
use Rattle.state.specs.View.{part}
use Rattle.state.proofs.Slots.{whole}
use Rattle.sweeps.proofs.SweepSteps.{keeps_live, keeps_dead}
use Rattle.sweeps.proofs.left_to.Goals as goal

pub returns-then-not-session : goal.returns-then-not-session
returns-then-not-session c = keeps_dead _ _ c.args.session (not-true _ c.if-not-session.true)

pub returns : goal.returns
returns c =
    let args = c.args in
    let assigned = args.assigned.now in
    let held : c.unwrap_or-held.result ≡ table_of assigned args.session.owner = search rules in
    let owned : c.unwrap_or-held.result ≡ part assigned 0 256 args.session.owner = held ∙ sym (ap (λ (f : ℕ → ℕ). f args.session.owner) (whole assigned 256 (omega arith))) in
    keeps_live (table_of args.juniors.now) (part assigned 0 256) args.session c.reach-authorised.result _ (not-false _ c.if-not-session.false) (c.reach-authorised.ensures.is ∙ ap (reach (table_of args.juniors.now)) owned) c.common.ensures.is
