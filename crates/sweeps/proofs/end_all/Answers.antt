-- The loop's invariant: the sessions passed are ended if they are the user's, and all else is as before. Assumes nothing.
use mathlib.Core.Path.{◌≡◌, sym, ap, ◌∙◌}
use native.Mathlib.Omega.{arith}
use Rattle.model.specs.commands.Users.{open_of, ended_of}
use Rattle.state.specs.View.{view}
use Rattle.state.proofs.Stored.{in-range}
use Rattle.sweeps.proofs.Shedding.{view-past}
use Rattle.sweeps.proofs.SweepSteps.{ended_start, ended_one, ended_none, ended_all, end-own, end-other}
use Rattle.sweeps.proofs.end_all.Goals as goal
use Rattle.sweeps.proofs.end_all.Goals.{then-open_of, else-open_of}
use Rattle.sweeps.proofs.end_all.Goals.{After-session_at}

pub loop-k-init : goal.loop-k-init
loop-k-init c = ended_start _ _

-- the session that the turn is about, as it was at the start
found : (c : After-session_at) → c.session_at.result ≡ (view c.args.state.now).sessions c.loop-k.k
found c = c.session_at.ensures ∙ c.loop-k.invariant.left _ (omega arith)

pub loop-k-preserved : goal.loop-k-preserved
loop-k-preserved c =
    let m = view c.args.state.now in
    let u = c.args.u.number in
    let k = c.loop-k.k in
    let session = c.session_at.result in
    let now = found (goal.at.loop-k-preserved c).After-session_at in
    let asked : open_of u session ≡ c.open_of.result = sym c.open_of.ensures in
    elim c.if-open_of.branch [
      | then-open_of w ↦ ended_one m u k (view c.loop-k.state) (view c.if-open_of.state) c.loop-k.invariant (ap view w.state-is ∙ w.close_session.ensures ∙ in-range 64 k _ _ (omega arith)) (end-own u session (asked ∙ w.if-open_of.true) ∙ ap (ended_of u) now)
      | else-open_of w ↦ rw w.state-is (ended_none m u k (view c.loop-k.state) c.loop-k.invariant (rw now at (end-other u session (asked ∙ w.if-open_of.false))))
    ]

pub returns : goal.returns
returns c =
    let whole : c.loop-k.k ≡ 64 = omega arith in
    ended_all _ _ 64 (view c.loop-k.state) (view-past c.args.state.now) (rw whole at c.loop-k.invariant)
