-- What the code hands back can be reached. Assumes nothing.
use mathlib.Core.List.{List, [], ◌∷◌}
use mathlib.Core.Logic.{inl, inr}
use mathlib.Core.Path.{◌≡◌, sym, ap, subst}
use Prim.Native.Nat.{ℕ}
use Rattle.numbers.specs.Answers.{Answer}
use Rattle.model.specs.Model.{Model}
use Rattle.model.specs.Sheet.{Told}
use Rattle.model.specs.Step as steps
use Rattle.model.specs.declared.Command.{Command}
use Rattle.model.specs.declared.Command.TheVariants as commands
use Rattle.state.specs.View.{view, told}
use Rattle.numbers.specs.declared.Session.{Session}
use Rattle.engine.specs.Stepping.{opened}
use Rattle.unique.proofs.Unique.{leaves}
use Rattle.textlines.specs.Parts.{part_at}
use Rattle.script.specs.Script.{line_feed, obey}
use Rattle.script.specs.declared.Progress.{Progress}
use Rattle.clibrary.specs.Calls.{Obeys}
use Rattle.program.specs.Printing.{Stage, stage_of, over, total, too_long, line, piece}
use Rattle.transcripts.proofs.ScriptLines.{script-lines}
use Rattle.demands.specs.Reachable.{Reachable, start, after, loaded}
use Rattle.demands.proofs.Conditions.{conditions}
use Rattle.demands.proofs.Demand3.{demand3}
use Rattle.unique.specs.Handed.{Handed, Owned, empty}
-- ---- written by tests/unique.py: their names
use Rattle.unique.specs.Handed.{user, end_all, nouser, role, norole, assign, deassign, grant, revoke, inherit, disinherit, make_set, drop_set, add_member, drop_member, set_cardinality, session, activate, drop, end, step, load, answer_line, turn, begin, next, marruskil_start, marruskil_obey, marruskil_load}

-- ---- end of what tests/unique.py writes

-- numbers that tell what the command tells hold a reachable policy
stepped : (m : Model) → Reachable m → (c : Command) (list : List ℕ) (a : Answer) (l : List ℕ) → told a l ≡ steps.step m c list → Reachable (view l)
unfolding told
stepped m r c list a l e = subst Reachable (sym (ap (λ (t : Told). t.after) e)) (after r c list)

-- and so does what a call of the program leaves
piece-reachable : (s : Stage) (script l : List ℕ) (p : Progress) → Reachable (view l) → Reachable (piece s script l p).after
piece-reachable over script l p r = r
piece-reachable total script l p r = r
piece-reachable too_long script l p r = r
piece-reachable line script l p r = script-lines.reachable _ (part_at line_feed script p.at) r

-- and what a C program's line leaves, obeyed or not
obeyed-reachable : (m : Model) (text out put : List ℕ) (n : ℕ) (l : List ℕ) → Reachable m → Obeys m (obey m text) out put n l → Reachable (view l)
obeyed-reachable m text out put n l r (inl p) = subst Reachable (sym p.unchanged) r
obeyed-reachable m text out put n l r (inr p) = subst Reachable (sym p.state) (script-lines.reachable m text r)

pub reachable : {l : List ℕ} → Handed l → Reachable (view l)
unfolding steps.step told
reachable (empty c) = subst Reachable (sym c.met) start
-- ---- written by tests/unique.py: the commands
reachable (user c h) = stepped _ (reachable h) (commands.AddUser c.given.1.0) [] c.result _ c.met
reachable (end_all c h) = stepped _ (reachable h) (commands.EndAll c.given.1.0) [] c.result _ c.met
reachable (nouser c h) = stepped _ (reachable h) (commands.NoUser c.given.1.0) [] c.result _ c.met
reachable (role c h) = stepped _ (reachable h) (commands.AddRole c.given.1.0) [] c.result _ c.met
reachable (norole c h) = stepped _ (reachable h) (commands.NoRole c.given.1.0) [] c.result _ c.met
reachable (assign c h) = stepped _ (reachable h) (commands.Assign c.given.1.0 c.given.1.1.0) [] c.result _ c.met
reachable (deassign c h) = stepped _ (reachable h) (commands.Deassign c.given.1.0 c.given.1.1.0) [] c.result _ c.met
reachable (grant c h) = stepped _ (reachable h) (commands.Grant c.given.1.0 c.given.1.1.0 c.given.1.1.1.0) [] c.result _ c.met
reachable (revoke c h) = stepped _ (reachable h) (commands.Revoke c.given.1.0 c.given.1.1.0 c.given.1.1.1.0) [] c.result _ c.met
reachable (inherit c h) = stepped _ (reachable h) (commands.Inherit c.given.1.0 c.given.1.1.0) [] c.result _ c.met
reachable (disinherit c h) = stepped _ (reachable h) (commands.Disinherit c.given.1.0 c.given.1.1.0) [] c.result _ c.met
reachable (make_set c h) = stepped _ (reachable h) (commands.MakeSet c.given.1.0 c.given.1.1.0 c.given.1.1.1.0) c.given.1.1.1.1.0.now c.result _ c.met
reachable (drop_set c h) = stepped _ (reachable h) (commands.DropSet c.given.1.0 c.given.1.1.0) [] c.result _ c.met
reachable (add_member c h) = stepped _ (reachable h) (commands.AddMember c.given.1.0 c.given.1.1.0 c.given.1.1.1.0) [] c.result _ c.met
reachable (drop_member c h) = stepped _ (reachable h) (commands.DropMember c.given.1.0 c.given.1.1.0 c.given.1.1.1.0) [] c.result _ c.met
reachable (set_cardinality c h) = stepped _ (reachable h) (commands.SetCardinality c.given.1.0 c.given.1.1.0 c.given.1.1.1.0) [] c.result _ c.met
reachable (activate c h) = stepped _ (reachable h) (commands.Activate c.given.1.0 c.given.1.1.0 c.given.1.1.1.0) [] c.result _ c.met
reachable (drop c h) = stepped _ (reachable h) (commands.DropActive c.given.1.0 c.given.1.1.0 c.given.1.1.1.0) [] c.result _ c.met
reachable (end c h) = stepped _ (reachable h) (commands.EndSession c.given.1.0 c.given.1.1.0) [] c.result _ c.met
-- ---- end of what tests/unique.py writes
reachable (session c h) = subst Reachable (sym (leaves (λ (s : Session). s.number ∷ []) c.result _ c.met)) (after (reachable h) (commands.OpenSession c.given.1.0) c.given.1.1.0.now)
reachable (step c h) = subst Reachable (sym (leaves opened c.result _ c.met)) (after (reachable h) c.given.1.0 c.given.1.1.0.now)
reachable (answer_line c h) = subst Reachable (sym c.met.state) (script-lines.reachable _ c.given.1.0.now (reachable h))
reachable (turn c h) = subst Reachable (sym c.met.state) (script-lines.reachable _ (part_at line_feed c.given.0.now c.given.1.1.0.at) (reachable h))
reachable (begin c) = subst Reachable (sym c.met.state) start
reachable (next c h) = subst Reachable (sym c.met.state) (piece-reachable (stage_of c.given.0.now c.given.1.1.0) c.given.0.now c.given.1.0.now c.given.1.1.0.progress (reachable h))
reachable (marruskil_start c) = subst Reachable (sym c.met) start
reachable (marruskil_obey c h) = obeyed-reachable _ c.given.1.0.now _ _ _ _ (reachable h) c.met
reachable (marruskil_load c h) = loaded (reachable h) c.given.1.0.now _ c.met
reachable (load c h) = loaded (reachable h) c.given.1.0.now _ c.met

-- the code's own states keep demand 3, and the refusals' conditions mean what the paper says
pub owned : Owned
owned =
    record {
      reachable = reachable;
      rules = λ {l} h. demand3.rules (view l) (reachable h);
      shape = λ {l} h. demand3.shape (view l) (reachable h);
      limits = λ {l} h. demand3.limits (view l) (reachable h);
      conditions = λ {l} h. conditions.policy (view l) (reachable h);
    }
