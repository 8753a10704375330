-- An engine that obeys demand 2 tells what the model's commands tell, and these delete a user in two moves. Assumes nothing.
use mathlib.Core.Bool.{true, false}
use mathlib.Core.List.{List, []}
use mathlib.Core.Path.{◌≡◌, sym, ap, ◌∙◌}
use Prim.Native.Nat.{ℕ}
use native.Mathlib.Omega.{arith}
use Rattle.roleset.proofs.BoundedLaws.{clash}
use Rattle.numbers.specs.declared.User.{User}
use Rattle.model.specs.Model.{Model, Session}
use Rattle.model.specs.Sheet.{Told}
use Rattle.model.specs.Step.{step}
use Rattle.model.specs.declared.Command.TheVariants.{NoUser, EndAll}
use Rattle.demands.specs.Demand2.{Obeys, OpenOf, has_open, refusals}
use Rattle.demands.specs.Reachable.{Reachable}
use Rattle.demands.proofs.Cases.{applies-asked}
use Rattle.demands.proofs.Commands.{shown}
use Rattle.demands.proofs.Conditions.{conditions}
use Rattle.demands.proofs.Demand2.{demand2}
use Rattle.demands.proofs.TwoMoves.{two-moves}
use Rattle.misreadings.specs.ShutOut.{Engine}
use Rattle.misreadings.specs.Deleting.{Deletes, DeletingShutOut}
use Rattle.misreadings.proofs.ShutOut.{shut_out}

module _ (engine : Engine) (f : Obeys engine) (m : Model) (p : Reachable m) (v : User) (list : List ℕ) where
  -- what the engine tells
  deleting : engine m (NoUser v) list ≡ step m (NoUser v) []
  deleting = shut_out.one_engine engine step f demand2.commands m p (NoUser v) list ∙ (two-moves.unlisted m v list).1

  ending : engine m (EndAll v) list ≡ step m (EndAll v) []
  ending = shut_out.one_engine engine step f demand2.commands m p (EndAll v) list ∙ (two-moves.unlisted m v list).0

  -- a session that is as it was is open as it was
  as_it_was : (t : Told) (s : ℕ) → t.after.sessions s ≡ m.sessions s → (m.sessions s).live ≡ true → (t.after.sessions s).live ≡ false → ⊥
  as_it_was t s same live closed = clash (t.after.sessions s).live (ap (λ (x : Session). x.live) same ∙ live) closed

  deletes : Deletes engine m v list
  unfolding refusals
  deletes =
      record {
        ends_none = λ s live closed. as_it_was (step m (NoUser v) []) s (two-moves.untouched m v s).0 live (sym (ap (λ (t : Told). (t.after.sessions s).live) deleting) ∙ closed);
        forgets_none = λ s o z. let y : ◌≡◌ {A = ℕ} 16 0 = sym (ap (λ (t : Told). t.answer) (deleting ∙ two-moves.sixteen m p v s o)) ∙ z in omega arith;
        asks_open = λ none z. refusing none (sym (ap (λ (t : Told). t.answer) deleting) ∙ z);
        ends_own = λ s other live closed. as_it_was (step m (EndAll v) []) s (two-moves.others m v s other).0 live (sym (ap (λ (t : Told). (t.after.sessions s).live) ending) ∙ closed);
      }
    where
      refusing : ((s : ℕ) → OpenOf m v.number s → ⊥) → (step m (NoUser v) []).answer ≡ 16 → ⊥
      refusing none z =
          let applies = (((demand2.commands m p (NoUser v) []).refused 16 (λ e. omega arith)).0 z).applies in
          let found : has_open m v.number ≡ true = applies-asked 16 (refusals m (NoUser v) []) (shown m (NoUser v) []).ordered applies in
          let o = ((conditions.policy m p).opens v.number).0 found in
          none o.0 o.1

-- engines that delete a user otherwise are shut out
pub deleting-shut-out : DeletingShutOut
deleting-shut-out = deletes
