-- Demand 1 holds. Assumes nothing.
use mathlib.Core.List.{List, []}
use mathlib.Core.Logic.{inl, inr}
use mathlib.Core.Path.{refl}
use Prim.Native.Nat.{ℕ}
use Rattle.numbers.specs.Answers.{with_number}
use Rattle.std.proofs.Common.{Err}
use Rattle.numbers.specs.declared.Refusal.TheVariants.{NotOfForm}
use Rattle.model.specs.Model.{Model}
use Rattle.model.specs.Sheet.{Told}
use Rattle.model.proofs.Asking.{asked-same}
use Rattle.policyform.specs.Promises.{Loads}
use Rattle.policyform.specs.Rules.{rules_broken}
use Rattle.demands.specs.Demand1.{Demand1, Harmless}
use Rattle.demands.proofs.Commands as commands
use Rattle.demands.proofs.Questions as questions
use Rattle.demands.proofs.Settled.{numbered, settled-harmless}

-- whatever a load tells is harmless: of the form, it is settled; not of the form, it is 14
load-harmless : (m : Model) (bytes : List ℕ) (told : Told) → Loads m bytes told → Harmless m told
unfolding rules_broken numbered with_number
load-harmless m bytes told (inl h) = rw h.tells (record { unchanged = λ n. refl; silent = λ n. refl; on_sheet = (Err NotOfForm, refl) })
load-harmless m bytes told (inr h) = rw h.tells (settled-harmless (rules_broken h.model) m [] h.model refl)

-- after any answer but 0 the policy, the sessions and the results are what they were: all commands and all questions
pub demand1 : Demand1
demand1 = record { commands = λ m c list. (commands.shown m c list).harmless; questions = λ m room q. (questions.shown m room q).harmless; loads = load-harmless; asking = asked-same }
