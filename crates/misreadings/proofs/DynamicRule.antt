-- Document 001's hole by computation; that no engine that obeys demand 2 has it, by the conditions of 11. Assumes nothing.
use mathlib.Core.Bool.{true, false}
use mathlib.Core.List.Memᴰ
use mathlib.Core.List.{List, [], ◌∷◌, Memᴰ}
use mathlib.Core.Logic.{inr}
use mathlib.Core.Path.{◌≡◌, refl}
use Prim.Native.Nat.{ℕ, ◌≤◌}
use native.Mathlib.Omega.{arith}
use Rattle.roleset.specs.Bounded.{some, every, tally, members}
use Rattle.roleset.specs.Roles.{has, pack, those, with, without, union, common, minus, subset, is_empty, count}
use Rattle.roleset.proofs.BoundedLaws.{clash}
use Rattle.hierarchy.specs.Lines.{one}
use Rattle.hierarchy.specs.Walks.{juniors_of, walk, reach}
use Rattle.model.specs.Lists.{rising, some_from, listed, set_of, up_to_first}
use Rattle.model.specs.Model.{Model, empty, put}
use Rattle.model.specs.Questions.{ask}
use Rattle.model.specs.Sheet.{verdict, settle}
use Rattle.model.specs.Step.{step}
use Rattle.model.specs.Words.{breaks, breaks_some, static_broken, dynamic_broken, sessions_open}
use Rattle.model.specs.commands.Users.{user, role}
use Rattle.model.specs.commands.Assigning.{assign, assigned, grant, granted}
use Rattle.model.specs.commands.Inheriting.{inherit, lined}
use Rattle.model.specs.commands.Sets.{broken, make_set}
use Rattle.model.specs.commands.Sessions.{free_from, opened, session, active_set, activate, drop, permitted, looked, check}
use Rattle.model.specs.declared.Command.{Command}
use Rattle.model.specs.declared.Command.TheVariants.{NoRole, Assign, Deassign, Disinherit, DropActive, EndSession, EndAll}
use Rattle.benchsheet.specs.Lines.{answers, afterwards}
use Rattle.demands.specs.Authorised.{Effective}
use Rattle.demands.specs.Demand2.{Obeys, FirstToApply, place, refusals}
use Rattle.demands.specs.Many.{none, more}
use Rattle.demands.specs.Reachable.{Reachable}
use Rattle.demands.proofs.Cases.{asked, applies-asked}
use Rattle.demands.proofs.Commands.{shown}
use Rattle.demands.proofs.Conditions.{conditions}
use Rattle.misreadings.specs.DynamicRule.{the_students, both_active, broken_by_active, both_open, Hole, InAnothersSession, AsksEffective, NeverEleven, DynamicShutOut}
use Rattle.misreadings.specs.ShutOut.{Engine}

-- ---- the student's session

hole : Hole
unfolding some every tally members has pack those with union common minus subset is_empty count juniors_of walk reach rising some_from listed set_of up_to_first empty put ask verdict settle step breaks breaks_some static_broken dynamic_broken sessions_open user role assign assigned grant granted inherit lined broken make_set free_from opened session active_set activate permitted looked check answers afterwards the_students both_active broken_by_active
hole = record { passed = refl; together = refl; broken = record { who = 0; name = 0; there = refl; many = record { list = 0 ∷ 1 ∷ []; different = more not_there (more Memᴰ.not-nil none); long = refl; each = each } }; refused = refl }
  where
    not_there : Memᴰ {A = ℕ} 0 (1 ∷ []) → ⊥
    not_there (Memᴰ.head e) = omega arith
    not_there (Memᴰ.tail x) = Memᴰ.not-nil x

    each : (x : ℕ) → Memᴰ x (0 ∷ 1 ∷ []) → (has (both_active.dsd 0).roles x ≡ true) × Effective both_active 0 x
    each x (Memᴰ.head e) = rw e (refl, record { exists = refl; through = inr (2, refl, one refl) })
    each x (Memᴰ.tail (Memᴰ.head e)) = rw e (refl, record { exists = refl; through = inr (3, refl, one refl) })
    each x (Memᴰ.tail (Memᴰ.tail y)) = absurd (Memᴰ.not-nil y)

-- ---- a line that breaks the rule in another's session

another : InAnothersSession
unfolding some every tally members has pack those with without union common minus subset is_empty count juniors_of walk reach rising some_from listed set_of empty put ask verdict settle step breaks breaks_some static_broken dynamic_broken sessions_open user role assign assigned inherit lined broken make_set free_from opened session active_set drop answers afterwards both_open
another = record { before = refl; first = refl; second = refl; refused = refl }

-- ---- engines

module _ (engine : Engine) (f : Obeys engine) (m : Model) (p : Reachable m) where
  asks : (c : Command) (list : List ℕ) → AsksEffective engine m c list
  asks c list =
      record {
        forgets_none = λ e b. (f m p c list).done.0 e 11 (((conditions.policy m p).dynamic c list (λ k a. absurd ((f m p c list).done.0 e k a))).1 b);
        only_then = λ e. let n = first 11 (λ z. omega arith) e in ((conditions.policy m p).dynamic c list n.first).0 n.applies;
        before_12 = λ e b. let n = first 12 (λ z. omega arith) e in let late = n.first 11 (((conditions.policy m p).dynamic c list (λ k a. eleven (place k) (n.first k a))).1 b) in omega arith;
        after_10 = λ e b. let n = first 11 (λ z. omega arith) e in let late = n.first 10 (((conditions.policy m p).static c list (λ k a. ten (place k) (n.first k a))).1 b) in omega arith;
      }
    where
      eleven : (a : ℕ) → 12 ≤ a → 11 ≤ a
      eleven a h = omega arith

      ten : (a : ℕ) → 11 ≤ a → 10 ≤ a
      ten a h = omega arith

      first : (n : ℕ) → (n ≡ 0 → ⊥) → (engine m c list).answer ≡ n → FirstToApply (refusals m c list) n
      first n z e = ((f m p c list).refused n z).0 e

  -- a number that a command does not list is not answered
  unlisted : (c : Command) (list : List ℕ) → asked 11 (refusals m c list) ≡ false → (engine m c list).answer ≡ 11 → ⊥
  unlisted c list off e = clash (asked 11 (refusals m c list)) (applies-asked 11 (refusals m c list) (shown m c list).ordered (((f m p c list).refused 11 (λ z. omega arith)).0 e).applies) off

  never : (list : List ℕ) → NeverEleven engine m list
  unfolding refusals
  never list =
      record {
        assign = λ v x. unlisted (Assign v x) list refl;
        deassign = λ v x. unlisted (Deassign v x) list refl;
        disinherit = λ a b. unlisted (Disinherit a b) list refl;
        norole = λ x. unlisted (NoRole x) list refl;
        drop = λ v k x. unlisted (DropActive v k x) list refl;
        end = λ v k. unlisted (EndSession v k) list refl;
        end_all = λ v. unlisted (EndAll v) list refl;
      }

-- the hole, and that demand 2 shuts it out
pub dynamic-shut-out : DynamicShutOut
dynamic-shut-out = record { hole = hole; another = another; asks = asks; never = never }
