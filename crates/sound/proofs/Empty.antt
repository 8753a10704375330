-- The empty policy is sound. Assumes nothing.
use mathlib.Core.Bool.{false}
use mathlib.Core.Path.{◌≡◌, refl}
use Prim.Native.Nat.{ℕ}
use native.Mathlib.Omega.{arith}
use Rattle.roleset.specs.Roles.{has, count}
use Rattle.roleset.proofs.BoundedLaws.{clash, total-le}
use Rattle.roleset.proofs.Laws.{has-none, count_none}
use Rattle.hierarchy.specs.Lines.{Inherits}
use Rattle.hierarchy.specs.Lines.Inherits.{one, more}
use Rattle.model.specs.Model.{empty, absent_set, standing}
use Rattle.model.specs.Words.{breaks, static_broken, dynamic_broken, assignments, grants, lines_standing}
use Rattle.model.specs.Sound.{Sound}
use Rattle.sound.proofs.Breaking.{none-breaks}
use Rattle.sound.proofs.Carried.{existing-none, set-none, session-none}

-- Without lines nothing inherits.
no_lines : {a b : ℕ} → Inherits (λ s. 0) a b → ⊥
no_lines {b = b} (one l) = clash (has 0 b) l (has-none b)
no_lines (more {k = k} l p) = clash (has 0 k) l (has-none k)

no-entries : (n : ℕ) → 0 ≡ standing n (λ k. 0)
unfolding standing
no-entries n = omega (arith, total-le n 0 (λ k. count 0) (λ k l. rw count_none (omega arith)))

-- "starting empty": the empty policy obeys the limits and the rules, and has the right shape.
pub empty-sound : Sound empty
unfolding empty static_broken dynamic_broken assignments grants lines_standing breaks
empty-sound =
    record {
      shape =
          record {
            users = λ u e. clash false e refl;
            roles = omega arith;
            seniors = λ s j e. clash (has 0 j) e (has-none j);
            juniors = λ s. existing-none empty;
            assignees = λ u r e. clash (has 0 r) e (has-none r);
            assigned = λ u. existing-none empty;
            permissions = λ p r e. clash (has 0 r) e (has-none r);
            holders = λ p. existing-none empty;
            ssd = λ n. set-none empty n;
            dsd = λ n. set-none empty n;
            sessions = λ s. session-none empty s;
          };
      limits = record { assigned = omega (arith, no-entries 256); granted = omega (arith, no-entries 4096); lined = omega (arith, no-entries 64) };
      counted = record { assigned = no-entries 256; granted = no-entries 4096; lined = no-entries 64 };
      rules =
          record {
            acyclic = record { never = λ r p. no_lines p };
            active = λ s r e. clash (has 0 r) e (has-none r);
            static = λ u. none-breaks (λ n. absent_set) _ (λ n l. refl);
            dynamic = λ s. none-breaks (λ n. absent_set) _ (λ n l. refl);
          };
    }
