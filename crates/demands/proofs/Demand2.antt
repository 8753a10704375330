-- Demand 2 holds. Assumes nothing.
use mathlib.Core.Bool.{Bool, true, false}
use mathlib.Core.List.{List, [], ◌∷◌}
use mathlib.Core.Logic.{◌⊎◌, inl, inr, ◌↔◌}
use mathlib.Core.Path.{◌≡◌, refl, sym, ap, subst, ◌∙◌}
use Prim.Native.Nat.{ℕ}
use native.Mathlib.Decide.{ℕ_discrete}
use native.Mathlib.Omega.{arith}
use lib.ListN.{length}
use Rattle.roleset.specs.Bounded.{bit}
use Rattle.roleset.specs.Roles.{has}
use Rattle.roleset.proofs.BoundedLaws.{clash, never}
use Rattle.model.specs.Model.{Model}
use Rattle.model.specs.Sheet.{Refusal, Told, settle}
use Rattle.model.specs.Sound.{Sound}
use Rattle.model.specs.Step.{step}
use Rattle.model.specs.Words.{effective, permission}
use Rattle.model.specs.commands.Sessions.{permitted, looked, check}
use Rattle.sound.proofs.Sheet.{positive, ordered, settle-same}
use Rattle.sound.proofs.Words.{permitted-exact}
use Rattle.demands.specs.Demand2.{Demand2, Exactly, Obeys, Answers, refusals, results, effect, check_refusals, Checked, Granted, LookedUpTo, LookedAtAll}
use Rattle.demands.proofs.Commands.{shown}
use Rattle.demands.proofs.Exact.{exact}
use Rattle.demands.proofs.Kept.{reachable-sound}
use Rattle.demands.proofs.Looking.{effective_to, effective_met, looked_most, looked_up_to, looked_at_all, one_up_to, one_at_all, looked_none}

-- what is settled by a list in the sheet's order is told exactly so
exactly : (cases : List Refusal) (m : Model) (results : List ℕ) (after : Model) (told : Told) → ordered cases ≡ true → positive cases ≡ true → told ≡ settle cases m results after → Exactly m cases results after told
exactly cases m results after told ord pos e = subst (Exactly m cases results after) (sym e) (exact cases m results after ord pos)

-- ---- the commands

commands : Obeys step
commands m p c list = exactly (refusals m c list) m (results m c list) (effect m c list) (step m c list) (shown m c list).ordered (shown m c list).positive ((shown m c list).listed (reachable-sound p))

-- ---- access

first-result : List ℕ → ℕ
first-result [] = 0
first-result (a ∷ rest) = a

second-result : List ℕ → ℕ
second-result [] = 0
second-result (a ∷ rest) = first-result rest

bit-yes : (b : Bool) (n k : ℕ) → bit b ∷ n ∷ [] ≡ 1 ∷ k ∷ [] → b ≡ true
unfolding first-result
bit-yes true n k e = refl
bit-yes false n k e = absurd (let z : 0 ≡ 1 = ap first-result e in omega arith)

bit-no : (b : Bool) (n k : ℕ) → bit b ∷ n ∷ [] ≡ 0 ∷ k ∷ [] → b ≡ false
unfolding first-result
bit-no true n k e = absurd (let z : 1 ≡ 0 = ap first-result e in omega arith)
bit-no false n k e = refl

bit-or-not : (b : Bool) (n : ℕ) → (bit b ∷ n ∷ [] ≡ 1 ∷ n ∷ []) ⊎ (bit b ∷ n ∷ [] ≡ 0 ∷ n ∷ [])
bit-or-not true n = inl refl
bit-or-not false n = inr refl

same_second : (a b n k : ℕ) → a ∷ n ∷ [] ≡ b ∷ k ∷ [] → n ≡ k
unfolding second-result first-result
same_second a b n k e = ap second-result e

module _ (m : Model) (s : Sound m) (k op obj : ℕ) where
  abbrev both : List ℕ
  both = bit (permitted m k (permission op obj)) ∷ looked m k (permission op obj) ∷ []

  whole : Exactly m (check_refusals m k op obj) both m (check m k op obj)
  unfolding check
  whole = exactly _ m _ m (check m k op obj) refl refl refl

  allowed : permitted m k (permission op obj) ≡ true → Granted m k (permission op obj)
  allowed e = let q = (permitted-exact m k (permission op obj)).0 e in record { role = q.0; effective = effective_to m s k q.0 q.1; holds = q.2 }

  allows : Granted m k (permission op obj) → permitted m k (permission op obj) ≡ true
  allows g = (permitted-exact m k (permission op obj)).1 (g.role, effective_met m s k g.role g.effective, g.holds)

  denied : permitted m k (permission op obj) ≡ false → Granted m k (permission op obj) → ⊥
  denied e g = clash (permitted m k (permission op obj)) (allows g) e

  -- what the two results say
  module _ (z : (check m k op obj).answer ≡ 0) where
    given_both : (check m k op obj).results ≡ both
    given_both = whole.gives z

    said_yes : Granted m k (permission op obj) → (check m k op obj).results ≡ 1 ∷ looked m k (permission op obj) ∷ []
    said_yes g = given_both ∙ ap (λ (b : Bool). bit b ∷ looked m k (permission op obj) ∷ []) (allows g)

    said_no : (Granted m k (permission op obj) → ⊥) → (check m k op obj).results ≡ 0 ∷ looked m k (permission op obj) ∷ []
    said_no none = given_both ∙ ap (λ (b : Bool). bit b ∷ looked m k (permission op obj) ∷ []) (never (permitted m k (permission op obj)) (λ e. none (allowed e)))

    granted_by : (n : ℕ) → (check m k op obj).results ≡ 1 ∷ n ∷ [] → Granted m k (permission op obj)
    granted_by n e = allowed (bit-yes (permitted m k (permission op obj)) _ n (sym given_both ∙ e))

    number_by : (a n : ℕ) → (check m k op obj).results ≡ a ∷ n ∷ [] → looked m k (permission op obj) ≡ n
    number_by a n e = same_second _ a _ n (sym given_both ∙ e)

    on_yes : (n : ℕ) → ((check m k op obj).results ≡ 1 ∷ n ∷ []) ↔ LookedUpTo m k (permission op obj) n
    on_yes n = (
      (λ e. subst (LookedUpTo m k (permission op obj)) (number_by 1 n e) (looked_up_to m s k (permission op obj) (granted_by n e))),
      λ x. said_yes (record { role = x.role; effective = x.holder.effective; holds = x.holder.holds }) ∙ ap (λ (j : ℕ). 1 ∷ j ∷ []) (one_up_to m s k (permission op obj) x),
    )

    on_no : (n : ℕ) → ((check m k op obj).results ≡ 0 ∷ n ∷ []) ↔ LookedAtAll m k (permission op obj) n
    on_no n = (
      (λ e. subst (LookedAtAll m k (permission op obj)) (number_by 0 n e) (looked_at_all m s k (permission op obj) (denied (bit-no (permitted m k (permission op obj)) _ n (sym given_both ∙ e))))),
      λ x. said_no x.none ∙ ap (λ (j : ℕ). 0 ∷ j ∷ []) (one_at_all m s k (permission op obj) x),
    )

  -- results are given only where the answer is 0
  answered_by : (a n : ℕ) → (check m k op obj).results ≡ a ∷ n ∷ [] → (check m k op obj).answer ≡ 0
  answered_by a n e = go (ℕ_discrete (check m k op obj).answer 0)
    where
      go : Dec ((check m k op obj).answer ≡ 0) → (check m k op obj).answer ≡ 0
      go (yes z) = z
      go (no z) = absurd (let y : 0 ≡ 2 = ap length (sym (whole.silent z) ∙ e) in omega arith)

  accessed : Checked m k op obj (check m k op obj)
  unfolding check
  accessed =
      record {
        refused = whole.refused;
        done = whole.done;
        answers = λ z. (looked m k (permission op obj), subst (λ (l : List ℕ). (l ≡ 1 ∷ looked m k (permission op obj) ∷ []) ⊎ (l ≡ 0 ∷ looked m k (permission op obj) ∷ [])) (sym (given_both z)) (bit-or-not (permitted m k (permission op obj)) (looked m k (permission op obj))));
        exactly = λ z. ((λ x. granted_by z x.0 x.1), λ g. (looked m k (permission op obj), said_yes z g));
        looked_yes = on_yes;
        looked_no = on_no;
        at_most = λ a n e. omega (arith, number_by (answered_by a n e) a n e, looked_most m s k (permission op obj));
        none_active = λ a n e. subst (λ (j : ℕ). (j ≡ 0) ↔ ((r : ℕ) → has (m.sessions k).active r ≡ false)) (number_by (answered_by a n e) a n e) (looked_none m s k (permission op obj));
        silent = whole.silent;
        unchanged = settle-same _ m _;
      }

access : Answers check
access m p = accessed m (reachable-sound p)

-- each command changes exactly what the paper says and is refused exactly in the listed cases; access is granted exactly when an effective role
-- holds the permission
pub demand2 : Demand2
demand2 = record { commands = commands; access = access }
