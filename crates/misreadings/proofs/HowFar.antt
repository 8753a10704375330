-- The numbers that look right, by computation; that demand 2 shuts them out, since it leaves one checker. Assumes nothing.
use mathlib.Core.Bool.{Bool, true, false, ◌||◌}
use mathlib.Core.List.{List, [], ◌∷◌}
use mathlib.Core.Path.{◌≡◌, refl, sym, ap, ◌∙◌}
use Prim.Native.Nat.{ℕ}
use native.Mathlib.Omega.{arith}
use lib.Dec.{eqb}
use lib.ListN.{length}
use Rattle.roleset.specs.Bounded.{some, every, tally, members}
use Rattle.roleset.specs.Roles.{has, pack, those, with, union, common, minus, subset, is_empty, count}
use Rattle.hierarchy.specs.Walks.{juniors_of, walk, reach}
use Rattle.model.specs.Lists.{rising, some_from, listed, set_of, up_to_first}
use Rattle.model.specs.Model.{Model, empty, put}
use Rattle.model.specs.Sheet.{Told, Refusal, ◌when◌, verdict, settle}
use Rattle.model.specs.Step.{step}
use Rattle.model.specs.Words.{permission, breaks, breaks_some, static_broken, dynamic_broken, sessions_open}
use Rattle.model.specs.commands.Users.{user, role}
use Rattle.model.specs.commands.Assigning.{assign, assigned, grant, granted}
use Rattle.model.specs.commands.Inheriting.{inherit, lined}
use Rattle.model.specs.commands.Sets.{broken}
use Rattle.model.specs.commands.Naming.{session_beyond, permission_beyond, session_missing}
use Rattle.model.specs.commands.Sessions.{free_from, opened, session, permitted, looked, check}
use Rattle.benchsheet.specs.Lines.{afterwards}
use Rattle.demands.specs.Demand2.{Answers}
use Rattle.demands.specs.Reachable.{Reachable, start}
use Rattle.demands.proofs.Demand2.{demand2}
use Rattle.misreadings.specs.HowFar.{five_effective, of_five, after_the_test, all_of_them, to_an_active_holder, inherited_only, as_the_walk_meets, to_one_that_inherits, Tells, Counts, HowFar}
use Rattle.misreadings.specs.ShutOut.{Checker}
use Rattle.misreadings.proofs.ShutOut.{afterwards-reachable, one-checker}

-- the other numbers on the policy of five effective roles
pub record Others : Type 0 where
  pub one_too_few : after_the_test of_five 0 (permission 4 30) ≡ 2
  pub all_on_yes : all_of_them of_five 0 (permission 4 30) ≡ 5
  pub active_holder : to_an_active_holder of_five 0 (permission 4 30) ≡ 4
  pub inherited_only : inherited_only of_five 0 (permission 4 30) ≡ 2
  pub walked : as_the_walk_meets of_five 0 (permission 4 30) ≡ 2
  pub inherits_it : to_one_that_inherits of_five 0 (permission 4 30) ≡ 2

others : Others
unfolding some every tally members has pack those with union common minus subset is_empty count juniors_of walk reach rising some_from listed set_of up_to_first empty put verdict settle step breaks breaks_some static_broken dynamic_broken sessions_open user role assign assigned grant granted inherit lined broken free_from opened session permitted looked check afterwards of_five after_the_test all_of_them to_an_active_holder inherited_only as_the_walk_meets to_one_that_inherits
others = record { one_too_few = refl; all_on_yes = refl; active_holder = refl; inherited_only = refl; walked = refl; inherits_it = refl }

told : Tells check
unfolding some every tally members has pack those with union common minus subset is_empty count juniors_of walk reach rising some_from listed set_of up_to_first empty put verdict settle step breaks breaks_some static_broken dynamic_broken sessions_open user role assign assigned grant granted inherit lined broken free_from opened session permitted looked check afterwards of_five
told = record { found = refl; not_found = refl; none_active = refl; not_open = refl }

-- the second result of `check`
second : List ℕ → ℕ
second [] = 0
second (a ∷ []) = 0
second (a ∷ b ∷ rest) = b

number-told : (m : Model) (s op obj said n : ℕ) → (check m s op obj).results ≡ said ∷ n ∷ [] → n ≡ looked m s (permission op obj)
unfolding check settle second
number-told m s op obj said n e = go (eqb (verdict rs) 0) refl
  where
    rs : List Refusal
    rs = 1 when (session_beyond s || permission_beyond op obj) ∷ 2 when session_missing m s ∷ []

    go : (b : Bool) → eqb (verdict rs) 0 ≡ b → n ≡ looked m s (permission op obj)
    go true q = sym (ap second (rw (q, settle) at e))
    go false q = absurd (omega (arith, ap length (rw (q, settle) at e)))

reachable : Reachable of_five
unfolding of_five
reachable = afterwards-reachable empty start five_effective

module _ (checker : Checker) (f : Answers checker) where
  same : (m : Model) → Reachable m → (s op obj : ℕ) → checker m s op obj ≡ check m s op obj
  same m p s op obj = one-checker checker check f demand2.access m p s op obj

  tells : Tells checker
  tells =
      record {
        found = same of_five reachable 0 4 30 ∙ told.found;
        not_found = same of_five reachable 0 4 31 ∙ told.not_found;
        none_active = same of_five reachable 1 4 30 ∙ told.none_active;
        not_open = same of_five reachable 2 4 30 ∙ told.not_open;
      }

  counts : Counts checker looked
  counts m p s op obj said n e = number-told m s op obj said n (ap (λ (t : Told). t.results) (sym (same m p s op obj)) ∙ e)

  -- a number that is not 3 there is not the one given
  other : (number : Model → ℕ → ℕ → ℕ) (k : ℕ) → number of_five 0 (permission 4 30) ≡ k → (k ≡ 3 → ⊥) → Counts checker number → ⊥
  other number k e wrong h = wrong (sym (h of_five reachable 0 4 30 1 3 (ap (λ (t : Told). t.results) tells.found) ∙ e))

-- demand 2 leaves one number
pub how-far : HowFar
how-far =
    record {
      tells = tells;
      right = counts;
      one_too_few = λ c f. other c f after_the_test 2 others.one_too_few (λ e. omega arith);
      all_on_yes = λ c f. other c f all_of_them 5 others.all_on_yes (λ e. omega arith);
      active_holder = λ c f. other c f to_an_active_holder 4 others.active_holder (λ e. omega arith);
      inherited_only = λ c f. other c f inherited_only 2 others.inherited_only (λ e. omega arith);
      walked = λ c f. other c f as_the_walk_meets 2 others.walked (λ e. omega arith);
      inherits_it = λ c f. other c f to_one_that_inherits 2 others.inherits_it (λ e. omega arith);
    }
