-- The policy after the first ten lines of the example: what the other proofs look at, computed once. Assumes nothing.
use mathlib.Core.Bool.{Bool, true, false}
use mathlib.Core.List.{List, [], ◌∷◌}
use mathlib.Core.Path.{◌≡◌, refl, ap}
use Prim.Native.Nat.{ℕ}
use native.Mathlib.Omega.{arith}
use lib.ListN.{get_or}
use Rattle.roleset.specs.Bounded.{bit, some, every, tally, members}
use Rattle.roleset.specs.Roles.{has, pack, those, with, without, union, common, minus, subset, is_empty, count}
use Rattle.roleset.proofs.BoundedLaws.{some-intro}
use Rattle.hierarchy.specs.Walks.{juniors_of, walk, reach}
use Rattle.model.specs.Lists.{rising, some_from, listed, set_of, up_to_first}
use Rattle.model.specs.Model.{Model, empty, put}
use Rattle.model.specs.Questions.{ask, session_roles}
use Rattle.model.specs.Sheet.{verdict, settle}
use Rattle.model.specs.Step.{step}
use Rattle.model.specs.Words.{permission, breaks, breaks_some, static_broken, dynamic_broken, sessions_open}
use Rattle.model.specs.commands.Users.{user, role}
use Rattle.model.specs.commands.Assigning.{assign, assigned, grant, granted}
use Rattle.model.specs.commands.Inheriting.{inherit, lined}
use Rattle.model.specs.commands.Sets.{broken, make_set}
use Rattle.model.specs.commands.Sessions.{free_from, opened, session, permitted, looked, check}
use Rattle.model.specs.declared.Kind.TheVariants.{Static}
use Rattle.benchsheet.specs.Lines.{Answers, answers, afterwards, at_the_bench}
use Rattle.demands.specs.Demand2.{would_break}
use Rattle.misreadings.specs.Readings.{broken_by_assigned, access_at_the_bench, InheritedGrant}

-- what is looked at in a policy
pub record Looked (m : Model) : Type 0 where
  -- session 0 is open with role 2 active, roles 0 and 2 exist, the line 2 over 0 stands, static set 0 is there
  pub live : (m.sessions 0).live ≡ true
  pub active : has (m.sessions 0).active 2 ≡ true
  pub exists : has m.roles 0 ≡ true
  pub lower : has (m.juniors 2) 0 ≡ true
  pub senior : has m.roles 2 ≡ true
  pub separated : (m.ssd 0).there ≡ true
  -- role 0 holds operation 4 on object 30 and role 2 does not, and no role holds 4 on 31
  pub holds : has (m.holders (permission 4 30)) 0 ≡ true
  pub indirect : has (m.holders (permission 4 30)) 2 ≡ false
  pub unheld : m.holders (permission 4 31) ≡ 0
  -- the static rule with a line 2 over 1, asked of assigned roles only and as the paper says
  pub passed : broken_by_assigned (lined m 2 1) ≡ false
  pub refused : would_break Static (lined m 2 1) ≡ true

-- all of it as numbers, and the answers for access: one computation. It is user 7 for whom the rule is broken, so the others are not asked
unfoldable look : Model → Answers
look m = (bit (m.sessions 0).live ∷ bit (has (m.sessions 0).active 2) ∷ bit (has m.roles 0) ∷ bit (has (m.juniors 2) 0) ∷ bit (has (m.holders (permission 4 30)) 0) ∷ m.holders (permission 4 31) ∷ bit (broken_by_assigned (lined m 2 1)) ∷ bit (static_broken (lined m 2 1) 7) ∷ bit (has m.roles 2) ∷ bit (m.ssd 0).there ∷ bit (has (m.holders (permission 4 30)) 2) ∷ []) ∷ answers m access_at_the_bench

computed : look at_the_bench ≡ (1 ∷ 1 ∷ 1 ∷ 1 ∷ 1 ∷ 0 ∷ 0 ∷ 1 ∷ 1 ∷ 1 ∷ 0 ∷ []) ∷ (0 ∷ 2 ∷ []) ∷ (0 ∷ 1 ∷ 1 ∷ []) ∷ (0 ∷ 0 ∷ 2 ∷ []) ∷ []
unfolding some every tally members has pack those with without union common minus subset is_empty count juniors_of walk reach rising some_from listed set_of up_to_first empty put ask session_roles verdict settle step breaks breaks_some static_broken dynamic_broken sessions_open user role assign assigned grant granted inherit lined broken make_set free_from opened session permitted looked check answers afterwards at_the_bench broken_by_assigned look
computed = refl

first : Answers → List ℕ
first [] = []
first (a ∷ rest) = a

later : Answers → Answers
later [] = []
later (a ∷ rest) = rest

bit-yes : (b : Bool) → bit b ≡ 1 → b ≡ true
bit-yes true e = refl
bit-yes false e = absurd (omega arith)

bit-no : (b : Bool) → bit b ≡ 0 → b ≡ false
bit-no true e = absurd (omega arith)
bit-no false e = refl

pub bench : Looked at_the_bench
unfolding look first
bench = record { live = bit-yes _ (at 0); active = bit-yes _ (at 1); exists = bit-yes _ (at 2); lower = bit-yes _ (at 3); senior = bit-yes _ (at 8); separated = bit-yes _ (at 9); holds = bit-yes _ (at 4); indirect = bit-no _ (at 10); unheld = at 5; passed = bit-no _ (at 6); refused = some-intro 256 (static_broken (lined at_the_bench 2 1)) 7 (omega arith) (bit-yes _ (at 7)) }
  where
    at : (k : ℕ) → get_or (first (look at_the_bench)) k 0 ≡ get_or (1 ∷ 1 ∷ 1 ∷ 1 ∷ 1 ∷ 0 ∷ 0 ∷ 1 ∷ 1 ∷ 1 ∷ 0 ∷ []) k 0
    at k = ap (λ (x : Answers). get_or (first x) k 0) computed

-- at the bench access is granted through an inherited role
pub inherited-grant : InheritedGrant
unfolding look later
inherited-grant = ap later computed
