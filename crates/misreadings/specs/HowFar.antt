-- How far a check looks (request 10): other numbers that look right, and a policy on which each is another. Assumes nothing.
use Rattle.std.specs.Prelude.{not, List, [], ◌∷◌, ◌++◌, ◌≡◌, ℕ, ◌-◌, length}
use Rattle.roleset.specs.Bounded.{bit, members}
use Rattle.roleset.specs.Roles.{has, none, with, common, minus, is_empty}
use Rattle.model.specs.Lists.{up_to_first}
use Rattle.model.specs.Model.{Model, empty}
use Rattle.model.specs.Sheet.{done, refused}
use Rattle.model.specs.Words.{reached, effective, permission}
use Rattle.model.specs.commands.Sessions.{permitted, looked}
use Rattle.model.specs.declared.Command.TheVariants.{AddUser, AddRole, Assign, Grant, Inherit, OpenSession}
use Rattle.benchsheet.specs.Lines.{Line, command, afterwards, u, r}
use Rattle.demands.specs.Demand2.{Answers}
use Rattle.demands.specs.Reachable.{Reachable}
use Rattle.misreadings.specs.ShutOut.{Checker}

-- User 7 has session 0 open with roles 2 and 4. Role 2 is over 3, and 4 is over 1 and 5, so that 1 to 5 are effective. Roles 3 and 4 hold operation 4 on
-- object 30, and none holds it on 31. In session 1 no role is active; session 2 is not open.
abbrev pub five_effective : List Line
five_effective =
    command (AddUser (u 7)) []
    ∷ command (AddRole (r 0)) []
    ∷ command (AddRole (r 1)) []
    ∷ command (AddRole (r 2)) []
    ∷ command (AddRole (r 3)) []
    ∷ command (AddRole (r 4)) []
    ∷ command (AddRole (r 5)) []
    ∷ command (Inherit (r 2) (r 3)) []
    ∷ command (Inherit (r 4) (r 1)) []
    ∷ command (Inherit (r 4) (r 5)) []
    ∷ command (Grant 4 30 (r 3)) []
    ∷ command (Grant 4 30 (r 4)) []
    ∷ command (Assign (u 7) (r 2)) []
    ∷ command (Assign (u 7) (r 4)) []
    ∷ command (OpenSession (u 7)) (2 ∷ 4 ∷ [])
    ∷ command (OpenSession (u 7)) []
    ∷ []

unfoldable pub of_five : Model
of_five = afterwards empty five_effective

-- ---- other numbers

-- counting after the test: the role that holds the grant is not counted
unfoldable pub after_the_test : Model → ℕ → ℕ → ℕ
after_the_test m s p = looked m s p - bit (permitted m s p)

-- counting all, on yes too
unfoldable pub all_of_them : Model → ℕ → ℕ → ℕ
all_of_them m s p = length (members 64 (has (effective m s)))

-- up to the first active role that holds the grant
unfoldable pub to_an_active_holder : Model → ℕ → ℕ → ℕ
to_an_active_holder m s p = length (up_to_first (has (common (m.sessions s).active (m.holders p))) (members 64 (has (effective m s))))

-- the roles that are effective and not active
abbrev pub inherited : Model → ℕ → ℕ
inherited m s = minus (effective m s) (m.sessions s).active

-- inherited roles only
unfoldable pub inherited_only : Model → ℕ → ℕ → ℕ
inherited_only m s p = length (up_to_first (has (m.holders p)) (members 64 (has (inherited m s))))

-- in the order in which a walk meets them where lines are one deep: the active roles, then those below
unfoldable pub as_the_walk_meets : Model → ℕ → ℕ → ℕ
as_the_walk_meets m s p = length (up_to_first (has (m.holders p)) (members 64 (has (m.sessions s).active) ++ members 64 (has (inherited m s))))

-- up to the first role that holds the grant or inherits a role that does
unfoldable pub to_one_that_inherits : Model → ℕ → ℕ → ℕ
to_one_that_inherits m s p = length (up_to_first (λ k. not (is_empty (common (reached m (with none k)) (m.holders p)))) (members 64 (has (effective m s))))

-- What is told there by any checker that obeys demand 2.
pub record Tells (checker : Checker) : Type 0 where
  -- yes at the third role; no after all five; with none active no after none
  pub found : checker of_five 0 4 30 ≡ done (1 ∷ 3 ∷ []) of_five
  pub not_found : checker of_five 0 4 31 ≡ done (0 ∷ 5 ∷ []) of_five
  pub none_active : checker of_five 1 4 30 ≡ done (0 ∷ 0 ∷ []) of_five
  -- a refused check has no results
  pub not_open : checker of_five 2 4 30 ≡ refused 2 of_five

-- With every answer that it gives, on a policy that can be reached, the checker gives this number.
abbrev pub Counts : Checker → (Model → ℕ → ℕ → ℕ) → Type 0
Counts checker number = (m : Model) → Reachable m → (s op obj said n : ℕ) → (checker m s op obj).results ≡ said ∷ n ∷ [] → n ≡ number m s (permission op obj)

pub record HowFar : Type 0 where
  pub tells : (checker : Checker) → Answers checker → Tells checker
  -- A checker that obeys demand 2 gives `looked`, and none of the others: on that policy they are 2, 5, 4, 2, 2 and 2, where 3 is right.
  pub right : (checker : Checker) → Answers checker → Counts checker looked
  pub one_too_few : (checker : Checker) → Answers checker → Counts checker after_the_test → ⊥
  pub all_on_yes : (checker : Checker) → Answers checker → Counts checker all_of_them → ⊥
  pub active_holder : (checker : Checker) → Answers checker → Counts checker to_an_active_holder → ⊥
  pub inherited_only : (checker : Checker) → Answers checker → Counts checker inherited_only → ⊥
  pub walked : (checker : Checker) → Answers checker → Counts checker as_the_walk_meets → ⊥
  pub inherits_it : (checker : Checker) → Answers checker → Counts checker to_one_that_inherits → ⊥
