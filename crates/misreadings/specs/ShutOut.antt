-- "Strength of the promises": demand 2 leaves one engine, and shuts out those that the paper names. Assumes nothing.
use Rattle.std.specs.Prelude.{true, false, ◌≡◌, ℕ, ◌+◌, ◌*◌, length}
use mathlib.Core.List.{List, [], ◌∷◌, Memᴰ}
use Rattle.roleset.specs.Roles.{has}
use Rattle.numbers.specs.declared.Role.{Role}
use Rattle.model.specs.Model.{Model, empty}
use Rattle.model.specs.Sheet.{Told}
use Rattle.model.specs.declared.Command.{Command}
use Rattle.model.specs.declared.Question.{Question}
use Rattle.model.specs.declared.Question.TheVariants.{AssignedUsers, RoleOps}
use Rattle.demands.specs.Demand2.{Obeys, Answers}
use Rattle.demands.specs.Reachable.{Reachable}
use Rattle.demands.specs.Reviews.{Reviewing}

-- what an engine tells of each command, a checker of each question for access, and a reviewer of each question, with room for so many results
abbrev pub Engine : Type 0
Engine = Model → Command → List ℕ → Told

abbrev pub Checker : Type 0
Checker = Model → ℕ → ℕ → ℕ → Told

abbrev pub Reviewer : Type 0
Reviewer = Model → ℕ → Question → Told

pub record ShutOut : Type 0 where
  -- two engines that obey demand 2 tell the same, on every policy that can be reached; and so do two checkers
  pub one_engine : (engine other : Engine) → Obeys engine → Obeys other → (m : Model) → Reachable m → (c : Command) (list : List ℕ) → engine m c list ≡ other m c list
  pub one_checker : (checker other : Checker) → Answers checker → Answers other → (m : Model) → Reachable m → (s op obj : ℕ) → checker m s op obj ≡ other m s op obj
  -- "An engine that refuses everything is shut out by demand 2's exact refusals,
  pub refusing : (engine : Engine) → Obeys engine → ((m : Model) (c : Command) (list : List ℕ) → (engine m c list).answer ≡ 0 → ⊥) → ⊥
  -- and so is one that always says yes
  pub yes_always : (checker : Checker) → Answers checker → ((m : Model) (s op obj : ℕ) → (checker m s op obj).answer ≡ 0 → (n : ℕ) × ((checker m s op obj).results ≡ 1 ∷ n ∷ [])) → ⊥
  -- or always no."
  pub no_always : (checker : Checker) → Answers checker → ((m : Model) (s op obj : ℕ) → (checker m s op obj).answer ≡ 0 → (n : ℕ) × ((checker m s op obj).results ≡ 0 ∷ n ∷ [])) → ⊥
  -- "One that does nothing satisfies demand 3 and breaks demand 2,
  pub idle : (engine : Engine) → Obeys engine → ((m : Model) (c : Command) (list : List ℕ) → (engine m c list).after ≡ m) → ⊥
  -- as does one that obeys its first command and only acknowledges the rest."
  pub once : (engine : Engine) → Obeys engine → ((m : Model) → (m ≡ empty → ⊥) → (c : Command) (list : List ℕ) → ((engine m c list).answer ≡ 0) × ((engine m c list).after ≡ m)) → ⊥

-- The same of the questions: demand 2 leaves one reviewer.
pub record ReviewersShutOut : Type 0 where
  -- Two reviewers that obey demand 2 tell the same, on every policy that can be reached, with any room and of every question.
  pub one_reviewer : (reviewer other : Reviewer) → Reviewing reviewer → Reviewing other → (m : Model) → Reachable m → (room : ℕ) (q : Question) → reviewer m room q ≡ other m room q
  -- "A made-up list length breaks the review lists." The length `made` is made up: it depends on the room and the question, and not on the policy. So
  -- a reviewer whose lists all have one length is shut out, and so is one that always fills its room.
  pub made_up_length : (reviewer : Reviewer) → Reviewing reviewer → (made : ℕ → Question → ℕ) → ((m : Model) (room : ℕ) (q : Question) → (reviewer m room q).answer ≡ 0 → length (reviewer m room q).results ≡ made room q) → ⊥
  -- A reviewer that never answers 15, but cuts its lists to the room, is shut out.
  pub cut_to_room : (reviewer : Reviewer) → Reviewing reviewer → ((m : Model) (room : ℕ) (q : Question) → (reviewer m room q).answer ≡ 15 → ⊥) → ⊥
  -- "The schema of RoleOperationsOnObject in document 000 tests the asked role alone; its text includes inherited roles, and the text decides." A
  -- reviewer whose `role-ops` lists no operation but those that the asked role itself holds is shut out. At the bench role 2 inherits role 0, which
  -- holds operation 4 on object 30.
  pub direct_grants : (reviewer : Reviewer) → Reviewing reviewer → ((m : Model) (room : ℕ) (r : Role) (obj op : ℕ) → Memᴰ op (reviewer m room (RoleOps r obj)).results → has (m.holders (op * 256 + obj)) r.number ≡ true) → ⊥
  -- A reviewer that answers 0 for a role that does not exist is shut out.
  pub missing_role : (reviewer : Reviewer) → Reviewing reviewer → ((m : Model) (room : ℕ) (r : Role) → has m.roles r.number ≡ false → (reviewer m room (AssignedUsers r)).answer ≡ 0) → ⊥
  -- A reviewer to which object 299 is not beyond its range is shut out.
  pub object299 : (reviewer : Reviewer) → Reviewing reviewer → ((m : Model) (room : ℕ) (r : Role) → (reviewer m room (RoleOps r 299)).answer ≡ 1 → ⊥) → ⊥
