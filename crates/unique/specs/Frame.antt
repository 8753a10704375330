-- What is not changed stays, number by number. A promise says what the numbers of the state mean after a call; since no two states mean the same, it
-- says it of every number. Assumes nothing.
use Rattle.std.specs.Prelude.{List, ◌≡◌, ℕ, ◌+◌, ◌<◌, get_or}
use Rattle.model.specs.Model.{Model}
use Rattle.model.specs.Sheet.{Told}
use Rattle.model.specs.Step.{step}
use Rattle.model.specs.declared.Command.{Command}
use Rattle.policyform.specs.Promises.{Loads}
use Rattle.state.specs.Places.{holders_at, assigned_at, juniors_at, ssd_cards_at, dsd_cards_at, owners_at, users_at, roles_at, assignment_count_at, grant_count_at, line_count_at}
use Rattle.state.specs.View.{view}
use Rattle.unique.specs.Unique.{State}

-- the n numbers from place o on are the same in both
abbrev pub Same : ℕ → ℕ → List ℕ → List ℕ → Type 0
Same o n before after = (k : ℕ) → k < n → get_or after (o + k) 0 ≡ get_or before (o + k) 0

pub record Frame : Type 0 where
  -- two states that mean the same are one
  pub one : (before after : List ℕ) → State before → State after → view after ≡ view before → after ≡ before
  -- a command that is refused changes no number
  pub refused : (before after : List ℕ) → State before → State after → (c : Command) (list : List ℕ) → ((step (view before) c list).answer ≡ 0 → ⊥) → view after ≡ (step (view before) c list).after → after ≡ before
  -- nor does a load that is refused
  pub unloaded : (before after : List ℕ) → State before → State after → (bytes : List ℕ) (told : Told) → Loads (view before) bytes told → (told.answer ≡ 0 → ⊥) → view after ≡ told.after → after ≡ before
  -- and where a part of the policy or the sessions is left, so is every number of it
  pub holders : (before after : List ℕ) → (view after).holders ≡ (view before).holders → Same holders_at 4096 before after
  pub assigned : (before after : List ℕ) → (view after).assigned ≡ (view before).assigned → Same assigned_at 256 before after
  pub juniors : (before after : List ℕ) → (view after).juniors ≡ (view before).juniors → Same juniors_at 64 before after
  pub ssd : (before after : List ℕ) → (view after).ssd ≡ (view before).ssd → Same ssd_cards_at 32 before after
  pub dsd : (before after : List ℕ) → (view after).dsd ≡ (view before).dsd → Same dsd_cards_at 32 before after
  pub sessions : (before after : List ℕ) → (view after).sessions ≡ (view before).sessions → Same owners_at 128 before after
  pub users : (before after : List ℕ) → State before → State after → (view after).users ≡ (view before).users → Same users_at 4 before after
  pub roles : (before after : List ℕ) → (view after).roles ≡ (view before).roles → Same roles_at 1 before after
  pub assignment_count : (before after : List ℕ) → (view after).assignment_count ≡ (view before).assignment_count → Same assignment_count_at 1 before after
  pub grant_count : (before after : List ℕ) → (view after).grant_count ≡ (view before).grant_count → Same grant_count_at 1 before after
  pub line_count : (before after : List ℕ) → (view after).line_count ≡ (view before).line_count → Same line_count_at 1 before after
