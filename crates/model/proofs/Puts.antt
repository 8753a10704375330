-- A table with one place changed: that place, and every other. Assumes nothing.
use mathlib.Core.Path.{◌≡◌, refl, ap}
use Prim.Native.Nat.{ℕ}
use borrow.Author.Tests.{eq-eqb, ne_eqb}
use Rattle.roleset.specs.Roles.{with}
use Rattle.model.specs.Model.{Model, Session, put}
use Rattle.model.specs.Words.{reached, breaks_some, static_broken, dynamic_broken}
use Rattle.model.specs.commands.Assigning.{assigned}
use Rattle.model.specs.commands.Sessions.{session_set}

module _ {A : Type 0} where
  pub put_same : (f : ℕ → A) (i : ℕ) (v : A) → put f i v i ≡ v
  unfolding put
  put_same f i v = rw (eq-eqb i i refl, put)

  pub put_other : (f : ℕ → A) (i : ℕ) (v : A) (k : ℕ) → (k ≡ i → ⊥) → put f i v k ≡ f k
  unfolding put
  put_other f i v k n = rw (ne_eqb k i n, put)

-- what the dynamic rule asks of a session that changes, over the policy before it: the roles that would be effective
pub session-dynamic : (m : Model) (k : ℕ) (new : Session) → dynamic_broken (session_set m k new) k ≡ breaks_some m.dsd (reached m new.active)
unfolding dynamic_broken
session-dynamic m k new = ap (λ (x : Session). breaks_some m.dsd (reached m x.active)) (put_same m.sessions k new)

-- what `assign` asks of the static rule, over the policy before it
pub assigned-static : (m : Model) (u r : ℕ) → static_broken (assigned m u r) u ≡ breaks_some m.ssd (reached m (with (m.assigned u) r))
unfolding static_broken assigned
assigned-static m u r = ap (λ (x : ℕ). breaks_some m.ssd (reached m x)) (put_same m.assigned u (with (m.assigned u) r))
