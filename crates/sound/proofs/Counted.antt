-- `counted`, the roles of a session that a dynamic set counts: all that the other laws know of it. Assumes nothing.
use mathlib.Core.Bool.{true, false}
use mathlib.Core.Path.{◌≡◌, ap, ◌∙◌}
use Prim.Native.Nat.{ℕ, ◌≤◌, ◌<◌, ◌^◌}
use Rattle.roleset.specs.Roles.{has}
use Rattle.roleset.proofs.Laws.{has-none}
use Rattle.hierarchy.specs.Lines.{line}
use Rattle.hierarchy.proofs.WalkLaws.{reach-grows, reach_small}
use Rattle.model.specs.Model.{Model, Session, closed_session, with_lines, with_sessions}
use Rattle.model.specs.Words.{breaks_some, counted}
use Rattle.model.specs.Sound.{Shape}
use Rattle.sound.proofs.Members.{Within}
use Rattle.sound.proofs.Breaking.{none-held, some-breaks-fewer}
use Rattle.sound.proofs.Carried.{no_session_beyond, nothing-reached}

-- ---- its own laws

-- With no role active none is counted.
pub counts-none : (m : Model) (k : ℕ) → ((r : ℕ) → has (m.sessions k).active r ≡ false) → (r : ℕ) → has (counted m k) r ≡ false
counts-none m k = nothing-reached m.juniors (m.sessions k).active

-- With no more lines and no more active roles no more are counted.
pub counts-fewer : (m m' : Model) (k : ℕ) → ((a j : ℕ) → line m'.juniors a j ≡ true → line m.juniors a j ≡ true) → ((r : ℕ) → has (m'.sessions k).active r ≡ true → has (m.sessions k).active r ≡ true) → Within (counted m' k) (counted m k)
counts-fewer m m' k lines actives = λ r l. reach-grows m'.juniors m.juniors (m'.sessions k).active (m.sessions k).active (λ a j la lj. lines a j) (λ a la. actives a) r

-- What is counted is a set of roles.
pub counted-small : (m : Model) (k : ℕ) → counted m k < 2 ^ 64
counted-small m k = reach_small m.juniors (m.sessions k).active

-- ---- the dynamic rule, by these

-- the roles that a dynamic set counts of a session that is this one, with the lines of m
abbrev pub counted_of : Model → Session → ℕ
counted_of m y = counted (with_sessions m (λ i. y)) 0

-- A closed session breaks no set,
pub closed-breaks-none : (m : Model) → Shape m → breaks_some m.dsd (counted_of m closed_session) ≡ false
closed-breaks-none m x = none-held m.dsd (counted_of m closed_session) (λ n. (x.dsd n).at_least) (counts-none (with_sessions m (λ i. closed_session)) 0 has-none)

-- and neither does a number past 63, whatever the lines.
pub none-counted-beyond : (m : Model) → Shape m → (lines : ℕ → ℕ) (n k : ℕ) → 64 ≤ k → (r : ℕ) → has (counted (with_lines m lines n) k) r ≡ false
none-counted-beyond m x lines n k l = counts-none (with_lines m lines n) k (λ r. ap (λ (y : Session). has y.active r) (no_session_beyond m x k l) ∙ has-none r)

pub dynamic-beyond : (m : Model) → Shape m → (lines : ℕ → ℕ) (n k : ℕ) → 64 ≤ k → breaks_some m.dsd (counted (with_lines m lines n) k) ≡ false
dynamic-beyond m x lines n k l = none-held m.dsd (counted (with_lines m lines n) k) (λ i. (x.dsd i).at_least) (none-counted-beyond m x lines n k l)

-- Fewer lines and fewer active roles break no set that was not broken.
pub dynamic-fewer : (m m' : Model) (k : ℕ) → ((a j : ℕ) → line m'.juniors a j ≡ true → line m.juniors a j ≡ true) → ((r : ℕ) → has (m'.sessions k).active r ≡ true → has (m.sessions k).active r ≡ true) → breaks_some m.dsd (counted m k) ≡ false → breaks_some m.dsd (counted m' k) ≡ false
dynamic-fewer m m' k lines actives = some-breaks-fewer m.dsd (counted m' k) (counted m k) (counts-fewer m m' k lines actives)
