-- Laws of separation, once for both kinds: a set and a cardinality against the roles held. Assumes nothing.
use mathlib.Core.Bool.{Bool, true, false}
use mathlib.Core.Logic.{◌↔◌}
use mathlib.Core.Path.{◌≡◌, sym, ◌∙◌}
use Prim.Native.Nat.{ℕ, ◌≤◌, ◌<◌}
use native.Mathlib.Omega.{arith}
use lib.Dec.{leb}
use borrow.Author.Tests.{leb-true, leb-false, le-leb}
use Rattle.roleset.specs.Roles.{has, common, count}
use Rattle.roleset.proofs.BoundedLaws.{clash, and_left, and_right, and_both, never, some-intro, some-none, some-false, tally-none}
use Rattle.roleset.proofs.Laws.{count-mono}
use Rattle.model.specs.Model.{RoleSet}
use Rattle.model.specs.Words.{breaks, breaks_some}
use Rattle.sound.proofs.Members.{Within, common-within, common-member}

-- A set is broken exactly where it is there and at least as many of its roles are held as its cardinality.
pub breaks-exact : (set : RoleSet) (held : ℕ) → (breaks set held ≡ true) ↔ ((set.there ≡ true) × (set.card ≤ count (common set.roles held)))
unfolding breaks
breaks-exact set held = (
  (λ h. (and_left set.there enough h, leb-true set.card (count (common set.roles held)) (and_right set.there enough h))),
  (λ p. and_both set.there enough p.0 (le-leb set.card (count (common set.roles held)) p.1)),
)
  where
    enough : Bool
    enough = leb set.card (count (common set.roles held))

-- It is not broken exactly where fewer are held, if it is there.
pub unbroken-exact : (set : RoleSet) (held : ℕ) → (breaks set held ≡ false) ↔ (set.there ≡ true → count (common set.roles held) < set.card)
unfolding breaks
unbroken-exact set held = (
  (λ h t. leb-false set.card (count (common set.roles held)) (sym (rw t) ∙ h)),
  (λ h. never (breaks set held) (λ e. let y = (breaks-exact set held).0 e in let l = h y.0 in omega arith)),
)

-- With fewer roles, in the set or held, a set of the same cardinality is not broken if it was not.
pub breaks-fewer : (set set' : RoleSet) (held held' : ℕ) → (set.there ≡ true → set'.there ≡ true) → set'.card ≤ set.card → Within set.roles set'.roles → Within held held' → breaks set' held' ≡ false → breaks set held ≡ false
breaks-fewer set set' held held' t c f g h = (unbroken-exact set held).1
    (λ e. let l = (unbroken-exact set' held').0 h (t e) in
    let fewer = count-mono (common set.roles held) (common set'.roles held') (common-within set.roles held set'.roles held' f g) in
    omega arith)

-- Holding no role breaks no set whose cardinality is above 0.
pub nothing-breaks : (set : RoleSet) (held : ℕ) → (set.there ≡ true → 0 < set.card) → ((k : ℕ) → k < 64 → has held k ≡ false) → breaks set held ≡ false
unfolding count
nothing-breaks set held c h = (unbroken-exact set held).1 (λ e. let p = c e in let z = nobody in omega arith)
  where
    nobody : count (common set.roles held) ≡ 0
    nobody = tally-none 64 (has (common set.roles held)) (λ k l. never (has (common set.roles held) k) (λ e. clash (has held k) (common-member set.roles held k e).2 (h k l)))

-- ---- some set of a table

-- Some set is broken where one with a name below 16 is,
pub some-breaks : (sets : ℕ → RoleSet) (held n : ℕ) → n < 16 → breaks (sets n) held ≡ true → breaks_some sets held ≡ true
unfolding breaks_some
some-breaks sets held n l h = some-intro 16 (λ k. breaks (sets k) held) n l h

-- and none where none of these is.
pub none-breaks : (sets : ℕ → RoleSet) (held : ℕ) → ((n : ℕ) → n < 16 → breaks (sets n) held ≡ false) → breaks_some sets held ≡ false
unfolding breaks_some
none-breaks sets held h = some-none 16 (λ n. breaks (sets n) held) h

-- Where none is broken, each is unbroken.
pub each-unbroken : (sets : ℕ → RoleSet) (held : ℕ) → breaks_some sets held ≡ false → (n : ℕ) → n < 16 → breaks (sets n) held ≡ false
unfolding breaks_some
each-unbroken sets held h n l = some-false 16 (λ k. breaks (sets k) held) h n l

-- Holding fewer roles breaks no set if holding more broke none.
pub some-breaks-fewer : (sets : ℕ → RoleSet) (held held' : ℕ) → Within held held' → breaks_some sets held' ≡ false → breaks_some sets held ≡ false
some-breaks-fewer sets held held' g h = none-breaks sets held
    (λ n l. breaks-fewer (sets n) (sets n) held held' (λ t. t) (omega arith) (λ k lk e. e) g (each-unbroken sets held' h n l))

-- Holding no role breaks no set whose cardinality is at least 2.
pub none-held : (sets : ℕ → RoleSet) (held : ℕ) → ((n : ℕ) → (sets n).there ≡ true → 2 ≤ (sets n).card) → ((k : ℕ) → has held k ≡ false) → breaks_some sets held ≡ false
none-held sets held c h = none-breaks sets held (λ n l. nothing-breaks (sets n) held (λ t. let two = c n t in omega arith) (λ k lk. h k))
