-- Breaking is monotone: what no role held breaks, is broken by any roles held. Assumes nothing.
use mathlib.Core.Bool.{true}
use mathlib.Core.Path.{◌≡◌, sym, ◌∙◌}
use Prim.Native.Nat.{ℕ, ◌<◌}
use native.Mathlib.Omega.{arith}
use lib.Dec.{leb}
use borrow.Author.Tests.{leb-true, le-leb}
use Rattle.roleset.specs.Roles.{has, common, count}
use Rattle.roleset.proofs.BoundedLaws.{clash, and_left, and_right, and_both, some-intro, some-elim}
use Rattle.roleset.proofs.Laws.{has-common, has-none, count-mono}
use Rattle.model.specs.Model.{RoleSet}
use Rattle.model.specs.Words.{breaks, breaks_some}

module _ (held more : ℕ) (grows : (k : ℕ) → k < 64 → has held k ≡ true → has more k ≡ true) where
  -- more roles held share as many with a set, or more
  common_grows : (roles : ℕ) (k : ℕ) → k < 64 → has (common roles held) k ≡ true → has (common roles more) k ≡ true
  common_grows roles k l h =
      let e = sym (has-common roles held k l) ∙ h in
      has-common roles more k l ∙ and_both (has roles k) (has more k) (and_left (has roles k) (has held k) e) (grows k l (and_right (has roles k) (has held k) e))

  -- so they break the set, or some of the sets, that fewer break
  pub breaks_grows : (set : RoleSet) → breaks set held ≡ true → breaks set more ≡ true
  unfolding breaks
  breaks_grows set h =
      let there = and_left set.there (leb set.card (count (common set.roles held))) h in
      let reached = leb-true set.card (count (common set.roles held)) (and_right set.there _ h) in
      and_both set.there _ there (le-leb set.card (count (common set.roles more)) (omega (arith, count-mono (common set.roles held) (common set.roles more) (common_grows set.roles))))

  pub some_grows : (sets : ℕ → RoleSet) → breaks_some sets held ≡ true → breaks_some sets more ≡ true
  unfolding breaks_some
  some_grows sets h =
      let r = some-elim 16 (λ n. breaks (sets n) held) h in
      some-intro 16 (λ n. breaks (sets n) more) r.0 r.1 (breaks_grows (sets r.0) r.2)

-- what is broken with no role held is broken with any
none-held : (more : ℕ) (k : ℕ) → k < 64 → has 0 k ≡ true → has more k ≡ true
none-held more k l h = clash (has 0 k) h (has-none k)

pub breaks-any : (set : RoleSet) (held : ℕ) → breaks set 0 ≡ true → breaks set held ≡ true
breaks-any set held = breaks_grows 0 held (none-held held) set

pub some-any : (sets : ℕ → RoleSet) (held : ℕ) → breaks_some sets 0 ≡ true → breaks_some sets held ≡ true
some-any sets held = some_grows 0 held (none-held held) sets
