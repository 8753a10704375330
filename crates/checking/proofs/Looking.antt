-- The next role of a set is looked at: what was found and how many are left to look at. Assumes nothing.
use mathlib.Core.Bool.{Bool, true, false, not, ◌&&◌, and-false, and-true}
use mathlib.Core.List.{List, ◌∷◌}
use mathlib.Core.Path.{◌≡◌, sym, ap, ◌∙◌}
use Prim.Native.Nat.{ℕ, suc, ◌≤◌, ◌<◌}
use native.Mathlib.Decide.{ℕ_discrete}
use native.Mathlib.Omega.{arith}
use lib.ListN.{length}
use borrow.Author.Tests.{ne_eqb}
use Rattle.roleset.specs.Bounded.{members}
use Rattle.roleset.specs.Roles.{has, without, common, is_empty}
use Rattle.roleset.proofs.BoundedLaws.{clash, never, and_both, not_yes}
use Rattle.roleset.proofs.Laws.{has-none, has-common, has-without, those-ext, is_empty-true, is_empty-intro}
use Rattle.roleset.proofs.Taking.{Next}
use Rattle.roleset.proofs.MembersLaws.{members-none, members-lowest, members-most}
use Rattle.model.specs.Lists.{up_to_first}
use Rattle.model.proofs.Looking.{first_passes, first-fails, up-to-first-most}

-- does one of the roles hold the grant, and how many are looked at?
abbrev pub found : ℕ → ℕ → Bool
found roles holders = not (is_empty (common roles holders))

abbrev pub seen : ℕ → ℕ → ℕ
seen roles holders = length (up_to_first (has holders) (members 64 (has roles)))

pub seen_most : (roles holders : ℕ) → seen roles holders ≤ 64
seen_most roles holders = omega (arith, up-to-first-most (has holders) (members 64 (has roles)), members-most 64 (has roles))

-- ---- no role

pub seen_none : (holders : ℕ) → seen 0 holders ≡ 0
unfolding up_to_first
seen_none holders = ap (λ (l : List ℕ). length (up_to_first (has holders) l)) (members-none 64 (has 0) (λ k h. has-none k))

pub found_none : (holders : ℕ) → found 0 holders ≡ false
found_none holders = ap not (is_empty-intro (common 0 holders) (λ k h. has-common 0 holders k h ∙ rw (has-none k)))

-- ---- the next of the rest

module _ {rest r t : ℕ} (holders : ℕ) (taken : Next rest r t) where
  -- it stands first among them
  stands : members 64 (has rest) ≡ r ∷ members 64 (has t)
  stands = rw taken.rest (members-lowest 64 (has rest) (has (without rest r)) r taken.small taken.lowest.member taken.lowest.first (has-without rest r))

  pub passed_seen : has holders r ≡ false → seen rest holders ≡ suc (seen t holders)
  passed_seen e = ap (λ (l : List ℕ). length (up_to_first (has holders) l)) stands ∙ ap (λ (l : List ℕ). length l) (first-fails (has holders) r (members 64 (has t)) e)

  pub passed_found : has holders r ≡ false → found t holders ≡ found rest holders
  unfolding common
  passed_found e = rw taken.rest (ap (λ (s : ℕ). not (is_empty s)) (those-ext _ _ (λ k h. go k h (ℕ_discrete k r))))
    where
      go : (k : ℕ) → k < 64 → Dec (k ≡ r) → (has (without rest r) k && has holders k) ≡ (has rest k && has holders k)
      go k h (yes p) = let off : has holders k ≡ false = ap (has holders) p ∙ e in rw off (and-false (has (without rest r) k) ∙ sym (and-false (has rest k)))
      go k h (no p) = let same : has (without rest r) k ≡ has rest k = has-without rest r k h ∙ rw (ne_eqb k r p) (and-true (has rest k)) in rw same

  pub held_seen : has holders r ≡ true → seen rest holders ≡ 1
  held_seen e = ap (λ (l : List ℕ). length (up_to_first (has holders) l)) stands ∙ ap (λ (l : List ℕ). length l) (first_passes (has holders) r (members 64 (has t)) e)

  pub held_found : has holders r ≡ true → found rest holders ≡ true
  held_found e = not_yes (is_empty (common rest holders)) (never (is_empty (common rest holders)) (λ empty. clash (has (common rest holders) r) (has-common rest holders r taken.small ∙ and_both (has rest r) (has holders r) taken.lowest.member e) (is_empty-true (common rest holders) empty r taken.small)))
