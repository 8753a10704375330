-- What is a member of a set after each operation, in the direction that the other laws ask. Assumes nothing.
use mathlib.Core.Bool.{Bool, true, false, not, ◌&&◌, ◌||◌}
use mathlib.Core.Logic.{◌⊎◌, inl, inr}
use mathlib.Core.Path.{◌≡◌, refl, ◌∙◌}
use Prim.Native.Nat.{ℕ, ◌^◌, ◌<◌}
use lib.Dec.{eqb}
use borrow.Author.Tests.{eqb-true, eqb-false, eq-eqb, ne_eqb, not-true}
use Rattle.roleset.specs.Roles.{has, with, without, common, none}
use Rattle.roleset.proofs.BoundedLaws.{clash, and_left, and_right, and_both, or_left, or_right, or_cases, not_yes}
use Rattle.roleset.proofs.Laws.{has-none, has-with, has-without, has-common, those-member, without-small}
use Rattle.model.specs.Model.{put}
use Rattle.sound.proofs.Put.{put_all}

-- ---- yes and no

-- Where not both answers are yes and one is, the other is no.
pub and_no : (a b : Bool) → (a && b) ≡ false → a ≡ true → b ≡ false
and_no true b h p = h
and_no false b h p = clash false p refl

-- Where neither is yes, each is no.
pub or_no : (a b : Bool) → (a || b) ≡ false → (a ≡ false) × (b ≡ false)
or_no true b h = clash true refl h
or_no false b h = (refl, h)

-- ---- members

-- every role of a is in b
abbrev pub Within : ℕ → ℕ → Type 0
Within a b = (k : ℕ) → k < 64 → has a k ≡ true → has b k ≡ true

-- A member of a set with a role more was one, or is that role;
pub with-member : (s r k : ℕ) → has (with s r) k ≡ true → (k < 64) × ((has s k ≡ true) ⊎ (k ≡ r))
unfolding with
with-member s r k h =
    let m = those-member (λ j. has s j || eqb j r) k h in
    (m.0, go (or_cases (has s k) (eqb k r) m.1))
  where
    go : (has s k ≡ true) ⊎ (eqb k r ≡ true) → (has s k ≡ true) ⊎ (k ≡ r)
    go (inl p) = inl p
    go (inr p) = inr (eqb-true k r p)

-- those that were still are,
pub with-old : (s r : ℕ) → Within s (with s r)
with-old s r k l h = has-with s r k l ∙ or_left (has s k) (eqb k r) h

-- and so is the new one.
pub with-new : (s r : ℕ) → r < 64 → has (with s r) r ≡ true
with-new s r l = has-with s r r l ∙ or_right (has s r) (eqb r r) (eq-eqb r r refl)

-- A member of a set with a role less was one, and is not that role;
pub without-member : (s r k : ℕ) → has (without s r) k ≡ true → (k < 64) × (has s k ≡ true) × (k ≡ r → ⊥)
unfolding without
without-member s r k h =
    let m = those-member (λ j. has s j && not (eqb j r)) k h in
    (m.0, and_left (has s k) (not (eqb k r)) m.1, eqb-false k r (not-true (eqb k r) (and_right (has s k) (not (eqb k r)) m.1)))

-- so it is within the set that it was,
pub without-old : (s r : ℕ) → Within (without s r) s
without-old s r k l h = (without-member s r k h).1

-- and every other member still is one.
pub without_other : (s r k : ℕ) → k < 64 → has s k ≡ true → (k ≡ r → ⊥) → has (without s r) k ≡ true
without_other s r k l h n = has-without s r k l ∙ and_both (has s k) (not (eqb k r)) h (not_yes (eqb k r) (ne_eqb k r n))

-- A member of two sets is one of each,
pub common-member : (a b k : ℕ) → has (common a b) k ≡ true → (k < 64) × (has a k ≡ true) × (has b k ≡ true)
unfolding common
common-member a b k h =
    let m = those-member (λ j. has a j && has b j) k h in
    (m.0, and_left (has a k) (has b k) m.1, and_right (has a k) (has b k) m.1)

-- and a member of each is one of both;
pub common-intro : (a b k : ℕ) → k < 64 → has a k ≡ true → has b k ≡ true → has (common a b) k ≡ true
common-intro a b k l p q = has-common a b k l ∙ and_both (has a k) (has b k) p q

-- so what two sets share grows with them.
pub common-within : (a b a' b' : ℕ) → Within a a' → Within b b' → Within (common a b) (common a' b')
common-within a b a' b' f g k l h =
    let m = common-member a b k h in
    common-intro a' b' k l (f k l m.1) (g k l m.2)

-- A table with a role taken away at one place holds no more than it did,
pub fewer-at : (table : ℕ → ℕ) (i r : ℕ) → (k j : ℕ) → has (put table i (without (table i) r) k) j ≡ true → has (table k) j ≡ true
fewer-at table i r = put_all (λ k set. (j : ℕ) → has set j ≡ true → has (table k) j ≡ true) table i (without (table i) r) (λ j e. (without-member (table i) r j e).1) (λ k d j e. e)

-- and its sets stay sets of roles.
pub small_at : (table : ℕ → ℕ) (i r : ℕ) → ((k : ℕ) → table k < 2 ^ 64) → (k : ℕ) → put table i (without (table i) r) k < 2 ^ 64
small_at table i r h = put_all (λ k set. set < 2 ^ 64) table i (without (table i) r) (without-small (table i) r) (λ k d. h k)

-- With a role taken away at every place, and all roles at its own, nothing is there that was not.
pub stripped-fewer : (table : ℕ → ℕ) (r k j : ℕ) → has (put (λ a. without (table a) r) r none k) j ≡ true → has (table k) j ≡ true
stripped-fewer table r = put_all (λ k set. (j : ℕ) → has set j ≡ true → has (table k) j ≡ true) (λ a. without (table a) r) r none (λ j e. clash (has 0 j) e (has-none j)) (λ k d j e. (without-member (table k) r j e).1)
