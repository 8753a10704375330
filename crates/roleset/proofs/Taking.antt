-- Taking the lowest role of a set, again and again: what code that goes through the members of a set goes by. Assumes nothing.
use mathlib.Core.Bool.{Bool, true, false, not, ◌&&◌}
use mathlib.Core.List.{List, [], ◌∷◌}
use mathlib.Core.Path.{◌≡◌, refl, sym, ap, ◌∙◌}
use native.Mathlib.Omega.{arith}
use lib.Count.{count_trailing_zeros}
use lib.Dec.{eqb}
use Prim.Native.Nat.{ℕ, suc, ◌^◌, ◌<◌}
use Rattle.roleset.specs.Bounded.{members}
use Rattle.roleset.specs.Promises.{Made, Lowest}
use Rattle.roleset.specs.Roles.{has, without, is_empty, count}
use Rattle.roleset.proofs.BoundedLaws.{never}
use Rattle.roleset.proofs.Laws.{ext, has-none, has-without, without-small, is_empty-zero, is_empty-true, member-small, count-without}
use Rattle.roleset.proofs.Machine.{trailing-member}
use Rattle.roleset.proofs.MembersLaws.{members-none, members-lowest, members-tell}

-- a set that is not the number 0 is not empty
pub not-zero : (s : ℕ) → s < 2 ^ 64 → (s ≡ 0 → ⊥) → is_empty s ≡ false
not-zero s l n = never (is_empty s) (λ e. n (is_empty-zero s l e))

-- the lowest role of a set that is not the number 0: it is in the set, and without it there is one fewer
pub record Taken (s r : ℕ) : Type 0 where
  pub member : has s r ≡ true
  pub small : r < 64
  pub fewer : suc (count (without s r)) ≡ count s

pub lowest-taken : (s r : ℕ) → s < 2 ^ 64 → (s ≡ 0 → ⊥) → (is_empty s ≡ false → Lowest s r) → Taken s r
lowest-taken s r l n low = record { member = here; small = below; fewer = count-without s r below here }
  where
    here : has s r ≡ true
    here = (low (not-zero s l n)).member

    below : r < 64
    below = member-small s r l here

-- ---- the list of a set's members, which `roleset::members` goes through

pub none-left : (s : ℕ) → is_empty s ≡ true → members 64 (has s) ≡ []
none-left s e = members-none 64 (has s) (is_empty-true s e)

-- the lowest role stands first, and behind it are the members of the set without it
pub lowest-first : {s r t : ℕ} → (r < 64) × Lowest s r → Made t (without s r) (λ k. has s k && not (eqb k r)) → members 64 (has s) ≡ r ∷ members 64 (has t)
lowest-first {s} {r} {t} low made = members-lowest 64 (has s) (has t) r low.0 low.1.member low.1.first (λ k l. made.each k)

-- r is the next member of s, and t is what is left
pub record Next (s r t : ℕ) : Type 0 where
  pub small : r < 64
  pub lowest : Lowest s r
  pub rest : t ≡ without s r
  pub fewer : suc (count t) ≡ count s

same-members : (a b : ℕ) → a < 2 ^ 64 → b < 2 ^ 64 → members 64 (has a) ≡ members 64 (has b) → a ≡ b
same-members a b la lb e = ext a b la lb (members-tell 64 (has a) (has b) e)

-- What a turn of a loop over the members of s takes, and what is left for the next.
pub next : {s r t : ℕ} → s < 2 ^ 64 → t < 2 ^ 64 → members 64 (has s) ≡ r ∷ members 64 (has t) → Next s r t
next {s} {r} {t} ls lt e = go (is_empty s) refl
  where
    found : (k : ℕ) → k < 64 → Lowest s k → k ∷ members 64 (has (without s k)) ≡ r ∷ members 64 (has t) → Next s r t
    found k small low stands =
        let same : k ≡ r = cc in
        let others : members 64 (has (without s k)) ≡ members 64 (has t) = cc in
        let left : t ≡ without s r = sym (same-members (without s k) t (without-small s k) lt others) ∙ ap (without s) same in
        let lowest : Lowest s r = rw (← same) low in
        record { small = rw (← same) small; lowest = lowest; rest = left; fewer = ap (λ (x : ℕ). suc (count x)) left ∙ count-without s r (rw (← same) small) lowest.member }

    go : (b : Bool) → is_empty s ≡ b → Next s r t
    go true none = let clash : ◌≡◌ {A = List ℕ} [] (r ∷ members 64 (has t)) = sym (none-left s none) ∙ e in absurd cc
    go false some =
        let low = trailing-member s some in
        let small = member-small s (count_trailing_zeros 64 s) ls low.member in
        let stands : count_trailing_zeros 64 s ∷ members 64 (has (without s (count_trailing_zeros 64 s))) ≡ r ∷ members 64 (has t) = sym (members-lowest 64 (has s) (has (without s (count_trailing_zeros 64 s))) (count_trailing_zeros 64 s) small low.member low.first (has-without s (count_trailing_zeros 64 s))) ∙ e in
        found (count_trailing_zeros 64 s) small low stands

-- After the last turn none is left.
pub at-end : {s : ℕ} → s < 2 ^ 64 → members 64 (has s) ≡ [] → s ≡ 0
at-end {s} l e = same-members s 0 l (omega arith) (e ∙ sym (members-none 64 (has 0) (λ k h. has-none k)))
