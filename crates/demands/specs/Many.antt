-- "As many as n", "strictly ascending" and "how many", in plain words. Assumes nothing.
use mathlib.Core.List.{List, [], ◌∷◌, Memᴰ}
use Rattle.std.specs.Prelude.{◌↔◌, ◌≡◌, ℕ, ◌<◌, length}

-- Nothing stands in the list twice.
pub data Different {A : Type 0} : List A → Type 0 where
  none : Different []
  more : {a : A} {rest : List A} → (Memᴰ a rest → ⊥) → Different rest → Different (a ∷ rest)

-- There are as many as n of which P holds: a list of n different ones.
pub record AsMany {A : Type 0} (n : ℕ) (P : A → Type 0) : Type 0 where
  pub list : List A
  pub different : Different list
  pub long : length list ≡ n
  pub each : (a : A) → Memᴰ a list → P a

-- Each number of the list is less than the next.
pub data Ascending : List ℕ → Type 0 where
  empty : Ascending []
  single : {a : ℕ} → Ascending (a ∷ [])
  rises : {a b : ℕ} {rest : List ℕ} → a < b → Ascending (b ∷ rest) → Ascending (a ∷ b ∷ rest)

-- There are n of these numbers, neither more nor fewer: the ascending list of all of them has n.
pub record HowMany (among : ℕ → Type 0) (n : ℕ) : Type 0 where
  pub list : List ℕ
  pub ascending : Ascending list
  pub members : (k : ℕ) → Memᴰ k list ↔ among k
  pub long : length list ≡ n
