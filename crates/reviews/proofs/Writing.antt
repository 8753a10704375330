-- A list that grows at the front of a buffer, one place a turn. Assumes nothing.
use mathlib.Core.Bool.{Bool, true, false}
use mathlib.Core.List.{List, [], ◌∷◌, ◌++◌}
use mathlib.Core.Logic.{◌⊎◌, inl, inr}
use mathlib.Core.Path.{◌≡◌, refl, sym, ap, ◌∙◌}
use Prim.Native.Nat.{ℕ, zero, suc, ◌+◌, ◌≤◌, ◌<◌}
use native.Mathlib.Omega.{arith}
use lib.ListN.{length, take, drop, set, length-append, length-drop}
use lib.Seq.{take-length, drop-cons, set-append_seam, append_snoc}
use Rattle.std.proofs.Common.{count_by, add-one}
use Rattle.std.proofs.lemmas.List.Sums.{count_by_more_yes, count_by_more_no}
use Rattle.roleset.specs.Bounded.{bit, tally, members}
use Rattle.roleset.proofs.BoundedLaws.{last-or-below}
use Rattle.roleset.proofs.MembersLaws.{members-start, members-taken, members-left, members-length, members-most}
use Rattle.hierarchy.specs.Lines.{table_of}
use Rattle.reviews.specs.Reviewing.{meets, touched, meeting}

-- the list at the front of the buffer, and every place past it as before
abbrev pub over : List ℕ → List ℕ → List ℕ
over list before = list ++ drop (length list) before

-- one more number, written at the place past the list
pub over-next : (list before : List ℕ) (v : ℕ) → length list < length before → set (over list before) (length list) v ≡ over (list ++ (v ∷ [])) before
over-next list before v h =
    rw (drop-cons before (length list) 0 h, set-append_seam)
    (sym (append_snoc list v (drop (suc (length list)) before)) ∙ ap (λ (n : ℕ). (list ++ (v ∷ [])) ++ drop n before) (let e : suc (length list) ≡ length (list ++ (v ∷ [])) = omega (arith, length-append list (v ∷ [])) in e))

-- the buffer is as long as before
pub over-length : (list before : List ℕ) → length list ≤ length before → length (over list before) ≡ length before
over-length list before h = omega (arith, length-append list (drop (length list) before), length-drop (length list) before)

-- the members below a smaller bound are no more
tally-fewer : (n k : ℕ) (f : ℕ → Bool) → k ≤ n → tally k f ≤ tally n f
unfolding tally
tally-fewer zero k f h = let e : k ≡ 0 = omega arith in rw e (omega arith)
tally-fewer (suc n) k f h = go (last-or-below k (suc n) (omega arith)) (tally-fewer n k f)
  where
    go : (k ≡ suc n) ⊎ (k < suc n) → (k ≤ n → tally k f ≤ tally n f) → tally k f ≤ tally (suc n) f
    go (inl e) ih = rw e (omega arith)
    go (inr l) ih = omega (arith, ih (omega arith))

members-fewer : (n k : ℕ) (f : ℕ → Bool) → k ≤ n → length (members k f) ≤ length (members n f)
members-fewer n k f h = omega (arith, members-length n f, members-length k f, tally-fewer n k f h)

-- a member is one more
pub taken-length : (k : ℕ) (f : ℕ → Bool) → f k ≡ true → length (members (k + 1) f) ≡ length (members k f) + 1
taken-length k f e = omega (arith, ap length (members-taken k f e), length-append (members k f) (k ∷ []))

-- one more member below the bound fits where all members do
member-fits : (n k : ℕ) (f : ℕ → Bool) → k < n → f k ≡ true → length (members k f) < length (members n f)
member-fits n k f h e = omega (arith, members-fewer n (k + 1) f (omega arith), taken-length k f e)

-- ---- how many are to be listed

-- the elements that pass among the first k are as many as their places
tallied : (p : ℕ → Bool) (xs : List ℕ) (k : ℕ) → k ≤ length xs → count_by p (take k xs) ≡ tally k (λ j. p (table_of xs j))
unfolding tally
tallied p xs zero h = refl
tallied p xs (suc k) h = go (p (table_of xs k)) refl (tallied p xs k (omega arith))
  where
    go : (b : Bool) → p (table_of xs k) ≡ b → count_by p (take k xs) ≡ tally k (λ j. p (table_of xs j)) → count_by p (take (suc k) xs) ≡ bit (p (table_of xs k)) + tally k (λ j. p (table_of xs j))
    go true e ih = rw e (omega (arith, rw (add-one k) at (count_by_more_yes p xs k 0 (omega arith) e), ih))
    go false e ih = rw e (omega (arith, rw (add-one k) at (count_by_more_no p xs k 0 (omega arith) e), ih))

pub meeting-length : (roles : ℕ) (table : List ℕ) → count_by (meets roles) table ≡ length (meeting roles table)
unfolding meeting
meeting-length roles table = ap (count_by (meets roles)) (sym (take-length table)) ∙ tallied (meets roles) table (length table) (omega arith) ∙ sym (members-length (length table) (touched roles table))

-- ---- a loop that lists

-- k places are passed: so many of them pass the test, and their list stands at the front of the buffer
pub record Written (f : ℕ → Bool) (before : List ℕ) (k n : ℕ) (out : List ℕ) : Type 0 where
  pub count : n ≡ length (members k f)
  pub front : out ≡ over (members k f) before

module _ (f : ℕ → Bool) (before : List ℕ) where
  pub written_start : Written f before 0 0 before
  written_start = record { count = sym (ap length (members-start f)); front = sym (ap (λ (l : List ℕ). over l before) (members-start f)) }

  -- a place that fails the test
  pub written_stay : (k n : ℕ) (out : List ℕ) → f k ≡ false → Written f before k n out → Written f before (k + 1) n out
  written_stay k n out e w = record { count = w.count ∙ sym (ap length (members-left k f e)); front = w.front ∙ sym (ap (λ (l : List ℕ). over l before) (members-left k f e)) }

  pub written_few : (k n : ℕ) (out : List ℕ) → Written f before k n out → n ≤ k
  written_few k n out w = omega (arith, w.count, members-most k f)

  -- where the buffer has room for all members below a bound
  module _ (size : ℕ) (room : length (members size f) ≤ length before) where
    pub written_length : (k n : ℕ) (out : List ℕ) → k ≤ size → Written f before k n out → length out ≡ length before
    written_length k n out h w = ap length w.front ∙ over-length (members k f) before (omega (arith, members-fewer size k f h))

    -- a place that passes the test has a place in the buffer
    pub written_fits : (k n : ℕ) (out : List ℕ) → k < size → f k ≡ true → Written f before k n out → n < length out
    written_fits k n out h e w = omega (arith, w.count, member-fits size k f h e, written_length k n out (omega arith) w)

    -- and is written there
    pub written_next : (k n : ℕ) (out : List ℕ) → k < size → f k ≡ true → Written f before k n out → Written f before (k + 1) (n + 1) (set out n k)
    written_next k n out h e w = record { count = omega (arith, w.count, taken-length k f e); front = next }
      where
        next : set out n k ≡ over (members (k + 1) f) before
        next =
            rw (w.front, w.count)
            (over-next (members k f) before k (omega (arith, member-fits size k f h e)) ∙ ap (λ (l : List ℕ). over l before) (sym (members-taken k f e)))

    -- past the last place the whole list is written
    pub written_end : (k n : ℕ) (out : List ℕ) → k ≡ size → Written f before k n out → (n ≡ length (members size f)) × (out ≡ over (members size f) before)
    written_end k n out e w = (w.count ∙ ap (λ (j : ℕ). length (members j f)) e, w.front ∙ ap (λ (j : ℕ). over (members j f) before) e)
