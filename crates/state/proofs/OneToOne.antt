-- A state is fixed by what it means: no two arrays spell one policy. Assumes nothing.
use mathlib.Core.Bool.{Bool, not}
use mathlib.Core.List.{List}
use mathlib.Core.Path.{◌≡◌, refl, sym, ap, ◌∙◌}
use Prim.Native.Nat.{ℕ, zero, suc, ◌+◌, ◌*◌, ◌/◌, ◌%◌, ◌<◌, ◌≤◌, ◌-◌, ◌^◌}
use native.Mathlib.Omega.{arith}
use native.Mathlib.Decide.{dec_lt}
use borrow.Author.Tests.{ne_eqb}
use lib.Dec.{eqb}
use lib.ListN.{get_or}
use lib.Seq.{ext_get_or}
use Rattle.roleset.specs.Roles.{has}
use Rattle.roleset.proofs.BoundedLaws.{clash}
use Rattle.roleset.proofs.Laws.{ext}
use Rattle.model.specs.Model.{Model}
use Rattle.state.specs.Places.{holders_at, assigned_at, juniors_at, ssd_cards_at, ssd_roles_at, dsd_cards_at, dsd_roles_at, owners_at, active_at, users_at, roles_at, assignment_count_at, grant_count_at, line_count_at}
use Rattle.state.specs.View.{Numbers, part, bits, view}
use Rattle.state.proofs.Slots.{part_at, part_none}

-- a session's owner and whether it is live, or a set's cardinality and whether it is there, give the number that says both
pub one_more : (a b : ℕ) → not (eqb a 0) ≡ not (eqb b 0) → a - 1 ≡ b - 1 → a ≡ b
one_more zero zero p q = refl
one_more zero (suc b) p q = clash (not (eqb (suc b) 0)) (ap not (ne_eqb (suc b) 0 (λ e. omega arith))) (sym p)
one_more (suc a) zero p q = clash (not (eqb (suc a) 0)) (ap not (ne_eqb (suc a) 0 (λ e. omega arith))) p
one_more (suc a) (suc b) p q = omega arith

-- words are fixed by their bits
pub words-one : (a b : ℕ → ℕ) → ((k : ℕ) → a k < 2 ^ 64) → ((k : ℕ) → b k < 2 ^ 64) → ◌≡◌ {A = ℕ → Bool} (bits a) (bits b) → (k : ℕ) → a k ≡ b k
words-one a b p q e k = ext (a k) (b k) (p k) (q k) (λ j h. go j (omega arith) (omega arith))
  where
    go : (j : ℕ) → (k * 64 + j) / 64 ≡ k → (k * 64 + j) % 64 ≡ j → has (a k) j ≡ has (b k) j
    go j d r = rw (d, r) at (ap (λ (f : ℕ → Bool). f (k * 64 + j)) e)

-- the number at a place, from a part that holds it
piece : (l r : List ℕ) (o n i : ℕ) → o ≤ i → i < o + n → part l o n (i - o) ≡ part r o n (i - o) → get_or l i 0 ≡ get_or r i 0
piece l r o n i p q e = rw (back) at (sym (part_at l o n (i - o) (omega arith)) ∙ e ∙ part_at r o n (i - o) (omega arith))
  where
    back : o + (i - o) ≡ i
    back = omega arith

-- what stands in a part is a word
pub part_small : (l : List ℕ) → Numbers l → (o n k : ℕ) → part l o n k < 2 ^ 64
part_small l w o n k = go (dec_lt k n)
  where
    go : Dec (k < n) → part l o n k < 2 ^ 64
    go (yes p) = rw (part_at l o n k p) (w.small (o + k))
    go (no p) = rw (part_none l o n k (omega arith)) (omega arith)

-- every place stands in one of the parts, and its number is what the view says of that part
module _ (l r : List ℕ) (p : Numbers l) (q : Numbers r) (e : view l ≡ view r) where
  one : (o i : ℕ) → i ≡ o → part l o 1 0 ≡ part r o 1 0 → get_or l i 0 ≡ get_or r i 0
  one o i here f = let start : i - o ≡ 0 = omega arith in piece l r o 1 i (omega arith) (omega arith) (rw start f)

  in_counts : (i : ℕ) → 4613 ≤ i → i < 4616 → Dec (i < 4614) → Dec (i < 4615) → get_or l i 0 ≡ get_or r i 0
  unfolding view
  in_counts i from h (yes a) b = one assignment_count_at i (omega arith) (ap (λ (m : Model). m.assignment_count) e)
  in_counts i from h (no a) (yes b) = one grant_count_at i (omega arith) (ap (λ (m : Model). m.grant_count) e)
  in_counts i from h (no a) (no b) = one line_count_at i (omega arith) (ap (λ (m : Model). m.line_count) e)

  in_roles : (i : ℕ) → 4612 ≤ i → i < 4616 → Dec (i < 4613) → get_or l i 0 ≡ get_or r i 0
  unfolding view
  in_roles i from h (yes a) = one roles_at i (omega arith) (ap (λ (m : Model). m.roles) e)
  in_roles i from h (no z) = in_counts i (omega arith) h (dec_lt i 4614) (dec_lt i 4615)

  in_users : (i : ℕ) → 4608 ≤ i → i < 4616 → Dec (i < 4612) → get_or l i 0 ≡ get_or r i 0
  unfolding view
  in_users i from h (yes a) = piece l r users_at 4 i (omega arith) (omega arith) (words-one (part l users_at 4) (part r users_at 4) (part_small l p users_at 4) (part_small r q users_at 4) (ap (λ (m : Model). m.users) e) (i - users_at))
  in_users i from h (no z) = in_roles i (omega arith) h (dec_lt i 4613)

  in_active : (i : ℕ) → 4544 ≤ i → i < 4616 → Dec (i < 4608) → get_or l i 0 ≡ get_or r i 0
  unfolding view
  in_active i from h (yes a) = piece l r active_at 64 i (omega arith) (omega arith) (ap (λ (m : Model). (m.sessions (i - active_at)).active) e)
  in_active i from h (no z) = in_users i (omega arith) h (dec_lt i 4612)

  in_owners : (i : ℕ) → 4480 ≤ i → i < 4616 → Dec (i < 4544) → get_or l i 0 ≡ get_or r i 0
  unfolding view
  in_owners i from h (yes a) = piece l r owners_at 64 i (omega arith) (omega arith) (one_more (part l owners_at 64 (i - owners_at)) (part r owners_at 64 (i - owners_at)) (ap (λ (m : Model). (m.sessions (i - owners_at)).live) e) (ap (λ (m : Model). (m.sessions (i - owners_at)).owner) e))
  in_owners i from h (no z) = in_active i (omega arith) h (dec_lt i 4608)

  in_dsdroles : (i : ℕ) → 4464 ≤ i → i < 4616 → Dec (i < 4480) → get_or l i 0 ≡ get_or r i 0
  unfolding view
  in_dsdroles i from h (yes a) = piece l r dsd_roles_at 16 i (omega arith) (omega arith) (ap (λ (m : Model). (m.dsd (i - dsd_roles_at)).roles) e)
  in_dsdroles i from h (no z) = in_owners i (omega arith) h (dec_lt i 4544)

  in_dsdcards : (i : ℕ) → 4448 ≤ i → i < 4616 → Dec (i < 4464) → get_or l i 0 ≡ get_or r i 0
  unfolding view
  in_dsdcards i from h (yes a) = piece l r dsd_cards_at 16 i (omega arith) (omega arith) (one_more (part l dsd_cards_at 16 (i - dsd_cards_at)) (part r dsd_cards_at 16 (i - dsd_cards_at)) (ap (λ (m : Model). (m.dsd (i - dsd_cards_at)).there) e) (ap (λ (m : Model). (m.dsd (i - dsd_cards_at)).card) e))
  in_dsdcards i from h (no z) = in_dsdroles i (omega arith) h (dec_lt i 4480)

  in_ssdroles : (i : ℕ) → 4432 ≤ i → i < 4616 → Dec (i < 4448) → get_or l i 0 ≡ get_or r i 0
  unfolding view
  in_ssdroles i from h (yes a) = piece l r ssd_roles_at 16 i (omega arith) (omega arith) (ap (λ (m : Model). (m.ssd (i - ssd_roles_at)).roles) e)
  in_ssdroles i from h (no z) = in_dsdcards i (omega arith) h (dec_lt i 4464)

  in_ssdcards : (i : ℕ) → 4416 ≤ i → i < 4616 → Dec (i < 4432) → get_or l i 0 ≡ get_or r i 0
  unfolding view
  in_ssdcards i from h (yes a) = piece l r ssd_cards_at 16 i (omega arith) (omega arith) (one_more (part l ssd_cards_at 16 (i - ssd_cards_at)) (part r ssd_cards_at 16 (i - ssd_cards_at)) (ap (λ (m : Model). (m.ssd (i - ssd_cards_at)).there) e) (ap (λ (m : Model). (m.ssd (i - ssd_cards_at)).card) e))
  in_ssdcards i from h (no z) = in_ssdroles i (omega arith) h (dec_lt i 4448)

  in_juniors : (i : ℕ) → 4352 ≤ i → i < 4616 → Dec (i < 4416) → get_or l i 0 ≡ get_or r i 0
  unfolding view
  in_juniors i from h (yes a) = piece l r juniors_at 64 i (omega arith) (omega arith) (ap (λ (m : Model). m.juniors (i - juniors_at)) e)
  in_juniors i from h (no z) = in_ssdcards i (omega arith) h (dec_lt i 4432)

  in_assigned : (i : ℕ) → 4096 ≤ i → i < 4616 → Dec (i < 4352) → get_or l i 0 ≡ get_or r i 0
  unfolding view
  in_assigned i from h (yes a) = piece l r assigned_at 256 i (omega arith) (omega arith) (ap (λ (m : Model). m.assigned (i - assigned_at)) e)
  in_assigned i from h (no z) = in_juniors i (omega arith) h (dec_lt i 4416)

  in_holders : (i : ℕ) → i < 4616 → Dec (i < 4096) → get_or l i 0 ≡ get_or r i 0
  unfolding view
  in_holders i h (yes a) = piece l r holders_at 4096 i (omega arith) (omega arith) (ap (λ (m : Model). m.holders (i - holders_at)) e)
  in_holders i h (no z) = in_assigned i (omega arith) h (dec_lt i 4352)

  -- two states that mean the same are one
  pub view_one_to_one : l ≡ r
  view_one_to_one = ext_get_or 0 l r (p.long ∙ sym q.long) (λ i h. in_holders i (rw p.long at h) (dec_lt i 4096))
