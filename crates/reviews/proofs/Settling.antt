-- How a review settles: done with the list at the front of the buffer, or refused with the buffer as it was. Assumes nothing.
use mathlib.Core.Bool.{Bool, true, false, not}
use mathlib.Core.List.{List, [], ◌∷◌}
use mathlib.Core.Path.{◌≡◌, refl, ap, ap₂, ◌∙◌}
use Prim.Native.Nat.{ℕ, ◌≤◌}
use native.Mathlib.Omega.{arith}
use lib.Dec.{ltb}
use lib.ListN.{length}
use borrow.Author.Tests.{ltb-false, le-ltb}
use Rattle.std.proofs.Common.{Result, Ok, Err}
use Rattle.numbers.specs.Answers.{refusal_number}
use Rattle.numbers.specs.declared.Refusal.{Refusal}
use Rattle.numbers.proofs.Answers.{number-one-to-one}
use Rattle.roleset.specs.Bounded.{members}
use Rattle.state.specs.Stores.{Table}
use Rattle.model.specs.Model.{Model}
use Rattle.model.specs.Sheet.{◌when◌, verdict, settle}
use Rattle.model.specs.Questions.{review}
use Rattle.reviews.specs.Reviewing.{Reviewed, Lists, refusals, meets, meeting}
use Rattle.reviews.proofs.Meeting.{shared-listed}
use Rattle.reviews.proofs.Writing.{over}

-- a refusal's number is not that of what is done
pub refused-not-done : (e : Refusal) → refusal_number e ≡ 0 → ⊥
refused-not-done e h = let z = number-one-to-one (Err e) (Ok tt) h in cc

-- a review that is not refused has room for its results
pub done-room : (beyond missing : Bool) (room n : ℕ) → verdict (refusals beyond missing room n) ≡ 0 → n ≤ room
unfolding verdict
done-room true missing room n h = absurd (omega arith)
done-room false true room n h = absurd (omega arith)
done-room false false room n h = go (ltb room n) refl
  where
    go : (b : Bool) → ltb room n ≡ b → n ≤ room
    go true e = absurd (let z = rw e at h in omega arith)
    go false e = ltb-false room n e

-- ---- a list, where nothing else is refused

pub lists-done : (list before after : List ℕ) (n : ℕ) → length list ≤ length before → n ≡ length list → after ≡ over list before → Lists false false list before after (Ok n)
unfolding settle verdict
lists-done list before after n h e b m = rw (le-ltb (length before) (length list) h, settle, verdict) (record { answer = refl; count = e; buffer = b })

-- ---- a review, by what is refused before anything is listed

-- the same review of a list that is the same unless a number is beyond its range
pub relisted : (m : Model) (room : ℕ) (beyond missing : Bool) (l k : List ℕ) → (beyond ≡ false → l ≡ k) → review m room beyond missing l ≡ review m room beyond missing k
unfolding settle verdict
relisted m room true missing l k e = refl
relisted m room false missing l k e = ap (review m room false missing) (e refl)

-- The code found `far` and `found` for what is beyond its range and what exists, neither is refused, and what is listed is the list, at least where no number is beyond its range.
pub told_listed : (m : Model) (beyond there : Bool) {far found : Bool} {list listed before after : List ℕ} {x : Result ℕ Refusal} → 0 ≡ verdict (1 when far ∷ 2 when not found ∷ []) → far ≡ beyond → found ≡ there → (beyond ≡ false → listed ≡ list) → Lists false false listed before after x → Reviewed (review m (length before) beyond (not there) list) before after x
unfolding verdict
told_listed m beyond there {far} {found} {list} {listed} {before} {after} {x} h e f = go beyond there (h ∙ ap₂ (λ (b t : Bool). verdict (1 when b ∷ 2 when not t ∷ [])) e f)
  where
    go : (b t : Bool) → 0 ≡ verdict (1 when b ∷ 2 when not t ∷ []) → (b ≡ false → listed ≡ list) → Lists false false listed before after x → Reviewed (review m (length before) b (not t) list) before after x
    go true t h same lists = absurd (omega arith)
    go false false h same lists = absurd (omega arith)
    go false true h same lists = rw (← same refl) (lists m)

-- the same, of the places of a table of the state
pub told_shared : (m : Model) (beyond there : Bool) (n : ℕ) (f : ℕ → ℕ) (asked : ℕ) {far found : Bool} {roles : ℕ} {table before after : List ℕ} {x : Result ℕ Refusal} → 0 ≡ verdict (1 when far ∷ 2 when not found ∷ []) → far ≡ beyond → found ≡ there → roles ≡ asked → Table n f table → Lists false false (meeting roles table) before after x → Reviewed (review m (length before) beyond (not there) (members n (λ k. meets asked (f k)))) before after x
told_shared m beyond there n f asked {roles = roles} {table} h e g same t = told_listed m beyond there h e g (λ o. shared-listed n f roles asked table t same)
