-- What `activate` and `drop` share: the refusals that both begin with, what holds past them, and the store that ends both. Assumes nothing.
use borrow.Author.Tests.{leb-false, eqb-true, eq-eqb}
use mathlib.Core.Bool.{Bool, true, false, ◌||◌}
use mathlib.Core.List.{List, [], ◌∷◌, ◌++◌}
use mathlib.Core.Path.{◌≡◌, refl, sym, ap, ◌∙◌}
use Prim.Native.Nat.{ℕ, ◌<◌}
use native.Mathlib.Omega.{arith}
use lib.Dec.{eqb}
use Rattle.roleset.proofs.BoundedLaws.{clash, or-clear}
use Rattle.model.specs.Model.{Model}
use Rattle.model.specs.Sheet.{Refusal, ◌when◌, verdict, settle, done, refused}
use Rattle.model.specs.commands.Naming.{user_beyond, role_beyond, session_beyond, user_missing, role_missing, session_missing}
use Rattle.model.specs.commands.Sessions.{not_owner, active_set}
use Rattle.state.specs.Stores.{in_range}
use Rattle.state.proofs.Stored.{in-range}
use Rattle.sessions.specs.First.{first_refusals}

-- the conditions of refusals 1 and 2
abbrev pub beyond : ℕ → ℕ → ℕ → Bool
beyond u s r = user_beyond u || (session_beyond s || role_beyond r)

abbrev pub missing : Model → ℕ → ℕ → ℕ → Bool
missing m u s r = user_missing m u || (session_missing m s || role_missing m r)

abbrev three : Bool → Bool → Bool → List Refusal → List Refusal
three a b c rest = 1 when a ∷ 2 when b ∷ 3 when c ∷ rest

-- where one of the three holds, it is told, and what comes after them is not asked,
held : (a b c : Bool) (rest : List Refusal) (m after : Model) (n : ℕ) → n ≡ verdict (three a b c []) → eqb n 0 ≡ false → refused n m ≡ settle (three a b c rest) m [] after
unfolding verdict settle
held true b c rest m after n p h = ap (λ (k : ℕ). refused k m) p
held false true c rest m after n p h = ap (λ (k : ℕ). refused k m) p
held false false true rest m after n p h = ap (λ (k : ℕ). refused k m) p
held false false false rest m after n p h = clash (eqb n 0) (eq-eqb n 0 p) h

-- and where the answer is 0, none holds
clear : (a b c : Bool) → verdict (three a b c []) ≡ 0 → (a ≡ false) × ((b ≡ false) × (c ≡ false))
unfolding verdict
clear true b c h = absurd (omega arith)
clear false true c h = absurd (omega arith)
clear false false true h = absurd (omega arith)
clear false false false h = (refl, (refl, refl))

-- A number beyond its range, or what is missing or another's, is told whatever else is asked.
pub refuses : (m : Model) (u s r : ℕ) (rest : List Refusal) (after : Model) (n : ℕ) → n ≡ verdict (first_refusals m u s r) → eqb n 0 ≡ false → refused n m ≡ settle (first_refusals m u s r ++ rest) m [] after
refuses m u s r rest after n p h = held (beyond u s r) (missing m u s r) (not_owner m u s) rest m after n p h

-- past the refusals 1, 2 and 3
pub record Named (m : Model) (u s r : ℕ) : Type 0 where
  pub within : beyond u s r ≡ false
  pub there : missing m u s r ≡ false
  pub own : not_owner m u s ≡ false
  pub place : s < 64

pub named : (m : Model) (u s r n : ℕ) → n ≡ verdict (first_refusals m u s r) → eqb n 0 ≡ true → Named m u s r
named m u s r n p h =
    let all = clear (beyond u s r) (missing m u s r) (not_owner m u s) (sym p ∙ eqb-true n 0 h) in
    record { within = all.0; there = all.1.0; own = all.1.1; place = leb-false 64 s (or-clear (session_beyond s) (role_beyond r) (or-clear (user_beyond u) (session_beyond s || role_beyond r) all.0).1).0 }

-- what is told where the session's active roles are stored
pub stored : (m after : Model) (s roles kept : ℕ) → after ≡ in_range 64 s m (active_set m s kept) → s < 64 → roles ≡ kept → done [] after ≡ done [] (active_set m s roles)
stored m after s roles kept p h e = ap (done []) (p ∙ in-range 64 s m (active_set m s kept) h ∙ ap (active_set m s) (sym e))
