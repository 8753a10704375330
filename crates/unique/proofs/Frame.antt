-- What is not changed stays, number by number. Assumes nothing.
use mathlib.Core.Bool.{Bool, not}
use mathlib.Core.List.{List}
use mathlib.Core.Path.{◌≡◌, refl, sym, ap, ◌∙◌}
use Prim.Native.Nat.{ℕ, ◌+◌, ◌-◌, ◌<◌, ◌≤◌, ◌^◌}
use native.Mathlib.Omega.{arith}
use native.Mathlib.Decide.{dec_lt}
use lib.Dec.{eqb}
use lib.ListN.{get_or}
use Rattle.model.specs.Model.{Model, RoleSet, Session}
use Rattle.demands.proofs.Demand1.{demand1}
use Rattle.state.specs.Places.{holders_at, assigned_at, juniors_at, ssd_cards_at, ssd_roles_at, dsd_cards_at, dsd_roles_at, owners_at, active_at, users_at, roles_at, assignment_count_at, grant_count_at, line_count_at}
use Rattle.state.specs.View.{part, paired, set_of, session_of, bits, view}
use Rattle.state.proofs.Slots.{part_at}
use Rattle.state.proofs.OneToOne.{one_more, words-one, part_small}
use Rattle.unique.specs.Frame.{Frame, Same}
use Rattle.unique.specs.Unique.{State}
use Rattle.unique.proofs.Unique.{states, numbers_of}

-- a part that is the same table has the same numbers
table : (o n : ℕ) (before after : List ℕ) → ◌≡◌ {A = ℕ → ℕ} (part after o n) (part before o n) → Same o n before after
table o n before after e k h = sym (part_at after o n k h) ∙ ap (λ (f : ℕ → ℕ). f k) e ∙ part_at before o n k h

-- two parts side by side, by what their numbers make
pairs : {A : Type 0} (make : ℕ → ℕ → A) (o n : ℕ) (before after : List ℕ)
    → ((a b x y : ℕ) → make a x ≡ make b y → (a ≡ b) × (x ≡ y))
    → ◌≡◌ {A = ℕ → A} (paired make (part after o n) (part after (o + n) n)) (paired make (part before o n) (part before (o + n) n))
    → Same o (n + n) before after
pairs {A} make o n before after apart e k h = go (dec_lt k n)
  where
    here : (j : ℕ) → (part after o n j ≡ part before o n j) × (part after (o + n) n j ≡ part before (o + n) n j)
    here j = apart _ _ _ _ (ap (λ (f : ℕ → A). f j) e)

    go : Dec (k < n) → get_or after (o + k) 0 ≡ get_or before (o + k) 0
    go (yes p) = sym (part_at after o n k p) ∙ (here k).0 ∙ part_at before o n k p
    go (no p) =
        let q : k - n < n = omega arith in
        let place : o + n + (k - n) ≡ o + k = omega arith in
        rw place at (sym (part_at after (o + n) n (k - n) q) ∙ (here (k - n)).1 ∙ part_at before (o + n) n (k - n) q)

-- what a number makes gives the number back
set_apart : (a b x y : ℕ) → set_of a x ≡ set_of b y → (a ≡ b) × (x ≡ y)
set_apart a b x y e = (one_more a b (ap (λ (s : RoleSet). s.there) e) (ap (λ (s : RoleSet). s.card) e), ap (λ (s : RoleSet). s.roles) e)

session-apart : (a b x y : ℕ) → session_of a x ≡ session_of b y → (a ≡ b) × (x ≡ y)
session-apart a b x y e = (one_more a b (ap (λ (s : Session). s.live) e) (ap (λ (s : Session). s.owner) e), ap (λ (s : Session). s.active) e)

in-users : (before after : List ℕ) → State before → State after → (view after).users ≡ (view before).users → Same users_at 4 before after
unfolding view
in-users before after sb sa e k h =
    sym (part_at after users_at 4 k h)
    ∙ words-one (part after users_at 4) (part before users_at 4) (part_small after (numbers_of after sa) users_at 4) (part_small before (numbers_of before sb) users_at 4) e k
    ∙ part_at before users_at 4 k h

-- one number
number : (o : ℕ) (before after : List ℕ) → part after o 1 0 ≡ part before o 1 0 → Same o 1 before after
number o before after e k h =
    let first : k ≡ 0 = omega arith in
    rw first (sym (part_at after o 1 0 (omega arith)) ∙ e ∙ part_at before o 1 0 (omega arith))

pub frame : Frame
unfolding view
frame =
    record {
      one = λ before after sb sa e. states sa sb e refl;
      refused = λ before after sb sa c list h e. states sa sb (e ∙ (demand1.commands (view before) c list).unchanged h) refl;
      unloaded = λ before after sb sa bytes told l h e. states sa sb (e ∙ (demand1.loads (view before) bytes told l).unchanged h) refl;
      holders = λ before after e. table holders_at 4096 before after e;
      assigned = λ before after e. table assigned_at 256 before after e;
      juniors = λ before after e. table juniors_at 64 before after e;
      ssd = λ before after e. pairs set_of ssd_cards_at 16 before after set_apart e;
      dsd = λ before after e. pairs set_of dsd_cards_at 16 before after set_apart e;
      sessions = λ before after e. pairs session_of owners_at 64 before after session-apart e;
      users = in-users;
      roles = λ before after e. number roles_at before after e;
      assignment_count = λ before after e. number assignment_count_at before after e;
      grant_count = λ before after e. number grant_count_at before after e;
      line_count = λ before after e. number line_count_at before after e;
    }
