-- The view of a state after a store: what changes, and that all else stays. Assumes nothing.
use mathlib.Core.Bool.{Bool, true, false, ◌||◌, or-true, or-false, and-true, and-false}
use mathlib.Core.List.{List}
use mathlib.Core.Path.{◌≡◌, refl, sym, ap, ap₂, ◌∙◌, fun_ext}
use Prim.Native.Nat.{ℕ, ◌+◌, ◌-◌, ◌/◌, ◌%◌, ◌<◌, ◌≤◌}
use native.Mathlib.Omega.{arith}
use lib.Dec.{eqb, leb}
use borrow.Author.Tests.{eqb-true, eqb-false, leb-false, lt-ltb, le-ltb, eq-eqb, ne_eqb}
use borrow.Rule.Slice.PartMut.{put_mid}
use lib.ListN.{get_or, length, set, replicate, get_or-replicate}
use Rattle.roleset.specs.Roles.{has}
use Rattle.roleset.proofs.BoundedLaws.{or-clear}
use Rattle.roleset.proofs.Laws.{has-none, has-with, has-without}
use Rattle.model.specs.Model.{Model, empty, RoleSet, Session, put, with_users, with_roles, with_lines, with_assignments, with_grants, with_ssd, with_dsd, with_sessions}
use Rattle.model.proofs.Puts.{put_same, put_other}
use Rattle.model.specs.commands.Sessions.{open_for}
use Rattle.model.specs.commands.Sets.{sets_of, with_sets, a_set}
use Rattle.model.specs.declared.Kind.{Kind}
use Rattle.model.specs.declared.Kind.TheVariants.{Static, Dynamic}
use Rattle.state.specs.Places.{holders_at, assigned_at, juniors_at, ssd_cards_at, ssd_roles_at, dsd_cards_at, dsd_roles_at, sets_at, owners_at, active_at, users_at, roles_at, assignment_count_at, grant_count_at, line_count_at, places}
use Rattle.state.specs.Stores.{in_range, pick_member, set_stored, with_active}
use Rattle.state.specs.View.{part, bits, paired, set_of, session_of, view}
use Rattle.state.proofs.Slots.{Within, same, wider, then, set-within, part_at, part-store, over-within, over-part, apart_below, apart_above, part_same, part-zero}

-- ---- a place within its range, and one beyond it

pub in-range : (n k : ℕ) (before after : Model) → k < n → in_range n k before after ≡ after
unfolding in_range
in-range n k before after h = rw (in_range, lt-ltb k n h)

pub beyond : (n k : ℕ) (before after : Model) → n ≤ k → in_range n k before after ≡ before
unfolding in_range
beyond n k before after h = rw (in_range, le-ltb k n h)

-- what a command's proof asks of a store: that its number is a place, past refusal 1, and what is stored there then
pub ruleset storing = (in-range, leb-false)

-- past refusal 1 a number is a place of its table, whatever else was asked with it
pub within : (n k : ℕ) (rest : Bool) → (leb n k || rest) ≡ false → k < n
within n k rest h = leb-false n k (or-clear (leb n k) rest h).0

-- and what is stored there is stored
pub placed : (n k : ℕ) (before x after : Model) → k < n → after ≡ in_range n k before x → after ≡ x
placed n k before x after h e = e ∙ in-range n k before x h

-- roles at a place of a table, and the count that goes with them
pub placed-as : (n k : ℕ) (before after : Model) (stored : ℕ → ℕ → Model) (roles new standing count : ℕ) → roles ≡ new → standing ≡ count → k < n → after ≡ in_range n k before (stored roles standing) → after ≡ stored new count
placed-as n k before after stored roles new standing count is counted h e = placed n k before (stored roles standing) after h e ∙ ap₂ stored is counted

-- ---- the view of a state that differs within one part

module _ (l after : List ℕ) where
  pub users_changed : Within users_at 4 l after → (x : ℕ → Bool) → bits (part after users_at 4) ≡ x → view after ≡ with_users (view l) x
  unfolding view
  users_changed w x e j = record { users = e j; roles = same w roles_at 1 refl j 0; juniors = same w juniors_at 64 refl j; assigned = same w assigned_at 256 refl j; holders = same w holders_at 4096 refl j; ssd = paired set_of (same w ssd_cards_at 16 refl j) (same w ssd_roles_at 16 refl j); dsd = paired set_of (same w dsd_cards_at 16 refl j) (same w dsd_roles_at 16 refl j); sessions = paired session_of (same w owners_at 64 refl j) (same w active_at 64 refl j); assignment_count = same w assignment_count_at 1 refl j 0; grant_count = same w grant_count_at 1 refl j 0; line_count = same w line_count_at 1 refl j 0 }

  pub roles_changed : Within roles_at 1 l after → (x : ℕ) → part after roles_at 1 0 ≡ x → view after ≡ with_roles (view l) x
  unfolding view
  roles_changed w x e j = record { users = bits (same w users_at 4 refl j); roles = e j; juniors = same w juniors_at 64 refl j; assigned = same w assigned_at 256 refl j; holders = same w holders_at 4096 refl j; ssd = paired set_of (same w ssd_cards_at 16 refl j) (same w ssd_roles_at 16 refl j); dsd = paired set_of (same w dsd_cards_at 16 refl j) (same w dsd_roles_at 16 refl j); sessions = paired session_of (same w owners_at 64 refl j) (same w active_at 64 refl j); assignment_count = same w assignment_count_at 1 refl j 0; grant_count = same w grant_count_at 1 refl j 0; line_count = same w line_count_at 1 refl j 0 }

  pub juniors_changed : Within juniors_at 64 l after → (x : ℕ → ℕ) → part after juniors_at 64 ≡ x → view after ≡ with_lines (view l) x (view l).line_count
  unfolding view
  juniors_changed w x e j = record { users = bits (same w users_at 4 refl j); roles = same w roles_at 1 refl j 0; juniors = e j; assigned = same w assigned_at 256 refl j; holders = same w holders_at 4096 refl j; ssd = paired set_of (same w ssd_cards_at 16 refl j) (same w ssd_roles_at 16 refl j); dsd = paired set_of (same w dsd_cards_at 16 refl j) (same w dsd_roles_at 16 refl j); sessions = paired session_of (same w owners_at 64 refl j) (same w active_at 64 refl j); assignment_count = same w assignment_count_at 1 refl j 0; grant_count = same w grant_count_at 1 refl j 0; line_count = same w line_count_at 1 refl j 0 }

  pub lines_counted : Within line_count_at 1 l after → (x : ℕ) → part after line_count_at 1 0 ≡ x → view after ≡ with_lines (view l) (view l).juniors x
  unfolding view
  lines_counted w x e j = record { users = bits (same w users_at 4 refl j); roles = same w roles_at 1 refl j 0; juniors = same w juniors_at 64 refl j; assigned = same w assigned_at 256 refl j; holders = same w holders_at 4096 refl j; ssd = paired set_of (same w ssd_cards_at 16 refl j) (same w ssd_roles_at 16 refl j); dsd = paired set_of (same w dsd_cards_at 16 refl j) (same w dsd_roles_at 16 refl j); sessions = paired session_of (same w owners_at 64 refl j) (same w active_at 64 refl j); assignment_count = same w assignment_count_at 1 refl j 0; grant_count = same w grant_count_at 1 refl j 0; line_count = e j }

  pub assigned_changed : Within assigned_at 256 l after → (x : ℕ → ℕ) → part after assigned_at 256 ≡ x → view after ≡ with_assignments (view l) x (view l).assignment_count
  unfolding view
  assigned_changed w x e j = record { users = bits (same w users_at 4 refl j); roles = same w roles_at 1 refl j 0; juniors = same w juniors_at 64 refl j; assigned = e j; holders = same w holders_at 4096 refl j; ssd = paired set_of (same w ssd_cards_at 16 refl j) (same w ssd_roles_at 16 refl j); dsd = paired set_of (same w dsd_cards_at 16 refl j) (same w dsd_roles_at 16 refl j); sessions = paired session_of (same w owners_at 64 refl j) (same w active_at 64 refl j); assignment_count = same w assignment_count_at 1 refl j 0; grant_count = same w grant_count_at 1 refl j 0; line_count = same w line_count_at 1 refl j 0 }

  pub assignments_counted : Within assignment_count_at 1 l after → (x : ℕ) → part after assignment_count_at 1 0 ≡ x → view after ≡ with_assignments (view l) (view l).assigned x
  unfolding view
  assignments_counted w x e j = record { users = bits (same w users_at 4 refl j); roles = same w roles_at 1 refl j 0; juniors = same w juniors_at 64 refl j; assigned = same w assigned_at 256 refl j; holders = same w holders_at 4096 refl j; ssd = paired set_of (same w ssd_cards_at 16 refl j) (same w ssd_roles_at 16 refl j); dsd = paired set_of (same w dsd_cards_at 16 refl j) (same w dsd_roles_at 16 refl j); sessions = paired session_of (same w owners_at 64 refl j) (same w active_at 64 refl j); assignment_count = e j; grant_count = same w grant_count_at 1 refl j 0; line_count = same w line_count_at 1 refl j 0 }

  pub holders_changed : Within holders_at 4096 l after → (x : ℕ → ℕ) → part after holders_at 4096 ≡ x → view after ≡ with_grants (view l) x (view l).grant_count
  unfolding view
  holders_changed w x e j = record { users = bits (same w users_at 4 refl j); roles = same w roles_at 1 refl j 0; juniors = same w juniors_at 64 refl j; assigned = same w assigned_at 256 refl j; holders = e j; ssd = paired set_of (same w ssd_cards_at 16 refl j) (same w ssd_roles_at 16 refl j); dsd = paired set_of (same w dsd_cards_at 16 refl j) (same w dsd_roles_at 16 refl j); sessions = paired session_of (same w owners_at 64 refl j) (same w active_at 64 refl j); assignment_count = same w assignment_count_at 1 refl j 0; grant_count = same w grant_count_at 1 refl j 0; line_count = same w line_count_at 1 refl j 0 }

  pub grants_counted : Within grant_count_at 1 l after → (x : ℕ) → part after grant_count_at 1 0 ≡ x → view after ≡ with_grants (view l) (view l).holders x
  unfolding view
  grants_counted w x e j = record { users = bits (same w users_at 4 refl j); roles = same w roles_at 1 refl j 0; juniors = same w juniors_at 64 refl j; assigned = same w assigned_at 256 refl j; holders = same w holders_at 4096 refl j; ssd = paired set_of (same w ssd_cards_at 16 refl j) (same w ssd_roles_at 16 refl j); dsd = paired set_of (same w dsd_cards_at 16 refl j) (same w dsd_roles_at 16 refl j); sessions = paired session_of (same w owners_at 64 refl j) (same w active_at 64 refl j); assignment_count = same w assignment_count_at 1 refl j 0; grant_count = e j; line_count = same w line_count_at 1 refl j 0 }

  pub static_changed : Within ssd_cards_at 32 l after → (x : ℕ → RoleSet) → paired set_of (part after ssd_cards_at 16) (part after ssd_roles_at 16) ≡ x → view after ≡ with_ssd (view l) x
  unfolding view
  static_changed w x e j = record { users = bits (same w users_at 4 refl j); roles = same w roles_at 1 refl j 0; juniors = same w juniors_at 64 refl j; assigned = same w assigned_at 256 refl j; holders = same w holders_at 4096 refl j; ssd = e j; dsd = paired set_of (same w dsd_cards_at 16 refl j) (same w dsd_roles_at 16 refl j); sessions = paired session_of (same w owners_at 64 refl j) (same w active_at 64 refl j); assignment_count = same w assignment_count_at 1 refl j 0; grant_count = same w grant_count_at 1 refl j 0; line_count = same w line_count_at 1 refl j 0 }

  pub dynamic_changed : Within dsd_cards_at 32 l after → (x : ℕ → RoleSet) → paired set_of (part after dsd_cards_at 16) (part after dsd_roles_at 16) ≡ x → view after ≡ with_dsd (view l) x
  unfolding view
  dynamic_changed w x e j = record { users = bits (same w users_at 4 refl j); roles = same w roles_at 1 refl j 0; juniors = same w juniors_at 64 refl j; assigned = same w assigned_at 256 refl j; holders = same w holders_at 4096 refl j; ssd = paired set_of (same w ssd_cards_at 16 refl j) (same w ssd_roles_at 16 refl j); dsd = e j; sessions = paired session_of (same w owners_at 64 refl j) (same w active_at 64 refl j); assignment_count = same w assignment_count_at 1 refl j 0; grant_count = same w grant_count_at 1 refl j 0; line_count = same w line_count_at 1 refl j 0 }

  pub sessions_changed : Within owners_at 128 l after → (x : ℕ → Session) → paired session_of (part after owners_at 64) (part after active_at 64) ≡ x → view after ≡ with_sessions (view l) x
  unfolding view
  sessions_changed w x e j = record { users = bits (same w users_at 4 refl j); roles = same w roles_at 1 refl j 0; juniors = same w juniors_at 64 refl j; assigned = same w assigned_at 256 refl j; holders = same w holders_at 4096 refl j; ssd = paired set_of (same w ssd_cards_at 16 refl j) (same w ssd_roles_at 16 refl j); dsd = paired set_of (same w dsd_cards_at 16 refl j) (same w dsd_roles_at 16 refl j); sessions = e j; assignment_count = same w assignment_count_at 1 refl j 0; grant_count = same w grant_count_at 1 refl j 0; line_count = same w line_count_at 1 refl j 0 }

-- ---- two tables side by side, of sets or of sessions

-- two numbers put at one place of two tables put what they make there
pair_put : {A : Type 0} (make : ℕ → ℕ → A) (a b : ℕ → ℕ) (s x y k : ℕ) → make (put a s x k) (put b s y k) ≡ put (paired make a b) s (make x y) k
unfolding put
pair_put {A} make a b s x y k = go (eqb k s)
  where
    go : (t : Bool) → make (elim t [ true ↦ x | false ↦ a k ]) (elim t [ true ↦ y | false ↦ b k ]) ≡ elim t [ true ↦ make x y | false ↦ make (a k) (b k) ]
    go true = refl
    go false = refl

-- a number put in the second table alone
second-put : {A : Type 0} (make : ℕ → ℕ → A) (a b : ℕ → ℕ) (s y k : ℕ) → make (a k) (put b s y k) ≡ put (paired make a b) s (make (a s) y) k
unfolding put
second-put {A} make a b s y k = go (eqb k s) refl
  where
    go : (t : Bool) → eqb k s ≡ t → make (a k) (elim t [ true ↦ y | false ↦ b k ]) ≡ elim t [ true ↦ make (a s) y | false ↦ make (a k) (b k) ]
    go true e = rw (eqb-true k s e)
    go false e = refl

-- the tables of n numbers each stand at o and at o + n
module _ {A : Type 0} (make : ℕ → ℕ → A) (o n : ℕ) (l : List ℕ) (s : ℕ) (h : s < n) (fits : o + n + n ≤ length l) where
  pub common_stored : (x y : ℕ) → Within o (n + n) l (set (set l (o + s) x) (o + n + s) y) × ◌≡◌ {A = ℕ → A} (paired make (part (set (set l (o + s) x) (o + n + s) y) o n) (part (set (set l (o + s) x) (o + n + s) y) (o + n) n)) (put (paired make (part l o n) (part l (o + n) n)) s (make x y))
  common_stored x y = (then (wider first o (n + n) (omega arith) (omega arith)) (wider second o (n + n) (omega arith) (omega arith)), ap₂ (paired make) heads roles ∙ fun_ext (pair_put make (part l o n) (part l (o + n) n) s x y))
    where
      between : List ℕ
      between = set l (o + s) x

      first : Within o n l between
      first = set-within l o n s x h

      second : Within (o + n) n between (set between (o + n + s) y)
      second = set-within between (o + n) n s y h

      heads : ◌≡◌ {A = ℕ → ℕ} (part (set between (o + n + s) y) o n) (put (part l o n) s x)
      heads = same second o n (apart_below (o + n) n o n (omega arith)) ∙ part-store l o n s x h (omega arith)

      roles : ◌≡◌ {A = ℕ → ℕ} (part (set between (o + n + s) y) (o + n) n) (put (part l (o + n) n) s y)
      roles = part-store between (o + n) n s y h (rw first.long (omega arith)) ∙ ap (λ (f : ℕ → ℕ). put f s y) (same first (o + n) n (apart_above o n (o + n) n (omega arith)))

  pub second_stored : (y : ℕ) → Within o (n + n) l (set l (o + n + s) y) × ◌≡◌ {A = ℕ → A} (paired make (part (set l (o + n + s) y) o n) (part (set l (o + n + s) y) (o + n) n)) (put (paired make (part l o n) (part l (o + n) n)) s (make (part l o n s) y))
  second_stored y = (wider second o (n + n) (omega arith) (omega arith), ap₂ (paired make) (same second o n (apart_below (o + n) n o n (omega arith))) (part-store l (o + n) n s y h (omega arith)) ∙ fun_ext (second-put make (part l o n) (part l (o + n) n) s y))
    where
      second : Within (o + n) n l (set l (o + n + s) y)
      second = set-within l (o + n) n s y h

-- the sets of a kind
pub sets-changed : (kind : Kind) (l after : List ℕ) → Within (sets_at kind) 32 l after → (x : ℕ → RoleSet) → paired set_of (part after (sets_at kind) 16) (part after (sets_at kind + 16) 16) ≡ x → view after ≡ with_sets kind (view l) x
sets-changed Static l after = static_changed l after
sets-changed Dynamic l after = dynamic_changed l after

sets-viewed : (kind : Kind) (l : List ℕ) → paired set_of (part l (sets_at kind) 16) (part l (sets_at kind + 16) 16) ≡ sets_of kind (view l)
unfolding view
sets-viewed Static l = refl
sets-viewed Dynamic l = refl

pub sets-fit : (kind : Kind) → sets_at kind + 32 ≤ places
sets-fit Static = omega arith
sets-fit Dynamic = omega arith

-- a set is read, and stored: its number for the cardinality and its roles, or its roles alone
pub set_at : (kind : Kind) (l : List ℕ) (n : ℕ) → set_of (part l (sets_at kind) 16 n) (part l (sets_at kind + 16) 16 n) ≡ sets_of kind (view l) n
set_at kind l n = ap (λ (f : ℕ → RoleSet). f n) (sets-viewed kind l)

module _ (kind : Kind) (l : List ℕ) (n : ℕ) (long : length l ≡ places) (h : n < 16) where
  pub set_stored_lem : (card roles : ℕ) → view (set (set l (sets_at kind + n) card) (sets_at kind + 16 + n) roles) ≡ set_stored kind (view l) n (set_of card roles)
  set_stored_lem card roles =
      let b = common_stored set_of (sets_at kind) 16 l n h (omega (arith, sets-fit kind)) card roles in
      sets-changed kind l _ b.0 _ (b.1 ∙ ap (λ (f : ℕ → RoleSet). put f n (set_of card roles)) (sets-viewed kind l))

  pub members_stored : (roles : ℕ) → view (set l (sets_at kind + 16 + n) roles) ≡ set_stored kind (view l) n (record { there = (sets_of kind (view l) n).there; card = (sets_of kind (view l) n).card; roles = roles })
  members_stored roles =
      let b = second_stored set_of (sets_at kind) 16 l n h (omega (arith, sets-fit kind)) roles in
      sets-changed kind l _ b.0 _ (b.1 ∙ ap (λ (f : ℕ → RoleSet). put f n (record { there = (f n).there; card = (f n).card; roles = roles })) (sets-viewed kind l))

-- one more than the cardinality stands for a set that is there, and one more than the owner's number for a session that is open
pub one-more-set : (n roles : ℕ) → set_of (n + 1) roles ≡ a_set n roles
one-more-set n roles =
    let back : (n + 1) - 1 ≡ n = omega arith in
    rw (ne_eqb (n + 1) 0 (λ e. omega arith), back)

pub one-more-session : (u active : ℕ) → session_of (u + 1) active ≡ open_for u active
one-more-session u active =
    let back : (u + 1) - 1 ≡ u = omega arith in
    rw (ne_eqb (u + 1) 0 (λ e. omega arith), back)

-- a session is stored: its number for the owner and its active roles, or its active roles alone
module _ (l : List ℕ) (s : ℕ) (long : length l ≡ places) (h : s < 64) where
  pub session_stored : (owner active : ℕ) → view (set (set l (owners_at + s) owner) (active_at + s) active) ≡ with_sessions (view l) (put (view l).sessions s (session_of owner active))
  unfolding view
  session_stored owner active = let b = common_stored session_of owners_at 64 l s h (omega arith) owner active in sessions_changed l _ b.0 _ b.1

  pub active_stored : (active : ℕ) → view (set l (active_at + s) active) ≡ with_sessions (view l) (put (view l).sessions s (record { live = ((view l).sessions s).live; owner = ((view l).sessions s).owner; active = active }))
  unfolding view
  active_stored active = let b = second_stored session_of owners_at 64 l s h (omega arith) active in sessions_changed l _ b.0 _ b.1

-- one number and the count beside it
module _ (l : List ℕ) (long : length l ≡ places) (k x n : ℕ) where
  pub line_stored : k < 64 → view (set (set l (juniors_at + k) x) line_count_at n) ≡ with_lines (view l) (put (view l).juniors k x) n
  unfolding view put
  line_stored h =
      let first = set-within l juniors_at 64 k x h in
      lines_counted _ _ (set-within (set l (juniors_at + k) x) line_count_at 1 0 n (omega arith)) n (ap (λ (f : ℕ → ℕ). f 0) (part-store (set l (juniors_at + k) x) line_count_at 1 0 n (omega arith) (rw first.long (omega arith))))
      ∙ ap (λ (m : Model). with_lines m m.juniors n) (juniors_changed l _ first _ (part-store l juniors_at 64 k x h (omega arith)))

  pub assignment_stored : k < 256 → view (set (set l (assigned_at + k) x) assignment_count_at n) ≡ with_assignments (view l) (put (view l).assigned k x) n
  unfolding view put
  assignment_stored h =
      let first = set-within l assigned_at 256 k x h in
      assignments_counted _ _ (set-within (set l (assigned_at + k) x) assignment_count_at 1 0 n (omega arith)) n (ap (λ (f : ℕ → ℕ). f 0) (part-store (set l (assigned_at + k) x) assignment_count_at 1 0 n (omega arith) (rw first.long (omega arith))))
      ∙ ap (λ (m : Model). with_assignments m m.assigned n) (assigned_changed l _ first _ (part-store l assigned_at 256 k x h (omega arith)))

  pub grant_stored : k < 4096 → view (set (set l (holders_at + k) x) grant_count_at n) ≡ with_grants (view l) (put (view l).holders k x) n
  unfolding view put
  grant_stored h =
      let first = set-within l holders_at 4096 k x h in
      grants_counted _ _ (set-within (set l (holders_at + k) x) grant_count_at 1 0 n (omega arith)) n (ap (λ (f : ℕ → ℕ). f 0) (part-store (set l (holders_at + k) x) grant_count_at 1 0 n (omega arith) (rw first.long (omega arith))))
      ∙ ap (λ (m : Model). with_grants m m.holders n) (holders_changed l _ first _ (part-store l holders_at 4096 k x h (omega arith)))

-- ---- the users, 64 to a number

-- one member of one of the numbers is changed
users-put : (words : ℕ → ℕ) (u : ℕ) (there : Bool) → ◌≡◌ {A = ℕ → Bool} (bits (put words (u / 64) (pick_member there (words (u / 64)) (u % 64)))) (put (bits words) u there)
users-put words u there = fun_ext (λ k. go k (eqb k u) refl (eqb (k / 64) (u / 64)) refl)
  where
    new : ℕ
    new = pick_member there (words (u / 64)) (u % 64)

    here : (b : Bool) → has (pick_member b (words (u / 64)) (u % 64)) (u % 64) ≡ b
    here true = has-with (words (u / 64)) (u % 64) (u % 64) (omega arith) ∙ rw (eq-eqb (u % 64) (u % 64) refl) (or-true (has (words (u / 64)) (u % 64)))
    here false = has-without (words (u / 64)) (u % 64) (u % 64) (omega arith) ∙ rw (eq-eqb (u % 64) (u % 64) refl) (and-false (has (words (u / 64)) (u % 64)))

    beside : (b : Bool) (j : ℕ) → j < 64 → (j ≡ u % 64 → ⊥) → has (pick_member b (words (u / 64)) (u % 64)) j ≡ has (words (u / 64)) j
    beside true j h n = has-with (words (u / 64)) (u % 64) j h ∙ rw (ne_eqb j (u % 64) n) (or-false (has (words (u / 64)) j))
    beside false j h n = has-without (words (u / 64)) (u % 64) j h ∙ rw (ne_eqb j (u % 64) n) (and-true (has (words (u / 64)) j))

    go : (k : ℕ) (a : Bool) → eqb k u ≡ a → (b : Bool) → eqb (k / 64) (u / 64) ≡ b → bits (put words (u / 64) new) k ≡ put (bits words) u there k
    go k true e b d = rw (eqb-true k u e) (ap (λ (w : ℕ). has w (u % 64)) (put_same words (u / 64) new) ∙ here there ∙ sym (put_same (bits words) u there))
    go k false n true d =
        let apart : k ≡ u → ⊥ = eqb-false k u n in
        let same_word : k / 64 ≡ u / 64 = eqb-true (k / 64) (u / 64) d in
        ap (λ (w : ℕ). has (put words (u / 64) new w) (k % 64)) same_word
        ∙ ap (λ (w : ℕ). has w (k % 64)) (put_same words (u / 64) new)
        ∙ beside there (k % 64) (omega arith) (λ e. apart (omega arith))
        ∙ ap (λ (w : ℕ). has (words w) (k % 64)) (sym same_word)
        ∙ sym (put_other (bits words) u there k apart)
    go k false n false d =
        ap (λ (w : ℕ). has w (k % 64)) (put_other words (u / 64) new (k / 64) (eqb-false (k / 64) (u / 64) d)) ∙ sym (put_other (bits words) u there k (eqb-false k u n))

pub user-stored : (l : List ℕ) (u : ℕ) (there : Bool) → length l ≡ places → u < 256 → view (set l (users_at + u / 64) (pick_member there (get_or l (users_at + u / 64) 0) (u % 64))) ≡ with_users (view l) (put (view l).users u there)
unfolding view
user-stored l u there long h =
    let w : u / 64 < 4 = omega arith in
    let x = pick_member there (get_or l (users_at + u / 64) 0) (u % 64) in
    users_changed l _ (set-within l users_at 4 (u / 64) x w) _
    (ap bits (part-store l users_at 4 (u / 64) x w (omega arith) ∙ ap (λ (v : ℕ). put (part l users_at 4) (u / 64) (pick_member there v (u % 64))) (sym (part_at l users_at 4 (u / 64) w))) ∙ users-put (part l users_at 4) u there)

-- ---- all of a state

-- two states that agree in every place mean the same
pub all_same : (l r : List ℕ) → ((j : ℕ) → j < places → get_or l j 0 ≡ get_or r j 0) → view l ≡ view r
unfolding view
all_same l r e j = record { users = bits (part_same l r places e users_at 4 (omega arith) j); roles = part_same l r places e roles_at 1 (omega arith) j 0; juniors = part_same l r places e juniors_at 64 (omega arith) j; assigned = part_same l r places e assigned_at 256 (omega arith) j; holders = part_same l r places e holders_at 4096 (omega arith) j; ssd = paired set_of (part_same l r places e ssd_cards_at 16 (omega arith) j) (part_same l r places e ssd_roles_at 16 (omega arith) j); dsd = paired set_of (part_same l r places e dsd_cards_at 16 (omega arith) j) (part_same l r places e dsd_roles_at 16 (omega arith) j); sessions = paired session_of (part_same l r places e owners_at 64 (omega arith) j) (part_same l r places e active_at 64 (omega arith) j); assignment_count = part_same l r places e assignment_count_at 1 (omega arith) j 0; grant_count = part_same l r places e grant_count_at 1 (omega arith) j 0; line_count = part_same l r places e line_count_at 1 (omega arith) j 0 }

-- where every number is 0, there is nothing
pub all-zero : (l : List ℕ) → ((j : ℕ) → j < places → get_or l j 0 ≡ 0) → view l ≡ empty
unfolding view empty
all-zero l e = zeros ∙ ap (with_users empty) (fun_ext (λ k. has-none (k % 64)))
  where
    zeros : view l ≡ with_users empty (bits (λ k. 0))
    zeros j = record { users = bits (part-zero l places e users_at 4 (omega arith) j); roles = part-zero l places e roles_at 1 (omega arith) j 0; juniors = part-zero l places e juniors_at 64 (omega arith) j; assigned = part-zero l places e assigned_at 256 (omega arith) j; holders = part-zero l places e holders_at 4096 (omega arith) j; ssd = paired set_of (part-zero l places e ssd_cards_at 16 (omega arith) j) (part-zero l places e ssd_roles_at 16 (omega arith) j); dsd = paired set_of (part-zero l places e dsd_cards_at 16 (omega arith) j) (part-zero l places e dsd_roles_at 16 (omega arith) j); sessions = paired session_of (part-zero l places e owners_at 64 (omega arith) j) (part-zero l places e active_at 64 (omega arith) j); assignment_count = part-zero l places e assignment_count_at 1 (omega arith) j 0; grant_count = part-zero l places e grant_count_at 1 (omega arith) j 0; line_count = part-zero l places e line_count_at 1 (omega arith) j 0 }

-- an array filled with 0
pub all_zero : (l : List ℕ) (n : ℕ) → n ≡ places → l ≡ replicate n 0 → view l ≡ empty
all_zero l n e h = all-zero l (λ j p. rw h (get_or-replicate n j 0 0 (omega arith)))

-- one number that stands alone
pub roles_stored : (l : List ℕ) (x : ℕ) → length l ≡ places → view (set l roles_at x) ≡ with_roles (view l) x
unfolding put
roles_stored l x long = roles_changed l _ (set-within l roles_at 1 0 x (omega arith)) x (ap (λ (f : ℕ → ℕ). f 0) (part-store l roles_at 1 0 x (omega arith) (omega arith)))

-- a part written over with x, and the count beside it
module _ (l x : List ℕ) (long : length l ≡ places) where
  pub lines_stored : length x ≡ 64 → (n : ℕ) → view (set (put_mid juniors_at 64 l x) line_count_at n) ≡ with_lines (view l) (part x 0 64) n
  unfolding put
  lines_stored h n =
      let first = over-within juniors_at 64 l x (omega arith) h in
      lines_counted _ _ (set-within (put_mid juniors_at 64 l x) line_count_at 1 0 n (omega arith)) n (ap (λ (f : ℕ → ℕ). f 0) (part-store (put_mid juniors_at 64 l x) line_count_at 1 0 n (omega arith) (rw first.long (omega arith))))
      ∙ ap (λ (m : Model). with_lines m m.juniors n) (juniors_changed l _ first _ (over-part juniors_at 64 l x (omega arith) h))

  pub assignments_stored : length x ≡ 256 → (n : ℕ) → view (set (put_mid assigned_at 256 l x) assignment_count_at n) ≡ with_assignments (view l) (part x 0 256) n
  unfolding put
  assignments_stored h n =
      let first = over-within assigned_at 256 l x (omega arith) h in
      assignments_counted _ _ (set-within (put_mid assigned_at 256 l x) assignment_count_at 1 0 n (omega arith)) n (ap (λ (f : ℕ → ℕ). f 0) (part-store (put_mid assigned_at 256 l x) assignment_count_at 1 0 n (omega arith) (rw first.long (omega arith))))
      ∙ ap (λ (m : Model). with_assignments m m.assigned n) (assigned_changed l _ first _ (over-part assigned_at 256 l x (omega arith) h))

  pub actives_stored : length x ≡ 64 → view (put_mid active_at 64 l x) ≡ with_sessions (view l) (with_active (view l).sessions (part x 0 64))
  unfolding view
  actives_stored h =
      let first = over-within active_at 64 l x (omega arith) h in
      sessions_changed l _ (wider first owners_at 128 (omega arith) (omega arith)) _ (ap₂ (paired session_of) (same first owners_at 64 refl) (over-part active_at 64 l x (omega arith) h))

-- the laws of the stores, and those of the sets, whose places the kind decides
pub ruleset storing_one = (in-range, beyond, roles_stored, user-stored, line_stored, assignment_stored, grant_stored, session_stored, active_stored, one-more-session, all_zero, lines_stored, assignments_stored, actives_stored)

pub ruleset storing_set = (in-range, beyond, sets-fit, set_stored_lem, members_stored, one-more-set)
