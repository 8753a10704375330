-- The conditions of the refusals are what the paper's words say. Assumes nothing.
use mathlib.Core.Bool.{Bool, true, false, not, ◌&&◌, ◌||◌}
use mathlib.Core.List.Memᴰ
use mathlib.Core.List.{List, [], ◌∷◌, Memᴰ}
use mathlib.Core.Logic.{◌⊎◌, inl, inr, ⊎_elim, ◌↔◌}
use mathlib.Core.Path.{◌≡◌, refl, sym, ap, subst, ◌∙◌}
use Prim.Native.Nat.{ℕ, ◌+◌, ◌≤◌, ◌<◌}
use native.Mathlib.Omega.{arith}
use lib.Dec.{eqb, leb, ltb}
use borrow.Author.Tests.{leb-true, le-leb, leb-false, eqb-true, eq-eqb, not-false}
use Rattle.roleset.specs.Bounded.{some}
use Rattle.roleset.specs.Roles.{has, with, none, count, subset}
use Rattle.roleset.proofs.BoundedLaws.{clash, or_cases, or_left, or_right, and_left, and_right, and_both, some-elim, some-intro}
use Rattle.roleset.proofs.Laws.{has-none}
use Rattle.hierarchy.specs.Lines.{line}
use Rattle.model.specs.Lists.{some_from, listed, set_of}
use Rattle.model.specs.Model.{Model, RoleSet, Session, put}
use Rattle.model.specs.Sheet.{Told}
use Rattle.model.specs.Sound.{Existing, SetShape, Shape, Sound}
use Rattle.model.specs.Step.{step}
use Rattle.model.specs.Words.{counted, dynamic_broken}
use Rattle.model.specs.commands.Assigning.{assigned, granted}
use Rattle.model.specs.commands.Users.{in_set, without_user}
use Rattle.model.specs.commands.Inheriting.{lined}
use Rattle.model.specs.commands.Sets.{sets_of, with_sets, a_set}
use Rattle.model.specs.commands.Sessions.{lowest_free, session_set, opened, open_for, active_set}
use Rattle.model.specs.declared.Command.{Command}
use Rattle.model.specs.declared.Command.TheVariants.{AddUser, AddRole, NoUser, NoRole, Assign, Deassign, Grant, Revoke, Inherit, Disinherit, MakeSet, DropSet, AddMember, DropMember, SetCardinality, OpenSession, Activate, DropActive, EndSession, EndAll}
use Rattle.model.specs.declared.Kind.{Kind}
use Rattle.model.specs.declared.Kind.TheVariants.{Static, Dynamic}
use Rattle.model.proofs.Puts.{put_other}
use Rattle.sound.proofs.Asked.{opened-asks-all, room-asks-all}
use Rattle.sound.proofs.Carried.{existing-with, existing_at, no_session_beyond, member-there}
use Rattle.sound.proofs.Counted.{counts-none, counted-small}
use Rattle.sound.proofs.Changing.{lines_shape, assigned_shape, sets_shape}
use Rattle.sound.proofs.Inheriting.{circle-exact}
use Rattle.sound.proofs.Members.{or_no}
use Rattle.sound.proofs.Put.{put_all}
use Rattle.sound.proofs.Sessions.{lowest-free, lowest-within}
use Rattle.sound.proofs.Sets.{shape_of, there-shape, larger-shape, listed-existing}
use Rattle.sound.proofs.Shedding.{in_set-exact}
use Rattle.sound.proofs.Sheet.{AllClear, clear-done, settle-done}
use Rattle.sound.proofs.Words.{InOrBelow, listed-within}
use Rattle.demands.specs.Authorised.{Authorised, Effective}
use Rattle.demands.specs.Broken.{StaticBroken, DynamicBroken}
use Rattle.demands.specs.Conditions.{Conditions, OfLists, OfPolicy, NoneBefore}
use Rattle.demands.specs.Demand2.{Applies, place, refusals, results, effect, would_break, OpenOf, has_open}
use Rattle.demands.specs.Demand3.{Rules}
use Rattle.demands.specs.Many.{AsMany}
use Rattle.demands.proofs.Broken.{authorises, counts, broken_exact, static-exact, dynamic-exact}
use Rattle.demands.proofs.Cases.{asked, asked-applies, applies-asked, not_yet, earlier, all-clear}
use Rattle.demands.proofs.Commands.{shown}
use Rattle.demands.proofs.Counts.{many-in, assignments_many, grants_many, lines_many, sessions_many}
use Rattle.demands.proofs.Demand3.{rules}
use Rattle.demands.proofs.EffectiveRoles.{in-or-below-fewer, effective-fewer}
use Rattle.demands.proofs.Kept.{reachable-sound}
use Rattle.demands.proofs.Lists.{member, ascends}
use Rattle.demands.proofs.Many.{many-map}

-- ---- lists

beyond : (list : List ℕ) → (some_from 64 list ≡ true) ↔ ((r : ℕ) × Memᴰ r list × (64 ≤ r))
unfolding some_from
beyond list = (to list, λ f. back list f.0 f.1 f.2)
  where
    to : (l : List ℕ) → some_from 64 l ≡ true → (r : ℕ) × Memᴰ r l × (64 ≤ r)
    to [] e = clash false e refl
    to (a ∷ rest) e = go (or_cases (leb 64 a) (some_from 64 rest) e) (to rest)
      where
        go : (leb 64 a ≡ true) ⊎ (some_from 64 rest ≡ true) → (some_from 64 rest ≡ true → (r : ℕ) × Memᴰ r rest × (64 ≤ r)) → (r : ℕ) × Memᴰ r (a ∷ rest) × (64 ≤ r)
        go (inl p) ih = (a, Memᴰ.head refl, leb-true 64 a p)
        go (inr p) ih = let f = ih p in (f.0, Memᴰ.tail f.1, f.2)

    back : (l : List ℕ) (r : ℕ) → Memᴰ r l → 64 ≤ r → some_from 64 l ≡ true
    back [] r x h = absurd (Memᴰ.not-nil x)
    back (a ∷ rest) r (Memᴰ.head e) h = or_left (leb 64 a) (some_from 64 rest) (le-leb 64 a (omega arith))
    back (a ∷ rest) r (Memᴰ.tail x) h = or_right (leb 64 a) (some_from 64 rest) (back rest r x h)

within : (list : List ℕ) → some_from 64 list ≡ false → (roles : ℕ) → (subset (set_of list) roles ≡ true) ↔ ((r : ℕ) → Memᴰ r list → has roles r ≡ true)
within list e roles =
    let w = listed-within list e roles in
    ((λ h r x. w.0 h r ((member list r).1 x)), (λ f. w.1 (λ r h. f r ((member list r).0 h))))

-- ---- a policy

module _ (m : Model) (s : Sound m) where
  -- A command of which no refusal applies leaves a sound policy.
  effect_sound : (c : Command) (list : List ℕ) → AllClear (refusals m c list) → Sound (effect m c list)
  effect_sound c list clear = subst Sound (ap (λ (t : Told). t.after) ((shown m c list).listed s ∙ settle-done (refusals m c list) m (results m c list) (effect m c list) (clear-done (refusals m c list) clear))) ((shown m c list).kept s)

  -- A rule that every sound policy keeps is kept by a command that lists only numbers before the rule's.
  kept_done : (n : ℕ) (Rule : Model → Type 0) → ((x : Model) → Sound x → Rule x → ⊥) → (c : Command) (list : List ℕ) → earlier (place n) (refusals m c list) ≡ true → asked n (refusals m c list) ≡ false → NoneBefore (refusals m c list) n → (asked n (refusals m c list) ≡ true) ↔ Rule (effect m c list)
  kept_done n Rule keeps c list before off none = ((λ h. clash (asked n (refusals m c list)) h off), (λ b. absurd (keeps (effect m c list) (effect_sound c list (all-clear n (refusals m c list) before none)) b)))

  -- The same lines are no more lines.
  as_lined : (after : Model) → after.juniors ≡ m.juniors → (a j : ℕ) → line after.juniors a j ≡ true → line m.juniors a j ≡ true
  as_lined after lines a j h = sym (ap (λ (x : ℕ → ℕ). line x a j) lines) ∙ h

  -- What assigns no more, and leaves the lines and the static sets alone, keeps the static rule,
  static_fewer : (after : Model) → after.ssd ≡ m.ssd → ((u r : ℕ) → has (after.assigned u) r ≡ true → has (m.assigned u) r ≡ true) → after.juniors ≡ m.juniors → after.roles ≡ m.roles → StaticBroken after → ⊥
  static_fewer after sets fewer lines roles b = (rules m s).static (record { who = b.who; name = b.name; there = sym (ap (λ (x : ℕ → RoleSet). (x b.name).there) sets) ∙ b.there; many = subst (λ (x : ℕ → RoleSet). AsMany (x b.name).card (λ r. (has (x b.name).roles r ≡ true) × Authorised m b.who r)) sets (many-map (λ r h. (h.0, as_before r h.1)) b.many) })
    where
      as_before : (r : ℕ) → Authorised after b.who r → Authorised m b.who r
      as_before r a = record { exists = sym (ap (λ (x : ℕ). has x r) roles) ∙ a.exists; through = in-or-below-fewer m after (as_lined after lines) (after.assigned b.who) (m.assigned b.who) (fewer b.who) r a.through }

  -- so does what leaves the users' authorisations alone,
  static_same : (after : Model) → after.ssd ≡ m.ssd → after.assigned ≡ m.assigned → after.juniors ≡ m.juniors → after.roles ≡ m.roles → StaticBroken after → ⊥
  static_same after sets table = static_fewer after sets (λ u r h. sym (ap (λ (x : ℕ → ℕ). has (x u) r) table) ∙ h)

  -- and what leaves the sessions, the lines, the roles and the dynamic sets alone keeps the dynamic rule.
  dynamic_same : (after : Model) → after.dsd ≡ m.dsd → after.sessions ≡ m.sessions → after.juniors ≡ m.juniors → after.roles ≡ m.roles → DynamicBroken after → ⊥
  dynamic_same after sets sessions lines roles b = (rules m s).dynamic (record { who = b.who; name = b.name; there = sym (ap (λ (x : ℕ → RoleSet). (x b.name).there) sets) ∙ b.there; many = subst (λ (x : ℕ → RoleSet). AsMany (x b.name).card (λ r. (has (x b.name).roles r ≡ true) × Effective m b.who r)) sets (many-map (λ r h. (h.0, as_before r h.1)) b.many) })
    where
      as_before : (r : ℕ) → Effective after b.who r → Effective m b.who r
      as_before = effective-fewer m after (record { roles = λ r h. sym (ap (λ (x : ℕ). has x r) roles) ∙ h; lines = as_lined after lines; active = λ k r h. sym (ap (λ (x : ℕ → Session). has (x k).active r) sessions) ∙ h }) b.who

  -- a rule that is not on the list, and that the command cannot break
  off : {b : Bool} {Rule : Type 0} → b ≡ false → (Rule → ⊥) → (b ≡ true) ↔ Rule
  off {b} e never = ((λ h. clash b h e), (λ x. absurd (never x)))

  -- ---- one set made or changed, to one of the right shape

  abbrev BrokenOf : Kind → Model → Type 0
  BrokenOf Static x = StaticBroken x
  BrokenOf Dynamic x = DynamicBroken x

  set_exact : (kind : Kind) (name : ℕ) (new : RoleSet) → SetShape m name new → (would_break kind (with_sets kind m (put (sets_of kind m) name new)) ≡ true) ↔ BrokenOf kind (with_sets kind m (put (sets_of kind m) name new))
  set_exact kind name new x = go kind (put_all (λ n set. SetShape m n set) (sets_of kind m) name new x (λ n d. shape_of kind m s.shape n))
    where
      go : (k : Kind) → ((n : ℕ) → SetShape m n (put (sets_of k m) name new n)) → (would_break k (with_sets k m (put (sets_of k m) name new)) ≡ true) ↔ BrokenOf k (with_sets k m (put (sets_of k m) name new))
      go Static shaped = static-exact (with_sets Static m (put m.ssd name new)) (sets_shape m s.shape Static (put m.ssd name new) shaped)
      go Dynamic shaped = dynamic-exact (with_sets Dynamic m (put m.dsd name new)) (sets_shape m s.shape Dynamic (put m.dsd name new) shaped)

  made_shape : (name n : ℕ) (list : List ℕ) → (leb 16 name || some_from 64 list) ≡ false → not (subset (set_of list) m.roles) ≡ false → (ltb n 2 || ltb (count (set_of list)) n) ≡ false → SetShape m name (a_set n (set_of list))
  made_shape name n list c1 c2 c7 = there-shape m name n (set_of list) (leb-false 16 name (or_no (leb 16 name) (some_from 64 list) c1).0) c7 (listed-existing m list (not-false (subset (set_of list) m.roles) c2))

  grown_shape : (kind : Kind) (name r : ℕ) → (not (sets_of kind m name).there || not (has m.roles r)) ≡ false → SetShape m name (a_set (sets_of kind m name).card (with (sets_of kind m name).roles r))
  grown_shape kind name r c2 =
      let there = or_no (not (sets_of kind m name).there) (not (has m.roles r)) c2 in
      larger-shape m name (sets_of kind m name) r (shape_of kind m s.shape name) (not-false (sets_of kind m name).there there.0) (not-false (has m.roles r) there.1)

  sized_shape : (kind : Kind) (name n : ℕ) → not (sets_of kind m name).there ≡ false → (ltb n 2 || ltb (count (sets_of kind m name).roles) n) ≡ false → SetShape m name (a_set n (sets_of kind m name).roles)
  sized_shape kind name n c2 c7 =
      let x = shape_of kind m s.shape name in
      there-shape m name n (sets_of kind m name).roles (x.named (not-false (sets_of kind m name).there c2)) c7 x.members

  -- ---- one session changed

  session_exact : (n k : ℕ) (new : Session) → 64 ≤ n → k < n → Existing m new.active → (some n (dynamic_broken (session_set m k new)) ≡ true) ↔ DynamicBroken (session_set m k new)
  unfolding dynamic_broken
  session_exact n k new most l existing =
      broken_exact n m.dsd (counted after) (Effective after)
      (counted-small after)
      (λ i. counts m s.shape (put m.sessions k new) i (exist i))
      (λ i r beyond h. clash (has (counted after i) r) ((counts m s.shape (put m.sessions k new) i (exist i) r).1 h) (counts-none after i (λ j. ap (λ (x : Session). has x.active j) (put_other m.sessions k new i (λ e. omega arith) ∙ no_session_beyond m s.shape i (omega arith)) ∙ has-none j) r))
      (λ name. (s.shape.dsd name).named)
      (λ name t. let two = (s.shape.dsd name).at_least t in omega arith)
    where
      after : Model
      after = session_set m k new

      exist : (i : ℕ) → Existing m (put m.sessions k new i).active
      exist = put_all (λ i x. Existing m x.active) m.sessions k new existing (λ i d. (s.shape.sessions i).active)

  -- ---- every command

  assign_exact : (u r : ℕ) → (leb 256 u || leb 64 r) ≡ false → (not (m.users u) || not (has m.roles r)) ≡ false → (would_break Static (assigned m u r) ≡ true) ↔ StaticBroken (assigned m u r)
  unfolding assigned
  assign_exact u r c1 c2 =
      let there = or_no (not (m.users u)) (not (has m.roles r)) c2 in
      let new : ℕ → ℕ = put m.assigned u (with (m.assigned u) r) in
      static-exact (assigned m u r)
      (assigned_shape m s.shape new (m.assignment_count + 1)
      (put_all (λ k set. (j : ℕ) → has set j ≡ true → m.users k ≡ true) m.assigned u (with (m.assigned u) r) (λ j e. not-false (m.users u) there.0) (λ k d j e. s.shape.assignees k j e))
      (existing_at m m.assigned u r s.shape.assigned (not-false (has m.roles r) there.1)))

  lined_shape : (a b : ℕ) → (not (has m.roles a) || not (has m.roles b)) ≡ false → Shape (lined m a b)
  unfolding lined
  lined_shape a b c2 =
      let there = or_no (not (has m.roles a)) (not (has m.roles b)) c2 in
      let new : ℕ → ℕ = put m.juniors a (with (m.juniors a) b) in
      lines_shape m s.shape new (m.line_count + 1)
      (put_all (λ k set. (j : ℕ) → has set j ≡ true → has m.roles k ≡ true) m.juniors a (with (m.juniors a) b) (λ j e. not-false (has m.roles a) there.0) (λ k d j e. s.shape.seniors k j e))
      (existing_at m m.juniors a b s.shape.juniors (not-false (has m.roles b) there.1))

  -- `nouser` takes assignments away
  fewer_assigned : (u v r : ℕ) → has (put m.assigned u none v) r ≡ true → has (m.assigned v) r ≡ true
  fewer_assigned u = put_all (λ v set. (r : ℕ) → has set r ≡ true → has (m.assigned v) r ≡ true) m.assigned u none (λ r e. clash (has 0 r) e (has-none r)) (λ v d r e. e)

  static_keeps : (x : Model) → Sound x → StaticBroken x → ⊥
  static_keeps x sx = (rules x sx).static

  dynamic_keeps : (x : Model) → Sound x → DynamicBroken x → ⊥
  dynamic_keeps x sx = (rules x sx).dynamic

  static_asked : (c : Command) (list : List ℕ) → NoneBefore (refusals m c list) 10 → (asked 10 (refusals m c list) ≡ true) ↔ StaticBroken (effect m c list)
  unfolding refusals effect without_user granted opened active_set
  static_asked (AddUser u) list none = kept_done 10 StaticBroken static_keeps (AddUser u) list refl refl none
  static_asked (AddRole r) list none = kept_done 10 StaticBroken static_keeps (AddRole r) list refl refl none
  static_asked (NoUser u) list none = off refl (static_fewer (effect m (NoUser u) list) refl (fewer_assigned u.number) refl refl)
  static_asked (NoRole r) list none = kept_done 10 StaticBroken static_keeps (NoRole r) list refl refl none
  static_asked (Assign u r) list none = assign_exact u.number r.number (not_yet 10 1 _ none (omega arith)) (not_yet 10 2 _ none (omega arith))
  static_asked (Deassign u r) list none = kept_done 10 StaticBroken static_keeps (Deassign u r) list refl refl none
  static_asked (Grant op obj r) list none = off refl (static_same (effect m (Grant op obj r) list) refl refl refl refl)
  static_asked (Revoke op obj r) list none = kept_done 10 StaticBroken static_keeps (Revoke op obj r) list refl refl none
  static_asked (Inherit a b) list none = static-exact (lined m a.number b.number) (lined_shape a.number b.number (not_yet 10 2 _ none (omega arith)))
  static_asked (Disinherit a b) list none = kept_done 10 StaticBroken static_keeps (Disinherit a b) list refl refl none
  static_asked (MakeSet Static name n) list none = set_exact Static name.number (a_set n (set_of list)) (made_shape name.number n list (not_yet 10 1 _ none (omega arith)) (not_yet 10 2 _ none (omega arith)) (not_yet 10 7 _ none (omega arith)))
  static_asked (MakeSet Dynamic name n) list none = off refl (static_same (effect m (MakeSet Dynamic name n) list) refl refl refl refl)
  static_asked (DropSet kind name) list none = kept_done 10 StaticBroken static_keeps (DropSet kind name) list refl refl none
  static_asked (AddMember Static name r) list none = set_exact Static name.number (a_set (m.ssd name.number).card (with (m.ssd name.number).roles r.number)) (grown_shape Static name.number r.number (not_yet 10 2 _ none (omega arith)))
  static_asked (AddMember Dynamic name r) list none = off refl (static_same (effect m (AddMember Dynamic name r) list) refl refl refl refl)
  static_asked (DropMember kind name r) list none = kept_done 10 StaticBroken static_keeps (DropMember kind name r) list refl refl none
  static_asked (SetCardinality Static name n) list none = set_exact Static name.number (a_set n (m.ssd name.number).roles) (sized_shape Static name.number n (not_yet 10 2 _ none (omega arith)) (not_yet 10 7 _ none (omega arith)))
  static_asked (SetCardinality Dynamic name n) list none = off refl (static_same (effect m (SetCardinality Dynamic name n) list) refl refl refl refl)
  static_asked (OpenSession u) list none = off refl (static_same (effect m (OpenSession u) list) refl refl refl refl)
  static_asked (Activate u k r) list none = off refl (static_same (effect m (Activate u k r) list) refl refl refl refl)
  static_asked (DropActive u k r) list none = kept_done 10 StaticBroken static_keeps (DropActive u k r) list refl refl none
  static_asked (EndSession u k) list none = kept_done 10 StaticBroken static_keeps (EndSession u k) list refl refl none
  static_asked (EndAll u) list none = kept_done 10 StaticBroken static_keeps (EndAll u) list refl refl none

  dynamic_asked : (c : Command) (list : List ℕ) → NoneBefore (refusals m c list) 11 → (asked 11 (refusals m c list) ≡ true) ↔ DynamicBroken (effect m c list)
  unfolding refusals effect without_user granted assigned lined opened active_set set_of
  dynamic_asked (AddUser u) list none = kept_done 11 DynamicBroken dynamic_keeps (AddUser u) list refl refl none
  dynamic_asked (AddRole r) list none = kept_done 11 DynamicBroken dynamic_keeps (AddRole r) list refl refl none
  dynamic_asked (NoUser u) list none = off refl (dynamic_same (effect m (NoUser u) list) refl refl refl refl)
  dynamic_asked (NoRole r) list none = kept_done 11 DynamicBroken dynamic_keeps (NoRole r) list refl refl none
  dynamic_asked (Assign u r) list none = off refl (dynamic_same (effect m (Assign u r) list) refl refl refl refl)
  dynamic_asked (Deassign u r) list none = kept_done 11 DynamicBroken dynamic_keeps (Deassign u r) list refl refl none
  dynamic_asked (Grant op obj r) list none = off refl (dynamic_same (effect m (Grant op obj r) list) refl refl refl refl)
  dynamic_asked (Revoke op obj r) list none = kept_done 11 DynamicBroken dynamic_keeps (Revoke op obj r) list refl refl none
  dynamic_asked (Inherit a b) list none = dynamic-exact (lined m a.number b.number) (lined_shape a.number b.number (not_yet 11 2 _ none (omega arith)))
  dynamic_asked (Disinherit a b) list none = kept_done 11 DynamicBroken dynamic_keeps (Disinherit a b) list refl refl none
  dynamic_asked (MakeSet Static name n) list none = kept_done 11 DynamicBroken dynamic_keeps (MakeSet Static name n) list refl refl none
  dynamic_asked (MakeSet Dynamic name n) list none = set_exact Dynamic name.number (a_set n (set_of list)) (made_shape name.number n list (not_yet 11 1 _ none (omega arith)) (not_yet 11 2 _ none (omega arith)) (not_yet 11 7 _ none (omega arith)))
  dynamic_asked (DropSet kind name) list none = kept_done 11 DynamicBroken dynamic_keeps (DropSet kind name) list refl refl none
  dynamic_asked (AddMember Static name r) list none = kept_done 11 DynamicBroken dynamic_keeps (AddMember Static name r) list refl refl none
  dynamic_asked (AddMember Dynamic name r) list none = set_exact Dynamic name.number (a_set (m.dsd name.number).card (with (m.dsd name.number).roles r.number)) (grown_shape Dynamic name.number r.number (not_yet 11 2 _ none (omega arith)))
  dynamic_asked (DropMember kind name r) list none = kept_done 11 DynamicBroken dynamic_keeps (DropMember kind name r) list refl refl none
  dynamic_asked (SetCardinality Static name n) list none = kept_done 11 DynamicBroken dynamic_keeps (SetCardinality Static name n) list refl refl none
  dynamic_asked (SetCardinality Dynamic name n) list none = set_exact Dynamic name.number (a_set n (m.dsd name.number).roles) (sized_shape Dynamic name.number n (not_yet 11 2 _ none (omega arith)) (not_yet 11 7 _ none (omega arith)))
  dynamic_asked (OpenSession u) list none = session_exact 65 (lowest_free m) (open_for u.number (set_of list)) (omega arith) (omega (arith, lowest-within m)) (listed-existing m list (not-false (subset (set_of list) m.roles) (or_no (not (m.users u.number)) (not (subset (set_of list) m.roles)) (not_yet 11 2 (refusals m (OpenSession u) list) none (omega arith))).1))
  dynamic_asked (Activate u k r) list none =
      let there = or_no (not (m.users u.number)) (not (m.sessions k.number).live || not (has m.roles r.number)) (not_yet 11 2 (refusals m (Activate u k r) list) none (omega arith)) in
      let both = or_no (not (m.sessions k.number).live) (not (has m.roles r.number)) there.1 in
      let live = not-false (m.sessions k.number).live both.0 in
      session_exact 64 k.number _ (omega arith) ((s.shape.sessions k.number).numbered live) (existing-with m (m.sessions k.number).active r.number (s.shape.sessions k.number).active (not-false (has m.roles r.number) both.1))
  dynamic_asked (DropActive u k r) list none = kept_done 11 DynamicBroken dynamic_keeps (DropActive u k r) list refl refl none
  dynamic_asked (EndSession u k) list none = kept_done 11 DynamicBroken dynamic_keeps (EndSession u k) list refl refl none
  dynamic_asked (EndAll u) list none = kept_done 11 DynamicBroken dynamic_keeps (EndAll u) list refl refl none

  in_words : {n : ℕ} {Rule : Type 0} (c : Command) (list : List ℕ) → (asked n (refusals m c list) ≡ true) ↔ Rule → Applies (refusals m c list) n ↔ Rule
  in_words {n} c list e = ((λ a. e.0 (applies-asked n (refusals m c list) (shown m c list).ordered a)), (λ b. asked-applies n (refusals m c list) (e.1 b)))

  policy : OfPolicy m
  policy =
      record {
        circle = circle-exact m s;
        stands = stands;
        authorises = authorises m s.shape;
        assigned = assignments_many m s.shape;
        granted = grants_many m s.shape;
        lined = lines_many m s.shape;
        opened = sessions_many m s.shape;
        opens = opens_exact;
        lowest = λ free. let f = lowest-free m free in (f.within, f.free, λ k l. f.lowest k (omega arith) l);
        room = λ u roles free. sym (opened-asks-all m s u roles) ∙ room-asks-all m s u roles free;
        static = λ c list none. in_words c list (static_asked c list none);
        dynamic = λ c list none. in_words c list (dynamic_asked c list none);
      }
    where
      opens_exact : (u : ℕ) → (has_open m u ≡ true) ↔ ((k : ℕ) × OpenOf m u k)
      opens_exact u =
          let live : ℕ → Bool = λ k. (m.sessions k).live in
          let own : ℕ → Bool = λ k. eqb (m.sessions k).owner u in (
            (λ e. let f = some-elim 64 (λ k. live k && own k) e in (f.0, (and_left (live f.0) (own f.0) f.2, eqb-true (m.sessions f.0).owner u (and_right (live f.0) (own f.0) f.2)))),
            (λ f. some-intro 64 (λ k. live k && own k) f.0 ((s.shape.sessions f.0).numbered f.1.0) (and_both (live f.0) (own f.0) f.1.0 (eq-eqb (m.sessions f.0).owner u f.1.1))),
          )

      stands : (kind : Kind) (r : ℕ) → (in_set (sets_of kind m) r ≡ true) ↔ ((name : ℕ) × ((sets_of kind m name).there ≡ true) × (has (sets_of kind m name).roles r ≡ true))
      stands kind r =
          let x = in_set-exact m (sets_of kind m) (shape_of kind m s.shape) r in
          ((λ e. let f = x.0 e in (f.0, member-there m f.0 (sets_of kind m f.0) r (shape_of kind m s.shape f.0) f.1, f.1)), (λ f. x.1 (f.0, f.2)))

-- what the refusals of demand 2 compute is what the paper's words say
pub conditions : Conditions
conditions = record { lists = record { member = member; ascends = ascends; beyond = beyond; within = within; size = λ roles small n. many-in n roles small }; policy = λ m p. policy m (reachable-sound p) }
