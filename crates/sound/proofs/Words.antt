-- What the model computes is what the paper's words state, in a sound model. Assumes nothing.
use mathlib.Core.Bool.{true, false, not}
use mathlib.Core.List.{List, [], ◌∷◌}
use mathlib.Core.Logic.{◌⊎◌, inl, inr, ◌↔◌}
use mathlib.Core.Path.{◌≡◌, refl, ◌∙◌}
use Prim.Native.Nat.{ℕ, ◌≤◌, ◌<◌}
use lib.Dec.{eqb, leb}
use native.Mathlib.Omega.{arith}
use borrow.Author.Tests.{not-true, eqb-true, leb-false}
use Rattle.roleset.specs.Roles.{has, common, count, is_empty, subset}
use Rattle.roleset.proofs.BoundedLaws.{clash, never, not_yes, or_cases, tally-le}
use Rattle.roleset.proofs.Laws.{member-small, has-those, those-member, subset-true, subset-intro, is_empty-true, is_empty_false}
use Rattle.hierarchy.specs.Lines.{Inherits, AtOrAbove}
use Rattle.hierarchy.proofs.WalkLaws.{reach_sound, reach_complete, reach_small}
use Rattle.model.specs.Model.{Model}
use Rattle.model.specs.Words.{reached, authorised, effective, breaks_some, counted, static_broken, dynamic_broken, shed, sessions_open}
use Rattle.model.specs.Lists.{listed, set_of, some_from}
use Rattle.model.specs.Sound.{Existing, Shape, Sound}
use Rattle.model.specs.commands.Sets.{sets_of}
use Rattle.model.specs.commands.Sessions.{permitted}
use Rattle.model.specs.declared.Kind.{Kind}
use Rattle.model.specs.declared.Kind.TheVariants.{Static, Dynamic}
use Rattle.sound.proofs.Members.{or_no, common-member, common-intro}
use Rattle.sound.proofs.Breaking.{unbroken-exact, none-breaks, each-unbroken}
use Rattle.sound.proofs.Carried.{reached_exist, lines_small}
use Rattle.sound.proofs.Changing.{held}
use Rattle.sound.proofs.Sets.{shape_of, rule-of}
use Rattle.sound.proofs.Shedding.{shedded-all}

-- ---- inheritance

-- r is a role of the set, or a role of the set inherits it
abbrev pub InOrBelow : Model → ℕ → ℕ → Type 0
InOrBelow m from r = (has from r ≡ true) ⊎ ((a : ℕ) × (has from a ≡ true) × Inherits m.juniors a r)

-- The roles reached from a set of existing roles are the existing roles that are in it or inherited by one in it.
pub reached-exact : (m : Model) → Shape m → (from : ℕ) → Existing m from → (r : ℕ) → (has (reached m from) r ≡ true) ↔ ((has m.roles r ≡ true) × InOrBelow m from r)
reached-exact m x from e r = (to, back)
  where
    to : has (reached m from) r ≡ true → (has m.roles r ≡ true) × InOrBelow m from r
    to h = let u = reach_sound m.juniors from r h in ((reached_exist m x from e).exist r h, side u.role u.member u.down)
      where
        side : (a : ℕ) → has from a ≡ true → AtOrAbove m.juniors a r → InOrBelow m from r
        side a h (inl p) = inl (rw p at h)
        side a h (inr p) = inr (a, h, p)

    met : (a : ℕ) → has from a ≡ true → AtOrAbove m.juniors a r → has (reached m from) r ≡ true
    met a h p = reach_complete m.juniors from (lines_small m x) r (record { role = a; small = member-small from a e.small h; member = h; down = p })

    back : (has m.roles r ≡ true) × InOrBelow m from r → has (reached m from) r ≡ true
    back p = side p.1
      where
        side : InOrBelow m from r → has (reached m from) r ≡ true
        side (inl h) = met r h (inl refl)
        side (inr q) = met q.0 q.1 (inr q.2)

-- "Authorised: a user is authorised for an existing role if assigned to it or to a role that inherits it."
pub authorised-exact : (m : Model) → Sound m → (u r : ℕ) → (has (authorised m u) r ≡ true) ↔ ((has m.roles r ≡ true) × InOrBelow m (m.assigned u) r)
authorised-exact m s u r = reached-exact m s.shape (m.assigned u) (s.shape.assigned u) r

-- "Effective roles of a session: its active roles and all roles these inherit"
pub effective-exact : (m : Model) → Sound m → (k r : ℕ) → (has (effective m k) r ≡ true) ↔ ((has m.roles r ≡ true) × InOrBelow m (m.sessions k).active r)
effective-exact m s k r = reached-exact m s.shape (m.sessions k).active (s.shape.sessions k).active r

-- ---- permissions

-- "Yes exactly when some effective role of the session holds the grant."
pub permitted-exact : (m : Model) (k p : ℕ) → (permitted m k p ≡ true) ↔ ((r : ℕ) × (has (effective m k) r ≡ true) × (has (m.holders p) r ≡ true))
unfolding permitted
permitted-exact m k p = (to, back)
  where
    to : not (is_empty (common (effective m k) (m.holders p))) ≡ true → (r : ℕ) × (has (effective m k) r ≡ true) × (has (m.holders p) r ≡ true)
    to e =
        let found = is_empty_false (common (effective m k) (m.holders p)) (not-true (is_empty (common (effective m k) (m.holders p))) e) in
        let member = common-member (effective m k) (m.holders p) found.0 found.2 in
        (found.0, member.1, member.2)

    back : (r : ℕ) × (has (effective m k) r ≡ true) × (has (m.holders p) r ≡ true) → not (is_empty (common (effective m k) (m.holders p))) ≡ true
    back q =
        let small : q.0 < 64 = member-small (effective m k) q.0 (reach_small m.juniors (m.sessions k).active) q.1 in
        not_yes (is_empty (common (effective m k) (m.holders p))) (never (is_empty (common (effective m k) (m.holders p))) (λ e. clash (has (common (effective m k) (m.holders p)) q.0) (common-intro (effective m k) (m.holders p) q.0 small q.1 q.2) (is_empty-true (common (effective m k) (m.holders p)) e q.0 small)))

-- ---- separation

-- every set of the kind has fewer than its cardinality of its roles among those held
abbrev pub Separated : Kind → Model → ℕ → Type 0
Separated kind m i = (n : ℕ) → (sets_of kind m n).there ≡ true → count (common (sets_of kind m n).roles (held kind m i)) < (sets_of kind m n).card

-- The rule of a kind is not broken exactly where every set of the kind keeps the roles held separated.
pub separated-exact : (kind : Kind) (m : Model) → Shape m → (i : ℕ) → (breaks_some (sets_of kind m) (held kind m i) ≡ false) ↔ Separated kind m i
separated-exact kind m x i = (
  (λ e n t. (unbroken-exact (sets_of kind m n) (held kind m i)).0 (each-unbroken (sets_of kind m) (held kind m i) e n ((shape_of kind m x n).named t)) t),
  (λ h. none-breaks (sets_of kind m) (held kind m i) (λ n l. (unbroken-exact (sets_of kind m n) (held kind m i)).1 (h n))),
)

-- "SSD set: .. Every user is authorised for fewer than n of them."
pub static-exact : (m : Model) → Shape m → (u : ℕ) → (static_broken m u ≡ false) ↔ ((n : ℕ) → (m.ssd n).there ≡ true → count (common (m.ssd n).roles (authorised m u)) < (m.ssd n).card)
unfolding static_broken
static-exact m x u = separated-exact Static m x u

-- "a session may have fewer than n effective roles of a dynamic set"
pub dynamic-exact : (m : Model) → Shape m → (k : ℕ) → (dynamic_broken m k ≡ false) ↔ ((n : ℕ) → (m.dsd n).there ≡ true → count (common (m.dsd n).roles (counted m k)) < (m.dsd n).card)
unfolding dynamic_broken
dynamic-exact m x k = separated-exact Dynamic m x k

-- In a sound model both hold, of every user and in every session.
pub sound-separated : (kind : Kind) (m : Model) → Sound m → (i : ℕ) → Separated kind m i
sound-separated kind m s i = (separated-exact kind m s.shape i).0 (rule-of kind m s i)

-- ---- shedding

-- "The session stays open": shedding changes neither whether a session is live nor its owner.
pub shed-stays : (m : Model) (k : ℕ) → (((shed m).sessions k).live ≡ (m.sessions k).live) × (((shed m).sessions k).owner ≡ (m.sessions k).owner)
unfolding shed
shed-stays m k = shedded-all (λ y. (y.live ≡ (m.sessions k).live) × (y.owner ≡ (m.sessions k).owner)) m.juniors m.assigned (m.sessions k) (λ e. (refl, refl)) (λ e. (refl, refl))

-- "every session keeps exactly those active roles for which its owner is still authorised"
pub shed-exact : (m : Model) (k r : ℕ) → (m.sessions k).live ≡ true → (has ((shed m).sessions k).active r ≡ true) ↔ ((has (m.sessions k).active r ≡ true) × (has (authorised m (m.sessions k).owner) r ≡ true))
unfolding shed
shed-exact m k r live = shedded-all (λ y. (has y.active r ≡ true) ↔ ((has (m.sessions k).active r ≡ true) × (has held_by_owner r ≡ true))) m.juniors m.assigned (m.sessions k)
    (λ e. ((λ h. let b = common-member (m.sessions k).active held_by_owner r h in (b.1, b.2)), (λ p. common-intro (m.sessions k).active held_by_owner r (member-small held_by_owner r (reach_small m.juniors (m.assigned (m.sessions k).owner)) p.1) p.0 p.1)))
    (λ e. clash (m.sessions k).live live e)
  where
    held_by_owner : ℕ
    held_by_owner = authorised m (m.sessions k).owner

-- ---- lists of roles

-- a listed role is below 64 where none from 64 on is listed
listed_small : (list : List ℕ) (r : ℕ) → some_from 64 list ≡ false → listed list r ≡ true → r < 64
unfolding some_from listed
listed_small [] r h e = clash false e refl
listed_small (a ∷ rest) r h e = go (or_cases (eqb r a) (listed rest r) e) (listed_small rest r (or_no (leb 64 a) (some_from 64 rest) h).1)
  where
    go : (eqb r a ≡ true) ⊎ (listed rest r ≡ true) → (listed rest r ≡ true → r < 64) → r < 64
    go (inl p) ih = let l = leb-false 64 a (or_no (leb 64 a) (some_from 64 rest) h).0 in let q = eqb-true r a p in omega arith
    go (inr p) ih = ih p

-- The set of a list of roles has the listed roles as its members.
pub set_of-exact : (list : List ℕ) → some_from 64 list ≡ false → (r : ℕ) → (has (set_of list) r ≡ true) ↔ (listed list r ≡ true)
unfolding set_of
set_of-exact list h r = ((λ e. (those-member (listed list) r e).1), (λ e. has-those (listed list) r (listed_small list r h e) ∙ e))

-- It is within a set exactly where every listed role is in it: so is asked whether listed roles exist, and whether the owner is authorised for them.
pub listed-within : (list : List ℕ) → some_from 64 list ≡ false → (set : ℕ) → (subset (set_of list) set ≡ true) ↔ ((r : ℕ) → listed list r ≡ true → has set r ≡ true)
listed-within list h set = (
  (λ e r l. subset-true (set_of list) set e r (listed_small list r h l) ((set_of-exact list h r).1 l)),
  (λ f. subset-intro (set_of list) set (λ r lr e. f r ((set_of-exact list h r).0 e))),
)

-- ---- limits

-- "At most .. 64 open sessions stand at once."
pub sessions-limit : (m : Model) → sessions_open m ≤ 64
unfolding sessions_open
sessions-limit m = tally-le 64 (λ k. (m.sessions k).live)
