-- What a file may hold and breaks no rule is sound, and what is sound may stand in a file and breaks no rule. Assumes nothing.
use mathlib.Core.Bool.{Bool, true, false, not, ◌&&◌}
use mathlib.Core.Path.{◌≡◌, refl, sym, ap, ◌∙◌}
use Prim.Native.Nat.{ℕ, ◌<◌}
use native.Mathlib.Decide.{dec_lt}
use native.Mathlib.Omega.{arith}
use lib.Dec.{ltb}
use borrow.Author.Tests.{ltb-false, le-ltb}
use Rattle.roleset.specs.Roles.{has, subset, count}
use Rattle.roleset.proofs.BoundedLaws.{clash, never, and_both, or-clear, some-false, some-none}
use Rattle.roleset.proofs.Laws.{count-le, has-none, member-small, subset-true, subset-intro}
use Rattle.hierarchy.proofs.CircleLaws.{circular_acyclic, acyclic_circular}
use Rattle.model.specs.Model.{Model, RoleSet, Session}
use Rattle.model.specs.Sheet.{verdict}
use Rattle.model.specs.Words.{authorised, static_broken, dynamic_broken}
use Rattle.model.specs.Sound.{SetShape, Shape, Sound}
use Rattle.model.specs.commands.Sets.{bad_cardinality}
use Rattle.sound.proofs.Sheet.{AllClear, clear-done, done-clear}
use Rattle.sound.proofs.Carried.{lines_small, no_session_beyond}
use Rattle.sound.proofs.Counted.{dynamic-beyond}
use Rattle.sound.proofs.Inheriting.{static-beyond}
use Rattle.policyform.specs.Form.{SetForm, Formed}
use Rattle.policyform.specs.Rules.{bad_set, unauthorised, rules_broken}

-- ---- sound, so formed

set-formed : (m : Model) (n : ℕ) (x : RoleSet) → SetShape m n x → SetForm m n x
set-formed m n x s = record { absent = s.absent; named = s.named; small = go x.there refl; members = s.members }
  where
    go : (b : Bool) → x.there ≡ b → x.card < 65536
    go true e = omega (arith, s.at_most e, count-le x.roles)
    go false e = let z : x.card ≡ 0 = ap (λ (y : RoleSet). y.card) (s.absent e) in omega arith

-- A sound model may stand in a file.
pub sound-formed : (m : Model) → Sound m → Formed m
sound-formed m s =
    let x = s.shape in
    record { users = x.users; roles = x.roles; seniors = x.seniors; juniors = x.juniors; assignees = x.assignees; assigned = x.assigned; permissions = x.permissions; holders = x.holders; ssd = λ n. set-formed m n (m.ssd n) (x.ssd n); dsd = λ n. set-formed m n (m.dsd n) (x.dsd n); sessions = x.sessions; limits = s.limits; counted = s.counted }

-- ---- cardinalities

good-sets : (m : Model) (sets : ℕ → RoleSet) → ((n : ℕ) → SetShape m n (sets n)) → bad_set sets ≡ false
unfolding bad_set
good-sets m sets x = some-none 16 (λ n. (sets n).there && bad_cardinality (sets n).card (sets n).roles) (λ n l. go n (sets n).there refl)
  where
    go : (n : ℕ) (b : Bool) → (sets n).there ≡ b → ((sets n).there && bad_cardinality (sets n).card (sets n).roles) ≡ false
    go n true e = rw (e, le-ltb (sets n).card 2 ((x n).at_least e), le-ltb (count (sets n).roles) (sets n).card ((x n).at_most e))
    go n false e = rw e

set-shaped : (m : Model) (sets : ℕ → RoleSet) → ((n : ℕ) → SetForm m n (sets n)) → bad_set sets ≡ false → (n : ℕ) → SetShape m n (sets n)
unfolding bad_set
set-shaped m sets f e n = record { absent = (f n).absent; named = (f n).named; at_least = λ t. ltb-false (sets n).card 2 (fine t).0; at_most = λ t. ltb-false (count (sets n).roles) (sets n).card (fine t).1; members = (f n).members }
  where
    fine : (sets n).there ≡ true → (ltb (sets n).card 2 ≡ false) × (ltb (count (sets n).roles) (sets n).card ≡ false)
    fine t =
        let whole = some-false 16 (λ k. (sets k).there && bad_cardinality (sets k).card (sets k).roles) e n ((f n).named t) in
        or-clear (ltb (sets n).card 2) (ltb (count (sets n).roles) (sets n).card) (never _ (λ h. clash _ (and_both (sets n).there (bad_cardinality (sets n).card (sets n).roles) t h) whole))

-- ---- formed and no rule broken, so sound

not-not : (b : Bool) → not b ≡ false → b ≡ true
not-not true e = refl
not-not false e = sym e

module _ (m : Model) (f : Formed m) (e : verdict (rules_broken m) ≡ 0) where
  clear : AllClear (rules_broken m)
  unfolding rules_broken
  clear = done-clear (rules_broken m) refl e

  shape : Shape m
  unfolding rules_broken
  shape =
      let cards = or-clear (bad_set m.ssd) (bad_set m.dsd) clear.1.0 in
      record { users = f.users; roles = f.roles; seniors = f.seniors; juniors = f.juniors; assignees = f.assignees; assigned = f.assigned; permissions = f.permissions; holders = f.holders; ssd = set-shaped m m.ssd f.ssd cards.0; dsd = set-shaped m m.dsd f.dsd cards.1; sessions = f.sessions }

  active : (s r : ℕ) → has (m.sessions s).active r ≡ true → has (authorised m (m.sessions s).owner) r ≡ true
  unfolding rules_broken unauthorised
  active s r h = go (dec_lt s 64)
    where
      go : Dec (s < 64) → has (authorised m (m.sessions s).owner) r ≡ true
      go (yes l) = subset-true (m.sessions s).active (authorised m (m.sessions s).owner) (not-not _ (some-false 64 (λ k. not (subset (m.sessions k).active (authorised m (m.sessions k).owner))) clear.1.1.0 s l)) r (member-small (m.sessions s).active r (f.sessions s).active.small h) h
      go (no l) = clash (has (m.sessions s).active r) h (ap (λ (x : Session). has x.active r) (no_session_beyond m shape s (omega arith)) ∙ has-none r)

  static : (u : ℕ) → static_broken m u ≡ false
  unfolding rules_broken static_broken
  static u = go (dec_lt u 256)
    where
      go : Dec (u < 256) → static_broken m u ≡ false
      go (yes l) = some-false 256 (static_broken m) clear.1.1.1.0 u l
      go (no l) = static-beyond m shape m.juniors u (omega arith)

  dynamic : (s : ℕ) → dynamic_broken m s ≡ false
  unfolding rules_broken dynamic_broken
  dynamic s = go (dec_lt s 64)
    where
      go : Dec (s < 64) → dynamic_broken m s ≡ false
      go (yes l) = some-false 64 (dynamic_broken m) clear.1.1.1.1.0 s l
      go (no l) = dynamic-beyond m shape m.juniors m.line_count s (omega arith)

  -- A model that may stand in a file and breaks no rule is sound.
  pub formed_sound : Sound m
  unfolding rules_broken
  formed_sound = record { shape = shape; limits = f.limits; counted = f.counted; rules = record { acyclic = circular_acyclic m.juniors (lines_small m shape) clear.0; active = active; static = static; dynamic = dynamic } }

-- ---- sound, so no rule broken

pub sound-clear : (m : Model) → Sound m → verdict (rules_broken m) ≡ 0
unfolding rules_broken unauthorised
sound-clear m s =
    let x = s.rules in
    clear-done (rules_broken m) (
      acyclic_circular m.juniors x.acyclic,
      (
        rw (good-sets m m.ssd s.shape.ssd) (good-sets m m.dsd s.shape.dsd),
        (
          some-none 64 _ (λ k l. rw (subset-intro (m.sessions k).active (authorised m (m.sessions k).owner) (λ r h. x.active k r))),
          (
            some-none 256 (static_broken m) (λ u l. x.static u),
            (
              some-none 64 (dynamic_broken m) (λ k l. x.dynamic k),
              tt,
            ),
          ),
        ),
      ),
    )
