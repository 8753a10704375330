-- A rule that is asked where it can change is asked of all: "for some user", "in some session", over sound models. Assumes nothing.
use mathlib.Core.Bool.{Bool, true, false}
use mathlib.Core.Path.{◌≡◌, refl, sym, ap, ◌∙◌}
use Prim.Native.Nat.{ℕ, ◌<◌}
use native.Mathlib.Omega.{arith}
use native.Mathlib.Decide.{ℕ_discrete}
use Rattle.roleset.specs.Bounded.{some}
use Rattle.roleset.specs.Roles.{with}
use Rattle.roleset.proofs.BoundedLaws.{clash, agree, some-intro, some-elim, some-ext}
use Rattle.hierarchy.specs.Walks.{reach}
use Rattle.model.specs.Model.{Model, RoleSet, Session, put}
use Rattle.model.specs.Words.{breaks, breaks_some, static_broken, dynamic_broken, sessions_open}
use Rattle.model.specs.Sound.{Sound}
use Rattle.model.specs.commands.Assigning.{assigned}
use Rattle.model.specs.commands.Sets.{sets_of, with_sets, asked_of, broken, rule_broken}
use Rattle.model.specs.commands.Sessions.{lowest_free, session_set, opened, open_for, active_set}
use Rattle.model.specs.declared.Kind.{Kind}
use Rattle.model.specs.declared.Kind.TheVariants.{Static, Dynamic}
use Rattle.model.proofs.Puts.{put_same, put_other}
use Rattle.sound.proofs.Breaking.{some-breaks, none-breaks, each-unbroken}
use Rattle.sound.proofs.Changing.{held}
use Rattle.sound.proofs.Counted.{counted_of}
use Rattle.sound.proofs.Sets.{broken-some, rule-of}
use Rattle.sound.proofs.Sessions.{lowest-free, lowest-within}

-- A test that can be passed at one place only is passed there exactly where it is passed somewhere.
pub one-asked : (n : ℕ) (test : ℕ → Bool) (i : ℕ) → i < n → ((k : ℕ) → (k ≡ i → ⊥) → test k ≡ false) → test i ≡ some n test
one-asked n test i l others = agree (test i) (some n test) (some-intro n test i l) (λ e. let found = some-elim n test e in go found.0 found.2 (ℕ_discrete found.0 i))
  where
    go : (k : ℕ) → test k ≡ true → Dec (k ≡ i) → test i ≡ true
    go k e (yes p) = rw p at e
    go k e (no p) = clash (test k) e (others k p)

-- `assign`: the static rule would be broken for u exactly where it would be for some user.
pub assign-asks-all : (m : Model) → Sound m → (u r : ℕ) → m.users u ≡ true → static_broken (assigned m u r) u ≡ some 256 (static_broken (assigned m u r))
unfolding static_broken assigned
assign-asks-all m s u r user = one-asked 256 (static_broken (assigned m u r)) u (s.shape.users u user)
    (λ k d. ap (λ (set : ℕ). breaks_some m.ssd (reach m.juniors set)) (put_other m.assigned u (with (m.assigned u) r) k d) ∙ s.rules.static k)

-- One session changed: the dynamic rule would be broken in it exactly where it would be in some session.
pub session-asks-all : (m : Model) → Sound m → (n k : ℕ) (new : Session) → k < n → dynamic_broken (session_set m k new) k ≡ some n (dynamic_broken (session_set m k new))
unfolding dynamic_broken
session-asks-all m s n k new l = one-asked n (dynamic_broken (session_set m k new)) k l
    (λ i d. ap (λ (y : Session). breaks_some m.dsd (counted_of m y)) (put_other m.sessions k new i d) ∙ s.rules.dynamic i)

-- `session`: so it is of the session to be opened, among the 64 that there may be and, where all of these are open, the one that has no room,
pub opened-asks-all : (m : Model) → Sound m → (u roles : ℕ) → dynamic_broken (opened m u roles) (lowest_free m) ≡ some 65 (dynamic_broken (opened m u roles))
unfolding opened
opened-asks-all m s u roles = session-asks-all m s 65 (lowest_free m) (open_for u roles) (omega (arith, lowest-within m))

-- which is one of the 64 where there is room,
pub room-asks-all : (m : Model) → Sound m → (u roles : ℕ) → sessions_open m < 64 → dynamic_broken (opened m u roles) (lowest_free m) ≡ some 64 (dynamic_broken (opened m u roles))
unfolding opened
room-asks-all m s u roles room = session-asks-all m s 64 (lowest_free m) (open_for u roles) (lowest-free m room).within

-- and `activate`: of the session in which a role becomes active.
pub activate-asks-all : (m : Model) → Sound m → (k r : ℕ) → (m.sessions k).live ≡ true → dynamic_broken (active_set m k (with (m.sessions k).active r)) k ≡ some 64 (dynamic_broken (active_set m k (with (m.sessions k).active r)))
unfolding active_set
activate-asks-all m s k r live = session-asks-all m s 64 k (record { live = (m.sessions k).live; owner = (m.sessions k).owner; active = with (m.sessions k).active r }) ((s.shape.sessions k).numbered live)

rule-some : (kind : Kind) (m : Model) (new : ℕ → RoleSet) → rule_broken kind (with_sets kind m new) ≡ some (asked_of kind) (λ i. breaks_some new (held kind m i))
unfolding static_broken dynamic_broken
rule-some Static m new = refl
rule-some Dynamic m new = refl

-- The commands of a set: the set made or changed would be broken exactly where some set of its kind would be.
pub set-asks-all : (kind : Kind) (m : Model) → Sound m → (name : ℕ) (new : RoleSet) → name < 16 → broken kind m new ≡ rule_broken kind (with_sets kind m (put (sets_of kind m) name new))
set-asks-all kind m s name new l =
    broken-some kind m new ∙ some-ext (asked_of kind) (λ i. breaks new (held kind m i)) (λ i. breaks_some sets (held kind m i)) (λ i li. same i) ∙ sym (rule-some kind m sets)
  where
    sets : ℕ → RoleSet
    sets = put (sets_of kind m) name new

    here : (i : ℕ) → breaks (sets name) (held kind m i) ≡ breaks new (held kind m i)
    here i = ap (λ (set : RoleSet). breaks set (held kind m i)) (put_same (sets_of kind m) name new)

    all_else : (i : ℕ) → breaks new (held kind m i) ≡ false → (n : ℕ) → n < 16 → Dec (n ≡ name) → breaks (sets n) (held kind m i) ≡ false
    all_else i e n ln (yes p) = ap (λ (k : ℕ). breaks (sets k) (held kind m i)) p ∙ here i ∙ e
    all_else i e n ln (no p) = ap (λ (set : RoleSet). breaks set (held kind m i)) (put_other (sets_of kind m) name new n p) ∙ each-unbroken (sets_of kind m) (held kind m i) (rule-of kind m s i) n ln

    same : (i : ℕ) → breaks new (held kind m i) ≡ breaks_some sets (held kind m i)
    same i = go (breaks new (held kind m i)) refl
      where
        go : (b : Bool) → breaks new (held kind m i) ≡ b → breaks new (held kind m i) ≡ breaks_some sets (held kind m i)
        go true e = e ∙ sym (some-breaks sets (held kind m i) name l (here i ∙ e))
        go false e = e ∙ sym (none-breaks sets (held kind m i) (λ n ln. all_else i e n ln (ℕ_discrete n name)))
