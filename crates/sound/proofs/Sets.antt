-- The five commands of SSD sets and the five of DSD sets keep a model sound: one law for both kinds. Assumes nothing.
use mathlib.Core.Bool.{true, false, not, ◌&&◌}
use mathlib.Core.List.{List}
use mathlib.Core.Path.{◌≡◌, refl, sym, ◌∙◌}
use Prim.Native.Nat.{ℕ, ◌≤◌, ◌<◌}
use native.Mathlib.Omega.{arith}
use native.Mathlib.Decide.{dec_lt}
use lib.Dec.{leb, ltb}
use borrow.Author.Tests.{leb-false, ltb-false, not-false}
use Rattle.roleset.specs.Bounded.{some}
use Rattle.roleset.specs.Roles.{has, with, without, subset, count}
use Rattle.roleset.proofs.BoundedLaws.{clash, some-false}
use Rattle.roleset.proofs.Laws.{those-small, member-small, subset-true, count-mono}
use Rattle.model.specs.Model.{Model, RoleSet, absent_set, put}
use Rattle.model.specs.Words.{breaks, breaks_some, static_broken, dynamic_broken}
use Rattle.model.specs.Lists.{listed, set_of, some_from}
use Rattle.model.specs.Sound.{Existing, SetShape, Shape, Sound}
use Rattle.model.specs.commands.Sets.{sets_of, with_sets, asked_of, broken, rule_number, bad_cardinality, a_set, make_set, drop_set, add_member, drop_member, set_cardinality}
use Rattle.model.specs.declared.Kind.{Kind}
use Rattle.model.specs.declared.Kind.TheVariants.{Static, Dynamic}
use Rattle.sound.proofs.Sheet.{kept}
use Rattle.sound.proofs.Put.{put_all}
use Rattle.sound.proofs.Members.{or_no, with-old, without-old}
use Rattle.sound.proofs.Breaking.{breaks-fewer, nothing-breaks, none-breaks, each-unbroken}
use Rattle.sound.proofs.Carried.{existing-with, existing-without, set-none, nobody_assigned, no_user_beyond, nothing-reached}
use Rattle.sound.proofs.Changing.{held, sets_changed}
use Rattle.sound.proofs.Counted.{none-counted-beyond}

-- ---- what the two kinds share

-- A set is broken where it is for some user, or in some session.
pub broken-some : (kind : Kind) (m : Model) (set : RoleSet) → broken kind m set ≡ some (asked_of kind) (λ i. breaks set (held kind m i))
unfolding broken
broken-some Static m set = refl
broken-some Dynamic m set = refl

-- Nobody is authorised for a role, and none of a session's counts, beyond those numbers.
pub none-beyond : (kind : Kind) (m : Model) → Shape m → (i : ℕ) → asked_of kind ≤ i → (r : ℕ) → has (held kind m i) r ≡ false
none-beyond Static m x u l = nothing-reached m.juniors (m.assigned u) (nobody_assigned m x u (no_user_beyond m x u l))
none-beyond Dynamic m x s l = none-counted-beyond m x m.juniors m.line_count s l

-- The sets of a kind have their shape,
pub shape_of : (kind : Kind) (m : Model) → Shape m → (n : ℕ) → SetShape m n (sets_of kind m n)
shape_of Static m x = x.ssd
shape_of Dynamic m x = x.dsd

-- and their rule holds.
pub rule-of : (kind : Kind) (m : Model) → Sound m → (i : ℕ) → breaks_some (sets_of kind m) (held kind m i) ≡ false
unfolding static_broken dynamic_broken
rule-of Static m s = s.rules.static
rule-of Dynamic m s = s.rules.dynamic

-- A set that is not broken is broken by nobody's roles.
pub unbroken-all : (kind : Kind) (m : Model) (set : RoleSet) → Shape m → (set.there ≡ true → 0 < set.card) → broken kind m set ≡ false → (i : ℕ) → breaks set (held kind m i) ≡ false
unbroken-all kind m set x above e i = go (dec_lt i (asked_of kind))
  where
    go : Dec (i < asked_of kind) → breaks set (held kind m i) ≡ false
    go (yes l) = some-false (asked_of kind) (λ k. breaks set (held kind m k)) (sym (broken-some kind m set) ∙ e) i l
    go (no l) = nothing-breaks set (held kind m i) above (λ k lk. none-beyond kind m x i (omega arith) k)

-- One set changed, to one of the right shape that is broken by nobody's roles, leaves a sound model sound.
pub set-put-sound : (kind : Kind) (m : Model) (name : ℕ) (new : RoleSet) → Sound m → SetShape m name new → ((i : ℕ) → breaks new (held kind m i) ≡ false) → Sound (with_sets kind m (put (sets_of kind m) name new))
set-put-sound kind m name new s shaped unbroken =
    sets_changed m s kind (put (sets_of kind m) name new)
    (put_all (λ n set. SetShape m n set) (sets_of kind m) name new shaped (λ n d. shape_of kind m s.shape n))
    (λ i. none-breaks (put (sets_of kind m) name new) (held kind m i) (put_all (λ n set. n < 16 → breaks set (held kind m i) ≡ false) (sets_of kind m) name new (λ l. unbroken i) (λ n d. each-unbroken (sets_of kind m) (held kind m i) (rule-of kind m s i) n)))

-- the shape of a set that is there
pub there-shape : (m : Model) (name n roles : ℕ) → name < 16 → bad_cardinality n roles ≡ false → Existing m roles → SetShape m name (a_set n roles)
there-shape m name n roles named fits existing =
    let sizes = or_no (ltb n 2) (ltb (count roles) n) fits in
    record { absent = λ e. clash true refl e; named = λ e. named; at_least = λ e. ltb-false n 2 sizes.0; at_most = λ e. ltb-false (count roles) n sizes.1; members = existing }

-- A set with an existing role besides has its shape.
pub larger-shape : (m : Model) (name : ℕ) (old : RoleSet) (r : ℕ) → SetShape m name old → old.there ≡ true → has m.roles r ≡ true → SetShape m name (a_set old.card (with old.roles r))
larger-shape m name old r x t e =
    record {
      absent = λ f. clash true refl f;
      named = λ f. x.named t;
      at_least = λ f. x.at_least t;
      at_most = λ f. let before = x.at_most t in let grown = count-mono old.roles (with old.roles r) (with-old old.roles r) in omega arith;
      members = existing-with m old.roles r x.members e;
    }

-- its cardinality is above 0
above-none : (m : Model) (name : ℕ) (set : RoleSet) → SetShape m name set → set.there ≡ true → 0 < set.card
above-none m name set x e = let two = x.at_least e in omega arith

-- the number of the rule is that of a refusal
rule-positive : (kind : Kind) → (ltb 0 (rule_number kind) && true) ≡ true
rule-positive Static = refl
rule-positive Dynamic = refl

-- ---- the commands

-- The set of a list within the roles that exist is a set of existing roles.
pub listed-existing : (m : Model) (list : List ℕ) → subset (set_of list) m.roles ≡ true → Existing m (set_of list)
unfolding set_of
listed-existing m list e = record { small = those-small (listed list); exist = λ r h. subset-true (set_of list) m.roles e r (member-small (set_of list) r (those-small (listed list)) h) h }

-- `ssd name n r..` and `dsd name n r..` keep a sound model sound.
pub make_set-sound : (kind : Kind) (m : Model) (name n : ℕ) (list : List ℕ) → Sound m → Sound (make_set kind m name n list).after
unfolding make_set
make_set-sound kind m name n list s =
    kept Sound _ m _ _ (rule-positive kind) s (λ c.
    let range = or_no (leb 16 name) (some_from 64 list) c.1.0 in
    let shape = there-shape m name n (set_of list) (leb-false 16 name range.0) c.1.1.1.1.0 (listed-existing m list (not-false (subset (set_of list) m.roles) c.1.1.0)) in
    set-put-sound kind m name (a_set n (set_of list)) s shape (unbroken-all kind m (a_set n (set_of list)) s.shape (above-none m name (a_set n (set_of list)) shape) c.1.1.1.1.1.0))

-- `nossd name` and `nodsd name` keep a sound model sound.
pub drop_set-sound : (kind : Kind) (m : Model) (name : ℕ) → Sound m → Sound (drop_set kind m name).after
unfolding drop_set breaks
drop_set-sound kind m name s = kept Sound _ m _ _ refl s (λ c. set-put-sound kind m name absent_set s (set-none m name) (λ i. refl))

-- `ssd-add name r` and `dsd-add name r` keep a sound model sound.
pub add_member-sound : (kind : Kind) (m : Model) (name r : ℕ) → Sound m → Sound (add_member kind m name r).after
unfolding add_member
add_member-sound kind m name r s =
    kept Sound _ m _ _ (rule-positive kind) s (λ c.
    let there = or_no (not (sets_of kind m name).there) (not (has m.roles r)) c.1.0 in
    let shape = larger-shape m name (sets_of kind m name) r (shape_of kind m s.shape name) (not-false (sets_of kind m name).there there.0) (not-false (has m.roles r) there.1) in
    set-put-sound kind m name new s shape (unbroken-all kind m new s.shape (above-none m name new shape) c.1.1.1.0))
  where
    old : RoleSet
    old = sets_of kind m name

    new : RoleSet
    new = a_set old.card (with old.roles r)

-- `ssd-drop name r` and `dsd-drop name r` keep a sound model sound.
pub drop_member-sound : (kind : Kind) (m : Model) (name r : ℕ) → Sound m → Sound (drop_member kind m name r).after
unfolding drop_member
drop_member-sound kind m name r s =
    kept Sound _ m _ _ refl s (λ c.
    let there = or_no (not old.there) (not (has m.roles r)) c.1.0 in
    let t = not-false old.there there.0 in
    set-put-sound kind m name new s
    (there-shape m name old.card (without old.roles r) (x.named t) c.1.1.1.0 (existing-without m old.roles r x.members))
    (λ i. breaks-fewer new old (held kind m i) (held kind m i) (λ e. t) (omega arith) (without-old old.roles r) (λ k l e. e) (each-unbroken (sets_of kind m) (held kind m i) (rule-of kind m s i) name (x.named t))))
  where
    old : RoleSet
    old = sets_of kind m name

    new : RoleSet
    new = a_set old.card (without old.roles r)

    x : SetShape m name old
    x = shape_of kind m s.shape name

-- `ssd-card name n` and `dsd-card name n` keep a sound model sound.
pub set_cardinality-sound : (kind : Kind) (m : Model) (name n : ℕ) → Sound m → Sound (set_cardinality kind m name n).after
unfolding set_cardinality
set_cardinality-sound kind m name n s =
    kept Sound _ m _ _ (rule-positive kind) s (λ c.
    let t = not-false (sets_of kind m name).there c.1.0 in
    let roles = (sets_of kind m name).roles in
    let x = shape_of kind m s.shape name in
    let shape = there-shape m name n roles (x.named t) c.1.1.0 x.members in
    set-put-sound kind m name (a_set n roles) s shape (unbroken-all kind m (a_set n roles) s.shape (above-none m name (a_set n roles) shape) c.1.1.1.0))
