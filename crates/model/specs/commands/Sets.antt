-- The five `ssd` commands and the five `dsd` commands, once for both kinds of set. Assumes nothing.
use Rattle.std.specs.Prelude.{Bool, true, not, ◌||◌, List, [], ◌∷◌, ℕ, ltb}
use Rattle.roleset.specs.Bounded.{some}
use Rattle.roleset.specs.Roles.{has, with, without, subset, count}
use Rattle.model.specs.Model.{Model, RoleSet, put, with_ssd, with_dsd}
use Rattle.model.specs.Model as model
use Rattle.model.specs.Sheet.{Told, ◌when◌, settle}
use Rattle.model.specs.Words.{authorised, breaks, counted, static_broken, dynamic_broken}
use Rattle.model.specs.Lists.{ascending, some_from, set_of}
use Rattle.model.specs.commands.Naming.{role_beyond, set_beyond, role_missing}
use Rattle.model.specs.declared.Kind.{Kind}
use Rattle.model.specs.declared.Kind.TheVariants.{Static, Dynamic}

-- the sets of a kind, and the model with other sets of that kind
abbrev pub sets_of : Kind → Model → ℕ → RoleSet
sets_of Static m = m.ssd
sets_of Dynamic m = m.dsd

abbrev pub with_sets : Kind → Model → (ℕ → RoleSet) → Model
with_sets Static m x = with_ssd m x
with_sets Dynamic m x = with_dsd m x

-- the set's rule is broken: by the roles that some user is authorised for, or by the roles of some session that a dynamic set counts
unfoldable pub broken : Kind → Model → RoleSet → Bool
broken Static m set = some 256 (λ u. breaks set (authorised m u))
broken Dynamic m set = some 64 (λ s. breaks set (counted m s))

-- of how many a rule of the kind is asked: of 256 users, or of 64 sessions
abbrev pub asked_of : Kind → ℕ
asked_of Static = 256
asked_of Dynamic = 64

-- a rule of the kind is broken, for some user or in some session
abbrev pub rule_broken : Kind → Model → Bool
rule_broken Static m = some 256 (static_broken m)
rule_broken Dynamic m = some 64 (dynamic_broken m)

-- "The five `dsd` commands are alike with 11 for 10."
abbrev pub rule_number : Kind → ℕ
rule_number Static = 10
rule_number Dynamic = 11

-- "a cardinality would be below 2 or above its set's size"
abbrev pub bad_cardinality : ℕ → ℕ → Bool
bad_cardinality n roles = ltb n 2 || ltb (count roles) n

-- "SSD set: roles and a cardinality n"
abbrev pub a_set : ℕ → ℕ → RoleSet
a_set n roles = record { there = true; card = n; roles = roles }

-- "does not exist"
abbrev pub set_missing : Kind → Model → ℕ → Bool
set_missing kind m name = not (sets_of kind m name).there

-- "`ssd name n r..`: 1, 2 (a role), 4, 7, 10." A list that is not strictly ascending is 14
unfoldable pub make_set : Kind → Model → ℕ → ℕ → List ℕ → Told
make_set kind m name n list =
    settle
    (14 when not (ascending list)
    ∷ 1 when (set_beyond name || some_from 64 list)
    ∷ 2 when not (subset (set_of list) m.roles)
    ∷ 4 when (sets_of kind m name).there
    ∷ 7 when bad_cardinality n (set_of list)
    ∷ rule_number kind when broken kind m (a_set n (set_of list))
    ∷ [])
    m
    []
    (with_sets kind m (put (sets_of kind m) name (a_set n (set_of list))))

-- "`nossd name`: 1, 2."
unfoldable pub drop_set : Kind → Model → ℕ → Told
drop_set kind m name =
    settle (1 when set_beyond name ∷ 2 when set_missing kind m name ∷ []) m [] (with_sets kind m (put (sets_of kind m) name model.absent_set))

-- "`ssd-add name r`: 1, 2, 4, 10."
unfoldable pub add_member : Kind → Model → ℕ → ℕ → Told
add_member kind m name r =
    let old = sets_of kind m name in
    let new = a_set old.card (with old.roles r) in
    settle
    (1 when (set_beyond name || role_beyond r)
    ∷ 2 when (set_missing kind m name || role_missing m r)
    ∷ 4 when has old.roles r
    ∷ rule_number kind when broken kind m new
    ∷ [])
    m
    []
    (with_sets kind m (put (sets_of kind m) name new))

-- "`ssd-drop name r`: 1, 2, 5, 7."
unfoldable pub drop_member : Kind → Model → ℕ → ℕ → Told
drop_member kind m name r =
    let old = sets_of kind m name in
    let new = a_set old.card (without old.roles r) in
    settle
    (1 when (set_beyond name || role_beyond r)
    ∷ 2 when (set_missing kind m name || role_missing m r)
    ∷ 5 when not (has old.roles r)
    ∷ 7 when bad_cardinality new.card new.roles
    ∷ [])
    m
    []
    (with_sets kind m (put (sets_of kind m) name new))

-- "`ssd-card name n`: 1, 2, 7, 10."
unfoldable pub set_cardinality : Kind → Model → ℕ → ℕ → Told
set_cardinality kind m name n =
    let old = sets_of kind m name in
    let new = a_set n old.roles in
    settle
    (1 when set_beyond name
    ∷ 2 when set_missing kind m name
    ∷ 7 when bad_cardinality n new.roles
    ∷ rule_number kind when broken kind m new
    ∷ [])
    m
    []
    (with_sets kind m (put (sets_of kind m) name new))
