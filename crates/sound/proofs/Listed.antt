-- On a sound model each command answers by its list in the paper: 10 where the rule would be broken "for some user", 11 "in some session", and
-- 12 where the table itself is full. Of the other commands the list in the model is that of the paper itself. Assumes nothing.
use mathlib.Core.Bool.{true, false, not, ◌||◌}
use mathlib.Core.List.{List, [], ◌∷◌}
use mathlib.Core.Path.{◌≡◌, refl, ap}
use Prim.Native.Nat.{ℕ}
use lib.Dec.{leb}
use borrow.Author.Tests.{leb-false, not-false}
use Rattle.roleset.specs.Bounded.{some}
use Rattle.roleset.specs.Roles.{has, with, subset}
use Rattle.numbers.specs.Ranges.{most_assignments, most_grants, most_lines, sessions}
use Rattle.model.specs.Model.{Model, put}
use Rattle.model.specs.Sheet.{◌when◌, settle}
use Rattle.model.specs.Words.{authorised, static_broken, dynamic_broken, permission, assignments, grants, lines_standing, sessions_open}
use Rattle.model.specs.Lists.{ascending, some_from, set_of}
use Rattle.model.specs.Sound.{Sound}
use Rattle.model.specs.commands.Naming.{user_beyond, role_beyond, session_beyond, set_beyond, permission_beyond, user_missing, role_missing, session_missing}
use Rattle.model.specs.commands.Assigning.{assigned, assign, granted, grant}
use Rattle.model.specs.commands.Inheriting.{lined, would_circle, inherit}
use Rattle.model.specs.commands.Sets.{sets_of, with_sets, rule_broken, rule_number, bad_cardinality, a_set, set_missing, make_set, add_member, set_cardinality}
use Rattle.model.specs.commands.Sessions.{lowest_free, opened, session, active_set, not_owner, activate}
use Rattle.model.specs.declared.Kind.{Kind}
use Rattle.sound.proofs.Sheet.{alike-settle}
use Rattle.sound.proofs.Members.{or_no}
use Rattle.sound.proofs.Asked.{assign-asks-all, opened-asks-all, activate-asks-all, set-asks-all}

-- ---- assignments and lines

-- "`assign u r`: 1, 2, 4, 10, 12."
pub assign-listed : (m : Model) (u r : ℕ) → Sound m → assign m u r ≡ settle (1 when (user_beyond u || role_beyond r) ∷ 2 when (user_missing m u || role_missing m r) ∷ 4 when has (m.assigned u) r ∷ 10 when some 256 (static_broken (assigned m u r)) ∷ 12 when leb most_assignments (assignments m) ∷ []) m [] (assigned m u r)
unfolding assign
assign-listed m u r s =
    alike-settle _ _ m [] (assigned m u r)
    (refl, refl, λ c1. (refl, refl, λ c2. (refl, refl, λ c4. (refl, assign-asks-all m s u r (not-false (m.users u) (or_no (user_missing m u) (role_missing m r) c2).0), λ c10. (refl, ap (leb most_assignments) s.counted.assigned, λ c12. tt)))))

-- "`grant op obj r`: 1, 2, 4, 12."
pub grant-listed : (m : Model) (op obj r : ℕ) → Sound m → grant m op obj r ≡ settle (1 when (permission_beyond op obj || role_beyond r) ∷ 2 when role_missing m r ∷ 4 when has (m.holders (permission op obj)) r ∷ 12 when leb most_grants (grants m) ∷ []) m [] (granted m (permission op obj) r)
unfolding grant
grant-listed m op obj r s =
    alike-settle _ _ m [] (granted m (permission op obj) r)
    (refl, refl, λ c1. (refl, refl, λ c2. (refl, refl, λ c4. (refl, ap (leb most_grants) s.counted.granted, λ c12. tt))))

-- "`inherit senior junior`: 1, 2, 4 (this direct line stands), 6 (equal, or the junior inherits the senior), 10, 12.", with 11 after 10
pub inherit-listed : (m : Model) (senior junior : ℕ) → Sound m → inherit m senior junior ≡ settle (1 when (role_beyond senior || role_beyond junior) ∷ 2 when (role_missing m senior || role_missing m junior) ∷ 4 when has (m.juniors senior) junior ∷ 6 when would_circle m senior junior ∷ 10 when some 256 (static_broken (lined m senior junior)) ∷ 11 when some 64 (dynamic_broken (lined m senior junior)) ∷ 12 when leb most_lines (lines_standing m) ∷ []) m [] (lined m senior junior)
unfolding inherit
inherit-listed m senior junior s =
    alike-settle _ _ m [] (lined m senior junior)
    (refl, refl, λ c1. (refl, refl, λ c2. (refl, refl, λ c4. (refl, refl, λ c6. (refl, refl, λ c10. (refl, refl, λ c11. (refl, ap (leb most_lines) s.counted.lined, λ c12. tt)))))))

-- ---- sets, of both kinds

-- "`ssd name n r..`: 1, 2 (a role), 4, 7, 10.", and "alike with 11 for 10"
pub make_set-listed : (kind : Kind) (m : Model) (name n : ℕ) (list : List ℕ) → Sound m → make_set kind m name n list ≡ settle (14 when not (ascending list) ∷ 1 when (set_beyond name || some_from 64 list) ∷ 2 when not (subset (set_of list) m.roles) ∷ 4 when (sets_of kind m name).there ∷ 7 when bad_cardinality n (set_of list) ∷ rule_number kind when rule_broken kind (with_sets kind m (put (sets_of kind m) name (a_set n (set_of list)))) ∷ []) m [] (with_sets kind m (put (sets_of kind m) name (a_set n (set_of list))))
unfolding make_set
make_set-listed kind m name n list s =
    alike-settle _ _ m [] (with_sets kind m (put (sets_of kind m) name (a_set n (set_of list))))
    (refl, refl, λ c14. (refl, refl, λ c1. (refl, refl, λ c2. (refl, refl, λ c4. (refl, refl, λ c7. (refl, set-asks-all kind m s name (a_set n (set_of list)) (leb-false 16 name (or_no (set_beyond name) (some_from 64 list) c1).0), λ c. tt))))))

-- "`ssd-add name r`: 1, 2, 4, 10."
pub add_member-listed : (kind : Kind) (m : Model) (name r : ℕ) → Sound m → add_member kind m name r ≡ settle (1 when (set_beyond name || role_beyond r) ∷ 2 when (set_missing kind m name || role_missing m r) ∷ 4 when has (sets_of kind m name).roles r ∷ rule_number kind when rule_broken kind (with_sets kind m (put (sets_of kind m) name (a_set (sets_of kind m name).card (with (sets_of kind m name).roles r)))) ∷ []) m [] (with_sets kind m (put (sets_of kind m) name (a_set (sets_of kind m name).card (with (sets_of kind m name).roles r))))
unfolding add_member
add_member-listed kind m name r s =
    alike-settle _ _ m [] _
    (refl, refl, λ c1. (refl, refl, λ c2. (refl, refl, λ c4. (refl, set-asks-all kind m s name (a_set (sets_of kind m name).card (with (sets_of kind m name).roles r)) (leb-false 16 name (or_no (set_beyond name) (role_beyond r) c1).0), λ c. tt))))

-- "`ssd-card name n`: 1, 2, 7, 10."
pub set_cardinality-listed : (kind : Kind) (m : Model) (name n : ℕ) → Sound m → set_cardinality kind m name n ≡ settle (1 when set_beyond name ∷ 2 when set_missing kind m name ∷ 7 when bad_cardinality n (sets_of kind m name).roles ∷ rule_number kind when rule_broken kind (with_sets kind m (put (sets_of kind m) name (a_set n (sets_of kind m name).roles))) ∷ []) m [] (with_sets kind m (put (sets_of kind m) name (a_set n (sets_of kind m name).roles)))
unfolding set_cardinality
set_cardinality-listed kind m name n s =
    alike-settle _ _ m [] _
    (refl, refl, λ c1. (refl, refl, λ c2. (refl, refl, λ c7. (refl, set-asks-all kind m s name (a_set n (sets_of kind m name).roles) (leb-false 16 name c1), λ c. tt))))

-- ---- sessions

-- "`session u r..`: 1, 2, 9, 11, 12; the result is the lowest free session number."
pub session-listed : (m : Model) (u : ℕ) (list : List ℕ) → Sound m → session m u list ≡ settle (14 when not (ascending list) ∷ 1 when (user_beyond u || some_from 64 list) ∷ 2 when (user_missing m u || not (subset (set_of list) m.roles)) ∷ 9 when not (subset (set_of list) (authorised m u)) ∷ 11 when some 65 (dynamic_broken (opened m u (set_of list))) ∷ 12 when leb sessions (sessions_open m) ∷ []) m (lowest_free m ∷ []) (opened m u (set_of list))
unfolding session
session-listed m u list s =
    alike-settle _ _ m (lowest_free m ∷ []) (opened m u (set_of list))
    (refl, refl, λ c14. (refl, refl, λ c1. (refl, refl, λ c2. (refl, refl, λ c9. (refl, opened-asks-all m s u (set_of list), λ c11. (refl, refl, λ c12. tt))))))

-- "`activate u s r`: 1, 2, 3, 4, 9, 11."
pub activate-listed : (m : Model) (u k r : ℕ) → Sound m → activate m u k r ≡ settle (1 when (user_beyond u || (session_beyond k || role_beyond r)) ∷ 2 when (user_missing m u || (session_missing m k || role_missing m r)) ∷ 3 when not_owner m u k ∷ 4 when has (m.sessions k).active r ∷ 9 when not (has (authorised m u) r) ∷ 11 when some 64 (dynamic_broken (active_set m k (with (m.sessions k).active r))) ∷ []) m [] (active_set m k (with (m.sessions k).active r))
unfolding activate
activate-listed m u k r s =
    alike-settle _ _ m [] (active_set m k (with (m.sessions k).active r))
    (refl, refl, λ c1. (refl, refl, λ c2. (refl, refl, λ c3. (refl, refl, λ c4. (refl, refl, λ c9. (refl, activate-asks-all m s k r (live c2), λ c11. tt))))))
  where
    live : (user_missing m u || (session_missing m k || role_missing m r)) ≡ false → (m.sessions k).live ≡ true
    live c2 = not-false (m.sessions k).live (or_no (session_missing m k) (role_missing m r) (or_no (user_missing m u) (session_missing m k || role_missing m r) c2).1).0
