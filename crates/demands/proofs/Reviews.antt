-- Every question is answered exactly as the paper says. Assumes nothing.
use mathlib.Core.Bool.{Bool, true, false}
use mathlib.Core.List.Memᴰ
use mathlib.Core.List.{List, [], ◌∷◌, Memᴰ}
use mathlib.Core.Logic.{◌⊎◌, inl, inr, ◌↔◌}
use mathlib.Core.Path.{◌≡◌, refl, sym, ◌∙◌}
use Prim.Native.Nat.{ℕ, suc, ◌<◌}
use native.Mathlib.Omega.{arith}
use lib.Dec.{eqb, leb}
use borrow.Author.Tests.{eqb-true, eq-eqb, leb-true, not-true}
use Rattle.roleset.specs.Bounded.{members}
use Rattle.roleset.specs.Roles.{has, with, none, common, is_empty}
use Rattle.roleset.proofs.BoundedLaws.{and_left, and_right, or_cases, or_left, or_right, not_yes}
use Rattle.roleset.proofs.Laws.{member-small, is_empty_false}
use Rattle.hierarchy.specs.Lines.{AtOrAbove}
use Rattle.hierarchy.proofs.InheritsLaws.{ends-small}
use Rattle.hierarchy.proofs.WalkLaws.{not-empty, reach_sound, reach_complete, under_one, one-under}
use Rattle.model.specs.Lists.{rising, listed}
use Rattle.model.specs.Model.{Model}
use Rattle.model.specs.Questions.{ask, review, holds, assigned_users, assigned_roles, auth_users, auth_roles, role_perms, user_perms, session_roles, session_perms, role_ops, user_ops, set_names, set_roles}
use Rattle.model.specs.Sheet.{◌when◌}
use Rattle.model.specs.Sound.{Sound}
use Rattle.model.specs.Words.{reached, authorised, effective, permission}
use Rattle.model.specs.declared.Kind.TheVariants.{Static, Dynamic}
use Rattle.model.specs.declared.Question.{Question}
use Rattle.model.specs.declared.Question.TheVariants.{Check, AssignedUsers, AssignedRoles, AuthUsers, AuthRoles, RolePerms, UserPerms, SessionRoles, SessionPerms, RoleOps, UserOps, Sets, SetRoles, SetCount}
use Rattle.sound.proofs.Carried.{lines_small}
use Rattle.sound.proofs.Members.{common-member, common-intro}
use Rattle.sound.proofs.Words.{authorised-exact}
use Rattle.reviews.proofs.Agreeing.{auth_agree}
use Rattle.reviews.proofs.ListLaws.{listed-member, member-listed, members-ascending}
use Rattle.reviews.proofs.Listed.{set-count-cardinality}
use Rattle.demands.specs.Authorised.{Authorised, Effective}
use Rattle.demands.specs.Reachable.{Reachable}
use Rattle.demands.specs.Reviews.{Listing, HeldBy, Answered, QuestionsDemand}
use Rattle.demands.specs.Many.{Ascending, single}
use Rattle.demands.proofs.Demand2.{demand2}
use Rattle.demands.proofs.Exact.{exact}
use Rattle.demands.proofs.Lists.{member, ascends}
use Rattle.demands.proofs.Kept.{reachable-sound}
use Rattle.demands.proofs.Looking.{effective_to, effective_met}

-- ---- a review

-- A review that lists exactly those asked for tells exactly so.
reviewed : {m : Model} {room : ℕ} {beyond missing : Bool} {among : ℕ → Type 0} (list : List ℕ) → Ascending list → ((k : ℕ) → Memᴰ k list ↔ among k) → Listing m room beyond missing among (review m room beyond missing list)
reviewed {m} {room} {beyond} {missing} list order exactly =
    record { whole = list; ascending = order; members = exactly; tells = exact _ m list m refl refl }

-- The ascending list of the k below n that pass a test is such a one, if those asked for are below n and are those that pass.
all_listed : {m : Model} {room : ℕ} {beyond missing : Bool} {among : ℕ → Type 0} (n : ℕ) (f : ℕ → Bool) → ((k : ℕ) → f k ≡ true → among k) → ((k : ℕ) → among k → (k < n) × (f k ≡ true)) → Listing m room beyond missing among (review m room beyond missing (members n f))
all_listed n f to back =
    reviewed (members n f) ((ascends (members n f)).0 (members-ascending n f))
    (λ k. ((λ h. to k (listed-member n f k ((member (members n f) k).1 h)).1), (λ a. let b = back k a in (member (members n f) k).0 (member-listed n f k b.0 b.1))))

-- One number alone is listed.
one_number : {m : Model} {room : ℕ} {beyond missing : Bool} (n : ℕ) (list : List ℕ) → list ≡ n ∷ [] → Listing m room beyond missing (λ k. k ≡ n) (review m room beyond missing list)
one_number n list e = rw e (reviewed (n ∷ []) single (λ k. (Memᴰ.eq_of_singleton, Memᴰ.head)))

module _ (m : Model) (s : Sound m) where
  -- ---- roles that are inherited

  -- What the walk from a role meets is the role itself or inherited by it,
  lower : (r q : ℕ) → has (reached m (with none r)) q ≡ true → AtOrAbove m.juniors r q
  lower r q h = under_one r q (reach_sound m.juniors (with none r) q h)

  -- and it meets all of these.
  lower_met : (r q : ℕ) → q < 64 → AtOrAbove m.juniors r q → has (reached m (with none r)) q ≡ true
  lower_met r q l a = reach_complete m.juniors (with none r) (lines_small m s.shape) q (one-under r q (small a) a)
    where
      small : AtOrAbove m.juniors r q → r < 64
      small (inl e) = omega arith
      small (inr i) = (ends-small (lines_small m s.shape) i).0

  -- The computed set of the roles that a user is authorised for is the stated one.
  authorised_to : (u q : ℕ) → has (authorised m u) q ≡ true → Authorised m u q
  authorised_to u q h = let e = (authorised-exact m s u q).0 h in record { exists = e.0; through = e.1 }

  authorised_met : (u q : ℕ) → Authorised m u q → has (authorised m u) q ≡ true
  authorised_met u q a = (authorised-exact m s u q).1 (a.exists, a.through)

  -- The users that are authorised for a role are those that have it among theirs.
  auth_users_lem : {room : ℕ} {beyond missing : Bool} (r : ℕ) → Listing m room beyond missing (λ u. Authorised m u r) (review m room beyond missing (auth_users m r))
  unfolding auth_users auth_roles
  auth_users_lem r =
      reviewed (auth_users m r) ((ascends (auth_users m r)).0 (members-ascending 256 _))
      (λ u. ((λ h. authorised_to u r (listed-member 64 (has (authorised m u)) r (sym (auth_agree m s u r) ∙ (member (auth_users m r) u).1 h)).1), (λ a. (member (auth_users m r) u).0 (auth_agree m s u r ∙ member-listed 64 (has (authorised m u)) r (member-small m.roles r s.shape.roles a.exists) (authorised_met u r a)))))

  -- ---- permissions that some role of a set holds

  -- Where the set and the holders of a permission have a role in common, some role of the set holds it,
  held : {of : ℕ → Type 0} (set p : ℕ) → ((q : ℕ) → has set q ≡ true → of q) → holds m set p ≡ true → HeldBy m of p
  held set p to e =
      let shared = common set (m.holders p) in
      let found = is_empty_false shared (not-true (is_empty shared) e) in
      let each = common-member set (m.holders p) found.0 found.2 in
      record { role = found.0; chosen = to found.0 each.1; holds = each.2 }

  -- and where some role holds it that is in the set, they have; and it is a permission, 0 to 4,095.
  holding : {of : ℕ → Type 0} (set p : ℕ) → ((q : ℕ) → q < 64 → of q → has set q ≡ true) → HeldBy m of p → (p < 4096) × (holds m set p ≡ true)
  holding set p met h =
      let shared = common set (m.holders p) in
      let small = member-small (m.holders p) h.role (s.shape.holders p).small h.holds in
      (s.shape.permissions p h.role h.holds, not_yes (is_empty shared) (not-empty shared h.role small (common-intro set (m.holders p) h.role small (met h.role small h.chosen) h.holds)))

  -- So a list of permissions is the stated one, and so is one of the operations on an object.
  perms : {room : ℕ} {beyond missing : Bool} {of : ℕ → Type 0} (set : ℕ) → ((q : ℕ) → has set q ≡ true → of q) → ((q : ℕ) → q < 64 → of q → has set q ≡ true) → Listing m room beyond missing (λ p. HeldBy m of p) (review m room beyond missing (members 4096 (holds m set)))
  perms set to met = all_listed 4096 (holds m set) (λ p. held set p to) (λ p. holding set p met)

  ops : {room : ℕ} {beyond missing : Bool} {of : ℕ → Type 0} (set obj : ℕ) → ((q : ℕ) → has set q ≡ true → of q) → ((q : ℕ) → q < 64 → of q → has set q ≡ true) → Listing m room beyond missing (λ op. HeldBy m of (permission op obj)) (review m room beyond missing (members 16 (λ op. holds m set (permission op obj))))
  ops set obj to met = all_listed 16 (λ op. holds m set (permission op obj)) (λ op. held set (permission op obj) to) (λ op h. let b = holding set (permission op obj) met h in (omega arith, b.1))

-- ---- every question, a line for each

answered : (m : Model) → Reachable m → Sound m → (room : ℕ) (q : Question) → Answered m room q (ask m room q)
unfolding ask assigned_users assigned_roles auth_roles role_perms user_perms session_roles session_perms role_ops user_ops set_names set_roles
answered m p s room (Check k op obj) = demand2.access m p k.number op obj
answered m p s room (AssignedUsers r) = all_listed 256 _ (λ u h. h) (λ u h. (s.shape.users u (s.shape.assignees u r.number h), h))
answered m p s room (AssignedRoles u) = all_listed 64 _ (λ r h. h) (λ r h. (member-small _ r (s.shape.assigned u.number).small h, h))
answered m p s room (AuthUsers r) = auth_users_lem m s r.number
answered m p s room (AuthRoles u) = all_listed 64 _ (authorised_to m s u.number) (λ r a. (member-small _ r s.shape.roles a.exists, authorised_met m s u.number r a))
answered m p s room (RolePerms r) = perms m s _ (lower m s r.number) (lower_met m s r.number)
answered m p s room (UserPerms u) = perms m s _ (authorised_to m s u.number) (λ q l. authorised_met m s u.number q)
answered m p s room (SessionRoles k) = all_listed 64 _ (λ r h. h) (λ r h. (member-small _ r (s.shape.sessions k.number).active.small h, h))
answered m p s room (SessionPerms k) = perms m s _ (effective_to m s k.number) (λ q l. effective_met m s k.number q)
answered m p s room (RoleOps r obj) = ops m s _ obj (lower m s r.number) (lower_met m s r.number)
answered m p s room (UserOps u obj) = ops m s _ obj (authorised_to m s u.number) (λ q l. authorised_met m s u.number q)
answered m p s room (Sets Static) = all_listed 16 _ (λ n h. h) (λ n h. ((s.shape.ssd n).named h, h))
answered m p s room (Sets Dynamic) = all_listed 16 _ (λ n h. h) (λ n h. ((s.shape.dsd n).named h, h))
answered m p s room (SetRoles Static name) = all_listed 64 _ (λ r h. h) (λ r h. (member-small _ r (s.shape.ssd name.number).members.small h, h))
answered m p s room (SetRoles Dynamic name) = all_listed 64 _ (λ r h. h) (λ r h. (member-small _ r (s.shape.dsd name.number).members.small h, h))
answered m p s room (SetCount Static name) = one_number _ _ (set-count-cardinality Static m s.shape name.number)
answered m p s room (SetCount Dynamic name) = one_number _ _ (set-count-cardinality Dynamic m s.shape name.number)

-- Every question is answered exactly as the paper says.
pub questions-demand : QuestionsDemand
questions-demand = record { questions = λ m p. answered m p (reachable-sound p) }
