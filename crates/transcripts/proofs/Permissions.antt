-- Lists of permissions said in a way that is quick to compute: a permission that no role holds is passed over. Assumes nothing.
use mathlib.Core.Bool.{Bool, true, false, not, ◌&&◌}
use mathlib.Core.List.{List}
use mathlib.Core.Path.{◌≡◌, refl, ap, ◌∙◌}
use Prim.Native.Nat.{ℕ}
use lib.Dec.{eqb}
use borrow.Author.Tests.{eqb-true}
use Rattle.roleset.specs.Bounded.{members}
use Rattle.roleset.specs.Roles.{has, with, none, common, is_empty}
use Rattle.roleset.proofs.Laws.{has-common, has-none, is_empty-intro}
use Rattle.roleset.proofs.MembersLaws.{members-ext}
use Rattle.model.specs.Model.{Model}
use Rattle.model.specs.Questions.{holds, role_perms, user_perms, session_perms, review, ask}
use Rattle.model.specs.Sheet.{Told}
use Rattle.model.specs.Words.{reached, authorised, effective}
use Rattle.model.specs.commands.Naming.{user_beyond, role_beyond, session_beyond, user_missing, role_missing, session_missing}
use Rattle.model.specs.declared.Question.TheVariants.{RolePerms, UserPerms, SessionPerms}
use Rattle.script.specs.Script.{room}

-- ---- the list of the permissions that some role of the set holds

unfoldable pub quick : (ℕ → ℕ) → ℕ → List ℕ
quick holders roles = members 4096 (λ p. elim (eqb (holders p) 0) [ true ↦ false | false ↦ not (is_empty (common roles (holders p))) ])

and_none : (a b : Bool) → b ≡ false → (a && b) ≡ false
and_none true b e = e
and_none false b e = refl

none-common : (a : ℕ) → is_empty (common a 0) ≡ true
none-common a = is_empty-intro (common a 0) (λ k l. has-common a 0 k l ∙ and_none (has a k) (has 0 k) (has-none k))

quick-is : (m : Model) (roles : ℕ) → members 4096 (holds m roles) ≡ quick m.holders roles
unfolding quick
quick-is m roles = members-ext 4096 (holds m roles) _ (λ p l. go p (eqb (m.holders p) 0) refl)
  where
    go : (p : ℕ) (t : Bool) → eqb (m.holders p) 0 ≡ t → holds m roles p ≡ elim t [ true ↦ false | false ↦ holds m roles p ]
    go p true e = ap (λ (set : ℕ). not (is_empty (common roles set))) (eqb-true _ _ e) ∙ ap not (none-common roles)
    go p false e = refl

-- ---- the three questions

abbrev pub role_told : ℕ → Model → Told
role_told r m = review m room (role_beyond r) (role_missing m r) (quick m.holders (reached m (with none r)))

abbrev pub user_told : ℕ → Model → Told
user_told u m = review m room (user_beyond u) (user_missing m u) (quick m.holders (authorised m u))

abbrev pub session_told : ℕ → Model → Told
session_told s m = review m room (session_beyond s) (session_missing m s) (quick m.holders (effective m s))

pub role-told : (r : ℕ) (m : Model) → ask m room (RolePerms (record { number = r })) ≡ role_told r m
unfolding ask role_perms
role-told r m = ap (λ (l : List ℕ). review m room (role_beyond r) (role_missing m r) l) (quick-is m (reached m (with none r)))

pub user-told : (u : ℕ) (m : Model) → ask m room (UserPerms (record { number = u })) ≡ user_told u m
unfolding ask user_perms
user-told u m = ap (λ (l : List ℕ). review m room (user_beyond u) (user_missing m u) l) (quick-is m (authorised m u))

pub session-told : (s : ℕ) (m : Model) → ask m room (SessionPerms (record { number = s })) ≡ session_told s m
unfolding ask session_perms
session-told s m = ap (λ (l : List ℕ). review m room (session_beyond s) (session_missing m s) l) (quick-is m (effective m s))
