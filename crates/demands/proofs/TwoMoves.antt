-- `end-all u` and then `nouser u` are what `nouser u` was, and a session goes on until it is ended. Assumes nothing.
use mathlib.Core.Bool.{Bool, true, false, not, ◌&&◌, ◌||◌}
use mathlib.Core.List.{List, [], ◌∷◌}
use mathlib.Core.Logic.{◌↔◌}
use mathlib.Core.Path.{◌≡◌, refl, sym, ap, subst, ◌∙◌, fun_ext}
use Prim.Native.Nat.{ℕ, ◌<◌}
use native.Mathlib.Omega.{arith}
use native.Mathlib.Decide.{ℕ_discrete}
use lib.Dec.{eqb}
use borrow.Author.Tests.{leb-false, lt-leb, eqb-true, not-false}
use lib.ListN.{length}
use Rattle.roleset.specs.Bounded.{bit, members}
use Rattle.roleset.specs.Roles.{has, common, is_empty}
use Rattle.roleset.proofs.BoundedLaws.{clash, never}
use Rattle.hierarchy.specs.Walks.{reach}
use Rattle.numbers.specs.declared.User.{User}
use Rattle.model.specs.Lists.{up_to_first}
use Rattle.model.specs.Model.{Model, RoleSet, Session, closed_session, with_users, with_assigned, with_sessions}
use Rattle.model.specs.Sheet.{Refusal, ◌when◌, Told, verdict, settle, done, refused}
use Rattle.model.specs.Sound.{Sound}
use Rattle.model.specs.Step.{step}
use Rattle.model.specs.Words.{permission, shed, sessions_open}
use Rattle.model.specs.commands.Naming.{user_beyond, user_missing, session_beyond, permission_beyond}
use Rattle.model.specs.commands.Users.{ended_of, all_ended, end_all, has_open, without_user, nouser, without_role}
use Rattle.model.specs.commands.Assigning.{assigned, deassigned, granted, revoked}
use Rattle.model.specs.commands.Inheriting.{lined, unlined}
use Rattle.model.specs.commands.Sessions.{lowest_free, session_set, opened, active_set, permitted, looked, check}
use Rattle.model.specs.declared.Command.{Command}
use Rattle.model.specs.declared.Command.TheVariants.{AddUser, AddRole, NoUser, NoRole, Assign, Deassign, Grant, Revoke, Inherit, Disinherit, MakeSet, DropSet, AddMember, DropMember, SetCardinality, OpenSession, Activate, DropActive, EndSession, EndAll}
use Rattle.model.specs.declared.Kind.{Kind}
use Rattle.model.specs.declared.Kind.TheVariants.{Static, Dynamic}
use Rattle.sound.proofs.Put.{put_all}
use Rattle.sound.proofs.Sessions.{lowest-free}
use Rattle.sound.proofs.Sheet.{AllClear, kept, settle-answer, settle-done, settle-refused}
use Rattle.sound.proofs.Users.{none_open}
use Rattle.sound.proofs.Words.{shed-stays}
use Rattle.demands.specs.Demand2.{refusals, results, effect, set_made, OpenOf}
use Rattle.demands.specs.Effects.{Changed}
use Rattle.demands.specs.Reachable.{Reachable, after}
use Rattle.demands.specs.TwoMoves.{TwoMoves, GoneInOneMove, in_one_move, first, second, ChecksAlike, Ends, one, all, Meanwhile, nothing, then}
use Rattle.demands.proofs.Commands.{shown}
use Rattle.demands.proofs.Conditions.{conditions}
use Rattle.demands.proofs.Effects.{effects, ended, not-ended}
use Rattle.demands.proofs.Kept.{reachable-sound}

-- ---- the lists of refusals

-- the two that both moves have, and the third that only the second has
abbrev two : Model → ℕ → List Refusal
two m u = 1 when user_beyond u ∷ 2 when user_missing m u ∷ []

abbrev three : Model → ℕ → List Refusal
three m u = 1 when user_beyond u ∷ 2 when user_missing m u ∷ 16 when has_open m u ∷ []

-- where no session of the user is open, the third does not matter,
none_more : (a b c : Bool) → c ≡ false → verdict (1 when a ∷ 2 when b ∷ 16 when c ∷ []) ≡ verdict (1 when a ∷ 2 when b ∷ [])
unfolding verdict
none_more true b c e = refl
none_more false true c e = refl
none_more false false c e = ap (λ (x : Bool). elim x as (λ _. ℕ) [ true ↦ 16 | false ↦ 0 ]) e

-- nor where one of the two holds
refused-before : (a b c : Bool) → (verdict (1 when a ∷ 2 when b ∷ []) ≡ 0 → ⊥) → verdict (1 when a ∷ 2 when b ∷ 16 when c ∷ []) ≡ verdict (1 when a ∷ 2 when b ∷ [])
unfolding verdict
refused-before true b c h = refl
refused-before false true c h = refl
refused-before false false c h = absurd (h refl)

-- ---- two moves are one

module _ (m : Model) (u : User) where
  abbrev n : ℕ
  n = u.number

  answered : (first m u).answer ≡ (in_one_move m n).answer
  unfolding step end_all
  answered = settle-answer (two m n) m [] (all_ended m n) ∙ sym (settle-answer (two m n) m [] _)

  -- where the first was done, the second is done, and what is left is what the one move left
  gone : verdict (two m n) ≡ 0 → nouser (all_ended m n) n ≡ in_one_move m n
  unfolding nouser without_user all_ended ended_of
  gone z =
      settle-done (three (all_ended m n) n) (all_ended m n) [] (without_user (all_ended m n) n) (none_more (user_beyond n) (user_missing m n) (has_open (all_ended m n) n) (none_open m n) ∙ z)
      ∙ sym (settle-done (two m n) m [] _ z)

  together : second m u ≡ in_one_move m n
  unfolding step end_all nouser
  together = go (ℕ_discrete (verdict (two m n)) 0)
    where
      go : Dec (verdict (two m n) ≡ 0) → nouser (settle (two m n) m [] (all_ended m n)).after n ≡ in_one_move m n
      go (yes z) = ap (λ (t : Told). nouser t.after n) (settle-done (two m n) m [] (all_ended m n) z) ∙ gone z
      go (no z) =
          let same = refused-before (user_beyond n) (user_missing m n) (has_open m n) z in
          ap (λ (t : Told). nouser t.after n) (settle-refused (two m n) m [] (all_ended m n) z)
          ∙ settle-refused (three m n) m [] (without_user m n) (λ e. z (sym same ∙ e))
          ∙ ap (λ (k : ℕ). refused k m) same
          ∙ sym (settle-refused (two m n) m [] _ z)

  silent : (first m u).results ≡ []
  unfolding step end_all settle
  silent = go (eqb (verdict (two m n)) 0)
    where
      go : (b : Bool) → (elim b as (λ _. Told) [ true ↦ done [] (all_ended m n) | false ↦ refused (verdict (two m n)) m ]).results ≡ []
      go true = refl
      go false = refl

  follows : (first m u).answer ≡ 0 → (second m u).answer ≡ 0
  follows z = ap (λ (t : Told). t.answer) together ∙ sym answered ∙ z

  leave : Reachable m → (first m u).answer ≡ 0 → GoneInOneMove m (second m u).after u.number
  leave p z =
      record {
        users = λ v. goes.users v ∙ ap (λ (t : Model). t.users v && not (eqb v u.number)) ends.only;
        assigned = λ v q. goes.assigned v q ∙ ap (λ (t : Model). has (t.assigned v) q && not (eqb v u.number)) ends.only;
        ended = λ k l o. same k ∙ ends.ended k (l, o);
        others = λ k other. same k ∙ ends.others k (λ o. other o.0 o.1);
        only = goes.only ∙ ap (λ (t : Model). with_users (with_assigned t y.assigned) y.users) ends.only ∙ ap (λ (t : Model). with_users (with_assigned (with_sessions m t.sessions) y.assigned) y.users) (sym goes.only);
      }
    where
      x : Model
      x = (first m u).after

      y : Model
      y = (second m u).after

      ends : Changed m (EndAll u) [] x
      ends = effects m p (EndAll u) [] z

      goes : Changed x (NoUser u) [] y
      goes = effects x (after p (EndAll u) []) (NoUser u) [] (follows z)

      same : (k : ℕ) → y.sessions k ≡ x.sessions k
      same k = ap (λ (t : Model). t.sessions k) goes.only

-- ---- what a check is told depends on

-- its results, by the session, the lines and the grants
abbrev told-results : Session → (ℕ → ℕ) → (ℕ → ℕ) → ℕ → ℕ → ℕ → List ℕ
told-results session juniors holders s op obj = elim (eqb (verdict (1 when (session_beyond s || permission_beyond op obj) ∷ 2 when not session.live ∷ [])) 0) [ true ↦ bit (not (is_empty (common (reach juniors session.active) (holders (permission op obj))))) ∷ length (up_to_first (has (holders (permission op obj))) (members 64 (has (reach juniors session.active)))) ∷ [] | false ↦ [] ]

settle-results : (rs : List Refusal) (m : Model) (gives : List ℕ) (left : Model) → (settle rs m gives left).results ≡ elim (eqb (verdict rs) 0) as (λ _. List ℕ) [ true ↦ gives | false ↦ [] ]
unfolding settle
settle-results rs m gives left = go (eqb (verdict rs) 0)
  where
    go : (b : Bool) → (elim b as (λ _. Told) [ true ↦ done gives left | false ↦ refused (verdict rs) m ]).results ≡ elim b as (λ _. List ℕ) [ true ↦ gives | false ↦ [] ]
    go true = refl
    go false = refl

check-results : (m : Model) (s op obj : ℕ) → (check m s op obj).results ≡ told-results (m.sessions s) m.juniors m.holders s op obj
unfolding check permitted looked
check-results m s op obj = settle-results _ m _ m

check-answer : (m : Model) (s op obj : ℕ) → (check m s op obj).answer ≡ verdict (1 when (session_beyond s || permission_beyond op obj) ∷ 2 when not (m.sessions s).live ∷ [])
unfolding check
check-answer m s op obj = settle-answer _ m _ m

-- where the lines and the grants are as they were, a session that is as it was is told the same
alike : (m x : Model) (s : ℕ) → x.juniors ≡ m.juniors → x.holders ≡ m.holders → x.sessions s ≡ m.sessions s → ChecksAlike m x s
alike m x s lines grants e op obj = (
  check-answer x s op obj ∙ ap (λ (k : Session). verdict (1 when (session_beyond s || permission_beyond op obj) ∷ 2 when not k.live ∷ [])) e ∙ sym (check-answer m s op obj),
  check-results x s op obj
      ∙ ap (λ (j : ℕ → ℕ). told-results (x.sessions s) j x.holders s op obj) lines
      ∙ ap (λ (h : ℕ → ℕ). told-results (x.sessions s) m.juniors h s op obj) grants
      ∙ ap (λ (k : Session). told-results k m.juniors m.holders s op obj) e
      ∙ sym (check-results m s op obj),
)

-- ---- whom they leave alone

-- what both say of the model after a move
abbrev Spared : Model → ℕ → Model → Type 0
Spared m s x = (x.sessions s ≡ m.sessions s) × ChecksAlike m x s

others : (m : Model) (u : User) (s : ℕ) → (OpenOf m u.number s → ⊥) → Spared m s (first m u).after
unfolding step end_all all_ended
others m u s other =
    kept (Spared m s) (two m u.number) m [] (all_ended m u.number) refl (refl, λ op obj. (refl, refl))
    (λ c. let e = not-ended u.number (m.sessions s) (λ l o. other (l, o)) in (e, alike m (all_ended m u.number) s refl refl e))

untouched : (m : Model) (u : User) (s : ℕ) → Spared m s (step m (NoUser u) []).after
unfolding step nouser without_user
untouched m u s = kept (Spared m s) (three m u.number) m [] (without_user m u.number) refl (refl, λ op obj. (refl, refl)) (λ c. (refl, alike m (without_user m u.number) s refl refl refl))

only : (m : Model) (u : User) → (first m u).after ≡ with_sessions m (first m u).after.sessions
unfolding step end_all all_ended
only m u = kept (λ x. x ≡ with_sessions m x.sessions) (two m u.number) m [] (all_ended m u.number) refl refl (λ c. refl)

ended-each : (m : Model) (u : User) → (first m u).answer ≡ 0 → (s : ℕ) → OpenOf m u.number s → (first m u).after.sessions s ≡ closed_session
unfolding step end_all all_ended
ended-each m u z s o =
    let clear : verdict (two m u.number) ≡ 0 = sym (settle-answer (two m u.number) m [] (all_ended m u.number)) ∙ z in
    ap (λ (t : Told). t.after.sessions s) (settle-done (two m u.number) m [] (all_ended m u.number) clear) ∙ ended u.number (m.sessions s) o.0 o.1

unlisted : (m : Model) (u : User) (list : List ℕ) → (step m (EndAll u) list ≡ first m u) × (step m (NoUser u) list ≡ step m (NoUser u) [])
unfolding step
unlisted m u list = (refl, refl)

-- a user of a reachable policy that has no open session has none of the 64
none_of : (m : Model) → Reachable m → (u : ℕ) → ((s : ℕ) → OpenOf m u s → ⊥) → has_open m u ≡ false
unfolding has_open
none_of m p u none = never (has_open m u) (λ e. let f = ((conditions.policy m p).opens u).0 e in none f.0 f.1)

deletable : (m : Model) → Reachable m → (u : User) → m.users u.number ≡ true → ((s : ℕ) → OpenOf m u.number s → ⊥) → (step m (NoUser u) []).answer ≡ 0
unfolding step nouser verdict
deletable m p u there none =
    let n = u.number in
    let within : user_beyond n ≡ false = lt-leb 256 n ((reachable-sound p).shape.users n there) in
    settle-answer (three m n) m [] (without_user m n) ∙ rw (within, there, none_of m p n none)

-- only the third holds
only_third : (a b c : Bool) → a ≡ false → b ≡ true → c ≡ true → verdict (1 when a ∷ 2 when not b ∷ 16 when c ∷ []) ≡ 16
unfolding verdict
only_third true b c e f g = clash true refl e
only_third false true true e f g = refl
only_third false true false e f g = clash false g refl
only_third false false c e f g = clash false f refl

has_one : (m : Model) → Reachable m → (u s : ℕ) → OpenOf m u s → has_open m u ≡ true
unfolding has_open
has_one m p u s o = ((conditions.policy m p).opens u).1 (s, o)

idle : (m : Model) → Reachable m → (u : User) → m.users u.number ≡ true → ((s : ℕ) → OpenOf m u.number s → ⊥) → first m u ≡ done [] m
unfolding step end_all all_ended verdict
idle m p u there none =
    let n = u.number in
    let within : user_beyond n ≡ false = lt-leb 256 n ((reachable-sound p).shape.users n there) in
    settle-done (two m n) m [] (all_ended m n) (rw (within, there))
    ∙ ap (λ (k : ℕ → Session). done [] (with_sessions m k)) (fun_ext (λ k. not-ended n (m.sessions k) (λ l o. none k (l, o))))

sixteen : (m : Model) → Reachable m → (u : User) (s : ℕ) → OpenOf m u.number s → step m (NoUser u) [] ≡ refused 16 m
unfolding step nouser
sixteen m p u s o =
    let n = u.number in
    let shape = (reachable-sound p).shape in
    let there : m.users n ≡ true = ap m.users (sym o.1) ∙ (shape.sessions s).owned o.0 in
    let within : user_beyond n ≡ false = lt-leb 256 n (shape.users n there) in
    let answer = only_third (user_beyond n) (m.users n) (has_open m n) within there (has_one m p n s o) in
    settle-refused (three m n) m [] (without_user m n) (λ z. let y : 16 ≡ 0 = sym answer ∙ z in omega arith) ∙ ap (λ (k : ℕ). refused k m) answer

-- ---- what goes on

module _ (m : Model) (sound : Sound m) (u s : ℕ) (o : OpenOf m u s) where
  -- one session changed, which is not this one, or is left open and its owner's
  one_changed : (k : ℕ) (new : Session) → (k ≡ s → (new.live ≡ true) × (new.owner ≡ u)) → OpenOf (session_set m k new) u s
  one_changed k new same = put_all (λ j (x : Session). j ≡ s → (x.live ≡ true) × (x.owner ≡ u)) m.sessions k new same (λ j d e. (ap (λ (i : ℕ). (m.sessions i).live) e ∙ o.0, ap (λ (i : ℕ). (m.sessions i).owner) e ∙ o.1)) s refl

  -- other roles are active in a session
  still : (k roles : ℕ) → OpenOf (active_set m k roles) u s
  unfolding active_set
  still k roles = one_changed k _ (λ e. (ap (λ (i : ℕ). (m.sessions i).live) e ∙ o.0, ap (λ (i : ℕ). (m.sessions i).owner) e ∙ o.1))

  -- a set is another
  set_open : (kind : Kind) (name : ℕ) (set : RoleSet) → OpenOf (set_made kind m name set) u s
  set_open Static name set = o
  set_open Dynamic name set = o

  -- shedding, with other lines or assignments
  shed_open : (base : Model) → base.sessions ≡ m.sessions → OpenOf (shed base) u s
  shed_open base e = ((shed-stays base s).0 ∙ ap (λ (x : ℕ → Session). (x s).live) e ∙ o.0, (shed-stays base s).1 ∙ ap (λ (x : ℕ → Session). (x s).owner) e ∙ o.1)

  -- a command that is done and does not end it leaves it open, and the user's
  left_open : (c : Command) (list : List ℕ) → (Ends u s c → ⊥) → AllClear (refusals m c list) → OpenOf (effect m c list) u s
  unfolding effect refusals without_user all_ended without_role assigned deassigned granted revoked lined unlined opened
  left_open (AddUser v) list spared c = o
  left_open (AddRole r) list spared c = o
  left_open (NoUser v) list spared c = o
  left_open (NoRole r) list spared c = shed_open (without_role m r.number) refl
  left_open (Assign v r) list spared c = o
  left_open (Deassign v r) list spared c = shed_open (deassigned m v.number r.number) refl
  left_open (Grant op obj r) list spared c = o
  left_open (Revoke op obj r) list spared c = o
  left_open (Inherit a b) list spared c = o
  left_open (Disinherit a b) list spared c = shed_open (unlined m a.number b.number) refl
  left_open (MakeSet kind name n) list spared c = set_open kind name.number _
  left_open (DropSet kind name) list spared c = set_open kind name.number _
  left_open (AddMember kind name r) list spared c = set_open kind name.number _
  left_open (DropMember kind name r) list spared c = set_open kind name.number _
  left_open (SetCardinality kind name n) list spared c = set_open kind name.number _
  left_open (OpenSession v) list spared c =
      one_changed (lowest_free m) _ (λ e. clash (m.sessions s).live o.0 (sym (ap (λ (i : ℕ). (m.sessions i).live) e) ∙ (lowest-free m (leb-false 64 (sessions_open m) c.1.1.1.1.1.0)).free))
  left_open (Activate v k r) list spared c = still k.number _
  left_open (DropActive v k r) list spared c = still k.number _
  left_open (EndSession v k) list spared c =
      let own = eqb-true (m.sessions k.number).owner v.number (not-false (eqb (m.sessions k.number).owner v.number) c.1.1.0) in
      one_changed k.number closed_session (λ e. absurd (spared (one v k (sym own ∙ ap (λ (i : ℕ). (m.sessions i).owner) e ∙ o.1) e)))
  left_open (EndAll v) list spared c =
      let same = not-ended v.number (m.sessions s) (λ l own. spared (all v (sym own ∙ o.1))) in
      (ap (λ (x : Session). x.live) same ∙ o.0, ap (λ (x : Session). x.owner) same ∙ o.1)

  -- and so does any command that does not
  lasting : (c : Command) (list : List ℕ) → (Ends u s c → ⊥) → OpenOf (step m c list).after u s
  lasting c list spared =
      let row = shown m c list in
      subst (λ (t : Told). OpenOf t.after u s) (sym (row.listed sound)) (kept (λ x. OpenOf x u s) (refusals m c list) m (results m c list) (effect m c list) row.positive o (left_open c list spared))

goes_on : (u s : ℕ) {m x : Model} → Sound m → OpenOf m u s → Meanwhile u s m x → OpenOf x u s × Sound x
goes_on u s sound o nothing = (o, sound)
goes_on u s sound o (then {x = x} w c list spared) =
    let before = goes_on u s sound o w in
    (lasting x before.1 u s before.0 c list spared, (shown x c list).kept before.1)

-- Deleting a user in two moves.
pub two-moves : TwoMoves
two-moves = record { unlisted = unlisted; answered = λ m u. (answered m u, silent m u); together = together; follows = follows; leave = λ m p u. leave m u p; ended = ended-each; others = others; only = only; idle = idle; untouched = untouched; sixteen = sixteen; deletable = deletable; goes_on = λ p u s o w. (goes_on u s (reachable-sound p) o w).0 }
