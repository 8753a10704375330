-- What each command changes, member by member. Assumes nothing.
use mathlib.Core.Bool.{Bool, true, false, not, ◌&&◌, ◌||◌, and-true, and-false, or-false}
use mathlib.Core.List.{List}
use mathlib.Core.Logic.{◌↔◌}
use mathlib.Core.Path.{◌≡◌, refl, sym, ap, subst, ◌∙◌}
use Prim.Native.Nat.{ℕ, ◌<◌, ◌^◌}
use native.Mathlib.Omega.{arith}
use native.Mathlib.Decide.{dec_lt}
use lib.Dec.{eqb}
use borrow.Author.Tests.{eqb-true, eqb-false, eq-eqb, ne_eqb, leb-false, not-false}
use Rattle.roleset.specs.Roles.{has, with, without, none}
use Rattle.roleset.proofs.BoundedLaws.{clash, agree}
use Rattle.roleset.proofs.Laws.{has-with, has-without, has-beyond, has-none, with-small, without-small}
use Rattle.model.specs.Lists.{listed, set_of, some_from}
use Rattle.model.specs.Model.{Model, RoleSet, Session, closed_session, put, with_users, with_lines, with_assignments, with_grants}
use Rattle.model.specs.Model as model
use Rattle.model.specs.Sheet.{Told, verdict}
use Rattle.model.specs.Sound.{Sound}
use Rattle.model.specs.Step.{step}
use Rattle.model.specs.Words as words
use Rattle.model.specs.Words.{shed, assignments, grants, lines_standing}
use Rattle.model.specs.commands.Naming.{user_beyond, role_beyond, set_beyond, user_missing, role_missing, session_missing}
use Rattle.model.specs.commands.Naming as naming
use Rattle.model.specs.commands.Users.{ended_of, all_ended, without_user, without_role}
use Rattle.model.specs.commands.Assigning.{assigned, deassigned, granted, revoked}
use Rattle.model.specs.commands.Inheriting.{lined, unlined}
use Rattle.model.specs.commands.Sets.{sets_of, a_set}
use Rattle.model.specs.commands.Sessions.{lowest_free, session_set, opened, active_set}
use Rattle.model.specs.declared.Command.{Command}
use Rattle.model.specs.declared.Command.TheVariants.{AddUser, AddRole, NoUser, NoRole, Assign, Deassign, Grant, Revoke, Inherit, Disinherit, MakeSet, DropSet, AddMember, DropMember, SetCardinality, OpenSession, Activate, DropActive, EndSession, EndAll}
use Rattle.model.specs.declared.Kind.{Kind}
use Rattle.model.specs.declared.Kind.TheVariants.{Static, Dynamic}
use Rattle.model.proofs.Puts.{put_same, put_other}
use Rattle.sound.proofs.Carried.{closed_idle}
use Rattle.sound.proofs.Members.{or_no}
use Rattle.sound.proofs.Sets.{shape_of}
use Rattle.sound.proofs.Sheet.{AllClear, done-clear, settle-answer, settle-done}
use Rattle.sound.proofs.Words.{authorised-exact, set_of-exact, shed-stays, shed-exact}
use Rattle.demands.specs.Authorised.{Authorised}
use Rattle.demands.specs.Demand2.{refusals, results, effect, set_made}
use Rattle.demands.specs.Effects.{Effects, Changed, Added, Removed, Shed, SetBecomes, SessionBecomes}
use Rattle.demands.proofs.Commands.{shown}
use Rattle.demands.proofs.Kept.{reachable-sound}

-- ---- a set of roles with one more, and with one less: for every number, not only those below 64

with_each : (set r q : ℕ) → set < 2 ^ 64 → r < 64 → has (with set r) q ≡ (has set q || eqb q r)
with_each set r q small lr = go (dec_lt q 64)
  where
    go : Dec (q < 64) → has (with set r) q ≡ (has set q || eqb q r)
    go (yes l) = has-with set r q l
    go (no l) = has-beyond (with set r) q (with-small set r) (omega arith) ∙ sym (ap (λ (x : Bool). x || eqb q r) (has-beyond set q small (omega arith)) ∙ ne_eqb q r (λ e. let z : ⊥ = omega arith in z))

without-each : (set r q : ℕ) → set < 2 ^ 64 → has (without set r) q ≡ (has set q && not (eqb q r))
without-each set r q small = go (dec_lt q 64)
  where
    go : Dec (q < 64) → has (without set r) q ≡ (has set q && not (eqb q r))
    go (yes l) = has-without set r q l
    go (no l) = has-beyond (without set r) q (without-small set r) (omega arith) ∙ sym (ap (λ (x : Bool). x && not (eqb q r)) (has-beyond set q small (omega arith)))

listed-each : (list : List ℕ) (q : ℕ) → some_from 64 list ≡ false → has (set_of list) q ≡ listed list q
listed-each list q e = agree (has (set_of list) q) (listed list q) (set_of-exact list e q).0 (set_of-exact list e q).1

-- ---- tables

added : (table : ℕ → ℕ) (i r : ℕ) → ((k : ℕ) → table k < 2 ^ 64) → r < 64 → Added table (put table i (with (table i) r)) i r
added table i r small lr k q = go (eqb k i) refl
  where
    go : (b : Bool) → eqb k i ≡ b → has (put table i (with (table i) r) k) q ≡ (has (table k) q || (b && eqb q r))
    go true e = let p = eqb-true k i e in ap (λ (j : ℕ). has (put table i (with (table i) r) j) q) p ∙ ap (λ (set : ℕ). has set q) (put_same table i (with (table i) r)) ∙ with_each (table i) r q (small i) lr ∙ ap (λ (j : ℕ). has (table j) q || eqb q r) (sym p)
    go false e = ap (λ (set : ℕ). has set q) (put_other table i (with (table i) r) k (eqb-false k i e)) ∙ sym (or-false (has (table k) q))

removed : (table : ℕ → ℕ) (i r : ℕ) → ((k : ℕ) → table k < 2 ^ 64) → Removed table (put table i (without (table i) r)) i r
removed table i r small k q = go (eqb k i) refl
  where
    go : (b : Bool) → eqb k i ≡ b → has (put table i (without (table i) r) k) q ≡ (has (table k) q && not (b && eqb q r))
    go true e = let p = eqb-true k i e in ap (λ (j : ℕ). has (put table i (without (table i) r) j) q) p ∙ ap (λ (set : ℕ). has set q) (put_same table i (without (table i) r)) ∙ without-each (table i) r q (small i) ∙ ap (λ (j : ℕ). has (table j) q && not (eqb q r)) (sym p)
    go false e = ap (λ (set : ℕ). has set q) (put_other table i (without (table i) r) k (eqb-false k i e)) ∙ sym (and-true (has (table k) q))

-- a table with one place made empty
emptied : (table : ℕ → ℕ) (i k q : ℕ) → has (put table i none k) q ≡ (has (table k) q && not (eqb k i))
emptied table i k q = go (eqb k i) refl
  where
    go : (b : Bool) → eqb k i ≡ b → has (put table i none k) q ≡ (has (table k) q && not b)
    go true e = ap (λ (j : ℕ). has (put table i none j) q) (eqb-true k i e) ∙ ap (λ (set : ℕ). has set q) (put_same table i none) ∙ has-none q ∙ sym (and-false (has (table k) q))
    go false e = ap (λ (set : ℕ). has set q) (put_other table i none k (eqb-false k i e)) ∙ sym (and-true (has (table k) q))

-- the lines without a role, at either end
lines-stripped : (table : ℕ → ℕ) (r a b : ℕ) → ((k : ℕ) → table k < 2 ^ 64) → has (put (λ k. without (table k) r) r none a) b ≡ (has (table a) b && not (eqb a r || eqb b r))
lines-stripped table r a b small = emptied (λ k. without (table k) r) r a b ∙ ap (λ (x : Bool). x && not (eqb a r)) (without-each (table a) r b (small a)) ∙ turn (has (table a) b) (eqb b r) (eqb a r)
  where
    turn : (x y z : Bool) → ((x && not y) && not z) ≡ (x && not (z || y))
    turn true true true = refl
    turn true true false = refl
    turn true false true = refl
    turn true false false = refl
    turn false y z = refl

-- ---- users

user-there : (users : ℕ → Bool) (u v : ℕ) → put users u true v ≡ (users v || eqb v u)
user-there users u v = go (eqb v u) refl
  where
    either : (x : Bool) → true ≡ (x || true)
    either true = refl
    either false = refl

    go : (b : Bool) → eqb v u ≡ b → put users u true v ≡ (users v || b)
    go true e = ap (put users u true) (eqb-true v u e) ∙ put_same users u true ∙ either (users v)
    go false e = put_other users u true v (eqb-false v u e) ∙ sym (or-false (users v))

user-gone : (users : ℕ → Bool) (u v : ℕ) → put users u false v ≡ (users v && not (eqb v u))
user-gone users u v = go (eqb v u) refl
  where
    go : (b : Bool) → eqb v u ≡ b → put users u false v ≡ (users v && not b)
    go true e = ap (put users u false) (eqb-true v u e) ∙ put_same users u false ∙ sym (and-false (users v))
    go false e = put_other users u false v (eqb-false v u e) ∙ sym (and-true (users v))

pub ended : (u : ℕ) (x : Session) → x.live ≡ true → x.owner ≡ u → ended_of u x ≡ closed_session
unfolding ended_of
ended u x l o = rw (l, eq-eqb x.owner u o, ended_of)

pub not-ended : (u : ℕ) (x : Session) → (x.live ≡ true → x.owner ≡ u → ⊥) → ended_of u x ≡ x
unfolding ended_of
not-ended u x h = ap (λ (b : Bool). elim b as (λ _. Session) [ true ↦ closed_session | false ↦ x ]) (go x.live refl)
  where
    go : (b : Bool) → x.live ≡ b → (x.live && eqb x.owner u) ≡ false
    go true e = rw e (ne_eqb x.owner u (h e))
    go false e = rw e

-- ---- shedding

-- Before a command and after it, with sessions shed in between: what is left in each.
shedding : (m base : Model) → Sound m → Sound (shed base) → base.sessions ≡ m.sessions → Shed m (shed base)
unfolding shed
shedding m base s t same =
    record {
      live = λ k. (shed-stays base k).0 ∙ ap (λ (x : ℕ → Session). (x k).live) same;
      owner = λ k. (shed-stays base k).1 ∙ ap (λ (x : ℕ → Session). (x k).owner) same;
      active = λ k r. subst (λ (x : ℕ → Session). (has ((shed base).sessions k).active r ≡ true) ↔ ((has (x k).active r ≡ true) × Authorised (shed base) (x k).owner r)) same (kept k r (base.sessions k).live refl);
    }
  where
    to : (k r : ℕ) → has (words.authorised base (base.sessions k).owner) r ≡ true → Authorised (shed base) (base.sessions k).owner r
    to k r h = let p = (authorised-exact (shed base) t (base.sessions k).owner r).0 h in record { exists = p.0; through = p.1 }

    idle : (k r : ℕ) → (base.sessions k).live ≡ false → has (base.sessions k).active r ≡ false
    idle k r e = ap (λ (x : ℕ → Session). has (x k).active r) same ∙ closed_idle m s.shape k (sym (ap (λ (x : ℕ → Session). (x k).live) same) ∙ e) r

    kept : (k r : ℕ) (b : Bool) → (base.sessions k).live ≡ b → (has ((shed base).sessions k).active r ≡ true) ↔ ((has (base.sessions k).active r ≡ true) × Authorised (shed base) (base.sessions k).owner r)
    kept k r true e = ((λ h. let p = (shed-exact base k r e).0 h in (p.0, to k r p.1)), (λ p. (shed-exact base k r e).1 (p.0, (authorised-exact (shed base) t (base.sessions k).owner r).1 (p.1.exists, p.1.through))))
    kept k r false e = ((λ h. clash (has ((shed base).sessions k).active r) h (closed_idle (shed base) t.shape k ((shed-stays base k).0 ∙ e) r)), (λ p. clash (has (base.sessions k).active r) p.0 (idle k r e)))

-- ---- one set, one session

set-becomes : (kind : Kind) (m : Model) (name : ℕ) (new : RoleSet) (member : ℕ → Bool) → ((q : ℕ) → has new.roles q ≡ member q) → SetBecomes kind m (set_made kind m name new) name new.there new.card member
set-becomes Static m name new member e = record { there = ap (λ (x : RoleSet). x.there) (put_same m.ssd name new); card = ap (λ (x : RoleSet). x.card) (put_same m.ssd name new); roles = λ q. ap (λ (x : RoleSet). has x.roles q) (put_same m.ssd name new) ∙ e q; others = put_other m.ssd name new; only = refl }
set-becomes Dynamic m name new member e = record { there = ap (λ (x : RoleSet). x.there) (put_same m.dsd name new); card = ap (λ (x : RoleSet). x.card) (put_same m.dsd name new); roles = λ q. ap (λ (x : RoleSet). has x.roles q) (put_same m.dsd name new) ∙ e q; others = put_other m.dsd name new; only = refl }

session-becomes : (m : Model) (k : ℕ) (new : Session) (live : Bool) (owner : ℕ) (active : ℕ → Bool) → new.live ≡ live → new.owner ≡ owner → ((q : ℕ) → has new.active q ≡ active q) → SessionBecomes m (session_set m k new) k live owner active
session-becomes m k new live owner active l o a = record { live = ap (λ (x : Session). x.live) (put_same m.sessions k new) ∙ l; owner = ap (λ (x : Session). x.owner) (put_same m.sessions k new) ∙ o; active = λ q. ap (λ (x : Session). has x.active q) (put_same m.sessions k new) ∙ a q; others = put_other m.sessions k new; only = refl }

-- ---- every command

-- What is kept of how full a table is, is the table's own count after the command too, so a table that changes is counted anew.
changed : (m : Model) (c : Command) (list : List ℕ) → Sound m → Sound (effect m c list) → AllClear (refusals m c list) → Changed m c list (effect m c list)
unfolding effect refusals without_user all_ended without_role assigned deassigned granted revoked lined unlined opened active_set shed assignments grants lines_standing
changed m (AddUser u) list s t c = record { users = user-there m.users u.number; only = refl }
changed m (AddRole r) list s t c = record { roles = λ q. with_each m.roles r.number q s.shape.roles (leb-false 64 r.number c.0); only = refl }
changed m (NoUser u) list s t c = record { users = user-gone m.users u.number; assigned = emptied m.assigned u.number; only = ap (λ (n : ℕ). with_users (with_assignments m (without_user m u.number).assigned n) (without_user m u.number).users) t.counted.assigned }
changed m (NoRole r) list s t c = record { roles = λ q. without-each m.roles r.number q s.shape.roles; lines = λ a b. lines-stripped m.juniors r.number a b (λ k. (s.shape.juniors k).small); assigned = λ v q. without-each (m.assigned v) r.number q (s.shape.assigned v).small; grants = λ p q. without-each (m.holders p) r.number q (s.shape.holders p).small; shedding = shedding m (without_role m r.number) s t refl; only = λ i. record { users = m.users; roles = x.roles; juniors = x.juniors; assigned = x.assigned; holders = x.holders; ssd = m.ssd; dsd = m.dsd; sessions = x.sessions; assignment_count = t.counted.assigned i; grant_count = t.counted.granted i; line_count = t.counted.lined i } }
  where
    x : Model
    x = effect m (NoRole r) list
changed m (Assign u r) list s t c = record { assigned = added m.assigned u.number r.number (λ k. (s.shape.assigned k).small) (leb-false 64 r.number (or_no (user_beyond u.number) (role_beyond r.number) c.0).1); only = ap (with_assignments m (assigned m u.number r.number).assigned) t.counted.assigned }
changed m (Deassign u r) list s t c = record { assigned = removed m.assigned u.number r.number (λ k. (s.shape.assigned k).small); shedding = shedding m (deassigned m u.number r.number) s t refl; only = ap (λ (n : ℕ). shed (with_assignments m (deassigned m u.number r.number).assigned n)) t.counted.assigned }
changed m (Grant op obj r) list s t c = record { grants = added m.holders (words.permission op obj) r.number (λ k. (s.shape.holders k).small) (leb-false 64 r.number (or_no (naming.permission_beyond op obj) (role_beyond r.number) c.0).1); only = ap (with_grants m (granted m (words.permission op obj) r.number).holders) t.counted.granted }
changed m (Revoke op obj r) list s t c = record { grants = removed m.holders (words.permission op obj) r.number (λ k. (s.shape.holders k).small); only = ap (with_grants m (revoked m (words.permission op obj) r.number).holders) t.counted.granted }
changed m (Inherit senior junior) list s t c = record { lines = added m.juniors senior.number junior.number (λ k. (s.shape.juniors k).small) (leb-false 64 junior.number (or_no (role_beyond senior.number) (role_beyond junior.number) c.0).1); only = ap (with_lines m (lined m senior.number junior.number).juniors) t.counted.lined }
changed m (Disinherit senior junior) list s t c = record { lines = removed m.juniors senior.number junior.number (λ k. (s.shape.juniors k).small); shedding = shedding m (unlined m senior.number junior.number) s t refl; only = ap (λ (n : ℕ). shed (with_lines m (unlined m senior.number junior.number).juniors n)) t.counted.lined }
changed m (MakeSet kind name n) list s t c = set-becomes kind m name.number (a_set n (set_of list)) (listed list) (λ q. listed-each list q (or_no (set_beyond name.number) (some_from 64 list) c.1.0).1)
changed m (DropSet kind name) list s t c = set-becomes kind m name.number model.absent_set (λ q. false) has-none
changed m (AddMember kind name r) list s t c = set-becomes kind m name.number _ _ (λ q. with_each (sets_of kind m name.number).roles r.number q (shape_of kind m s.shape name.number).members.small (leb-false 64 r.number (or_no (set_beyond name.number) (role_beyond r.number) c.0).1))
changed m (DropMember kind name r) list s t c = set-becomes kind m name.number _ _ (λ q. without-each (sets_of kind m name.number).roles r.number q (shape_of kind m s.shape name.number).members.small)
changed m (SetCardinality kind name n) list s t c = set-becomes kind m name.number _ _ (λ q. refl)
changed m (OpenSession u) list s t c = session-becomes m (lowest_free m) _ true u.number (listed list) refl refl (λ q. listed-each list q (or_no (user_beyond u.number) (some_from 64 list) c.1.0).1)
changed m (Activate u k r) list s t c = session-becomes m k.number _ true u.number _ (live_of c) (eqb-true (m.sessions k.number).owner u.number (not-false (eqb (m.sessions k.number).owner u.number) c.1.1.0)) (λ q. with_each (m.sessions k.number).active r.number q (s.shape.sessions k.number).active.small (leb-false 64 r.number (or_no (naming.session_beyond k.number) (role_beyond r.number) (or_no (user_beyond u.number) _ c.0).1).1))
  where
    live_of : AllClear (refusals m (Activate u k r) list) → (m.sessions k.number).live ≡ true
    live_of c = not-false (m.sessions k.number).live (or_no (session_missing m k.number) (role_missing m r.number) (or_no (user_missing m u.number) _ c.1.0).1).0
changed m (DropActive u k r) list s t c = session-becomes m k.number _ true u.number _ (live_of c) (eqb-true (m.sessions k.number).owner u.number (not-false (eqb (m.sessions k.number).owner u.number) c.1.1.0)) (λ q. without-each (m.sessions k.number).active r.number q (s.shape.sessions k.number).active.small)
  where
    live_of : AllClear (refusals m (DropActive u k r) list) → (m.sessions k.number).live ≡ true
    live_of c = not-false (m.sessions k.number).live (or_no (session_missing m k.number) (role_missing m r.number) (or_no (user_missing m u.number) _ c.1.0).1).0
changed m (EndSession u k) list s t c = session-becomes m k.number closed_session false 0 (λ q. false) refl refl has-none
changed m (EndAll u) list s t c = record { ended = λ k o. ended u.number (m.sessions k) o.0 o.1; others = λ k other. not-ended u.number (m.sessions k) (λ l o. other (l, o)); only = refl }

-- a command that is done on a reachable policy changes what the paper says, member by member, and nothing else
pub effects : Effects
effects m p c list z =
    let s = reachable-sound p in
    let row = shown m c list in
    let answer : (step m c list).answer ≡ verdict (refusals m c list) = ap (λ (t : Told). t.answer) (row.listed s) ∙ settle-answer (refusals m c list) m (results m c list) (effect m c list) in
    let after : (step m c list).after ≡ effect m c list = ap (λ (t : Told). t.after) (row.listed s ∙ settle-done (refusals m c list) m (results m c list) (effect m c list) (sym answer ∙ z)) in
    subst (Changed m c list) (sym after) (changed m c list s (subst Sound after (row.kept s)) (done-clear (refusals m c list) row.positive (sym answer ∙ z)))
