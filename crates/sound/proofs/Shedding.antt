-- `norole`, `deassign` and `disinherit` take something away and then shed: one law for the three. Assumes nothing.
use mathlib.Core.Bool.{Bool, true, false}
use mathlib.Core.Logic.{◌↔◌}
use mathlib.Core.Path.{◌≡◌, refl, sym, subst}
use Prim.Native.Nat.{ℕ, ◌-◌, ◌^◌, ◌<◌}
use native.Mathlib.Omega.{arith}
use lib.Dec.{leb}
use borrow.Author.Tests.{leb-false, not-false}
use Rattle.roleset.specs.Roles.{has, without, none}
use Rattle.roleset.proofs.BoundedLaws.{clash, never, some-intro, some-elim}
use Rattle.roleset.proofs.Laws.{has-none, without-small, common-small}
use Rattle.hierarchy.specs.Lines.{line}
use Rattle.hierarchy.specs.Walks.{reach}
use Rattle.hierarchy.proofs.WalkLaws.{reach_sound}
use Rattle.model.specs.Model.{Model, RoleSet, Session, put, standing, with_lines, with_assignments}
use Rattle.model.specs.Words.{keeping, shedded, shed, assignments, grants, lines_standing}
use Rattle.model.specs.Sound.{Existing, SetShape, SessionShape, Shape, Counted, Sound}
use Rattle.model.specs.commands.Users.{in_set, without_role, norole}
use Rattle.model.specs.commands.Assigning.{deassigned, deassign}
use Rattle.model.specs.commands.Inheriting.{unlined, disinherit}
use Rattle.sound.proofs.Sheet.{kept}
use Rattle.sound.proofs.Put.{put_all}
use Rattle.sound.proofs.Members.{without-member, without_other, common-member, or_no, fewer-at, small_at, stripped-fewer}
use Rattle.sound.proofs.Counting.{one_less, stripped, stripped-emptied}
use Rattle.sound.proofs.Carried.{existing-none, existing_in, set_in, session-none, role_small, below-exists, closed_idle, member-there}
use Rattle.sound.proofs.Changing.{fewer_sound}

-- What holds of a live session that keeps only some roles, and of one that is not live, holds of the session that has shed.
pub shedded-all : (P : Session → Type 0) (juniors assigned : ℕ → ℕ) (x : Session) → (x.live ≡ true → P (keeping x (reach juniors (assigned x.owner)))) → (x.live ≡ false → P x) → P (shedded juniors assigned x)
unfolding shedded
shedded-all P juniors assigned x live closed = go x.live refl
  where
    go : (b : Bool) → x.live ≡ b → P (shedded juniors assigned x)
    go true e = rw (e, shedded) (live e)
    go false e = rw (e, shedded) (closed e)

-- the users, sets and sessions of m, and the other parts of m'
abbrev pub left : Model → Model → Model
left m m' = record { users = m.users; roles = m'.roles; juniors = m'.juniors; assigned = m'.assigned; holders = m'.holders; ssd = m.ssd; dsd = m.dsd; sessions = m.sessions; assignment_count = m'.assignment_count; grant_count = m'.grant_count; line_count = m'.line_count }

module _ (m m' : Model) where
  -- roles, lines, assignments and grants of m taken away: what is left, in m', names roles that are left, and is counted
  pub record Stripped : Type 0 where
    pub small : m'.roles < 2 ^ 64
    pub seniors : (a j : ℕ) → line m'.juniors a j ≡ true → has m'.roles a ≡ true
    pub juniors_left : (a : ℕ) → Existing (left m m') (m'.juniors a)
    pub assigned_left : (u : ℕ) → Existing (left m m') (m'.assigned u)
    pub holders_left : (p : ℕ) → Existing (left m m') (m'.holders p)
    pub ssd_left : (n : ℕ) → SetShape (left m m') n (m.ssd n)
    pub dsd_left : (n : ℕ) → SetShape (left m m') n (m.dsd n)
    pub lines : (a j : ℕ) → line m'.juniors a j ≡ true → line m.juniors a j ≡ true
    pub assigned_before : (u r : ℕ) → has (m'.assigned u) r ≡ true → has (m.assigned u) r ≡ true
    pub held_before : (p r : ℕ) → has (m'.holders p) r ≡ true → has (m.holders p) r ≡ true
    pub counted : Counted (left m m')

  module _ (s : Sound m) (t : Stripped) where
    -- What was taken away, and then shed, has its shape,
    shed_shape : Shape (shed (left m m'))
    unfolding shed
    shed_shape =
        record {
          users = x.users;
          roles = t.small;
          seniors = t.seniors;
          juniors = λ a. existing_in base after (λ r e. e) (t.juniors_left a);
          assignees = λ u r e. x.assignees u r (t.assigned_before u r e);
          assigned = λ u. existing_in base after (λ r e. e) (t.assigned_left u);
          permissions = λ p r e. x.permissions p r (t.held_before p r e);
          holders = λ p. existing_in base after (λ r e. e) (t.holders_left p);
          ssd = λ n. set_in base after (λ r e. e) (t.ssd_left n);
          dsd = λ n. set_in base after (λ r e. e) (t.dsd_left n);
          sessions = λ k. shedded-all (λ y. SessionShape after k y) m'.juniors m'.assigned (m.sessions k) (live k (x.sessions k)) (λ e. subst (λ (y : Session). SessionShape after k y) (sym ((x.sessions k).closed e)) (session-none after k));
        }
      where
        base : Model
        base = left m m'

        after : Model
        after = shed base

        x : Shape m
        x = s.shape

        authorised_exist : (u r : ℕ) → has (reach m'.juniors (m'.assigned u)) r ≡ true → has m'.roles r ≡ true
        authorised_exist u r h =
            let under = reach_sound m'.juniors (m'.assigned u) r h in
            below-exists m'.juniors m'.roles (λ a b. (t.juniors_left a).exist b) under.down ((t.assigned_left u).exist under.role under.member)

        live : (k : ℕ) → SessionShape m k (m.sessions k) → (m.sessions k).live ≡ true → SessionShape after k (keeping (m.sessions k) (reach m'.juniors (m'.assigned (m.sessions k).owner)))
        live k y l =
            let held = reach m'.juniors (m'.assigned (m.sessions k).owner) in
            record { closed = λ e. clash (m.sessions k).live l e; numbered = y.numbered; owned = y.owned; active = record { small = common-small (m.sessions k).active held; exist = λ r h. authorised_exist (m.sessions k).owner r (common-member (m.sessions k).active held r h).2 } }

    -- and is sound: a rule that held before still does, and shedding leaves no active role without its authorisation.
    pub shed_sound : Sound (shed (left m m'))
    unfolding shed assignments grants lines_standing
    shed_sound =
        fewer_sound m s (shed (left m m')) shed_shape
        (record { assigned = t.counted.assigned; granted = t.counted.granted; lined = t.counted.lined })
        t.lines t.assigned_before t.held_before
        (λ k r. shedded-all (λ y. has y.active r ≡ true → has (m.sessions k).active r ≡ true) m'.juniors m'.assigned (m.sessions k) (λ l h. (common-member (m.sessions k).active (reach m'.juniors (m'.assigned (m.sessions k).owner)) r h).1) (λ l h. h))
        (λ k r. shedded-all (λ y. has y.active r ≡ true → has (reach m'.juniors (m'.assigned y.owner)) r ≡ true) m'.juniors m'.assigned (m.sessions k) (λ l h. (common-member (m.sessions k).active (reach m'.juniors (m'.assigned (m.sessions k).owner)) r h).2) (λ l h. clash (has (m.sessions k).active r) h (closed_idle m s.shape k l r)))

-- ---- the commands

-- m with other lines and assignments, of which so many stand
abbrev fewer : Model → (ℕ → ℕ) → (ℕ → ℕ) → ℕ → ℕ → Model
fewer m juniors assigned lines assignments = with_assignments (with_lines m juniors lines) assigned assignments

-- Where only lines and assignments are taken away, what is left names existing roles.
same-roles-left : (m : Model) (juniors assigned : ℕ → ℕ) (n k : ℕ) → Sound m → ((a : ℕ) → juniors a < 2 ^ 64) → ((u : ℕ) → assigned u < 2 ^ 64) → ((a j : ℕ) → line juniors a j ≡ true → line m.juniors a j ≡ true) → ((u r : ℕ) → has (assigned u) r ≡ true → has (m.assigned u) r ≡ true) → n ≡ standing 64 juniors → k ≡ standing 256 assigned → Stripped m (fewer m juniors assigned n k)
unfolding assignments grants lines_standing
same-roles-left m juniors assigned n k s small-juniors small-assigned lines assigned_before line-count assignment-count =
    record {
      small = x.roles;
      seniors = λ a j e. x.seniors a j (lines a j e);
      juniors_left = λ a. record { small = small-juniors a; exist = λ r e. (x.juniors a).exist r (lines a r e) };
      assigned_left = λ u. record { small = small-assigned u; exist = λ r e. (x.assigned u).exist r (assigned_before u r e) };
      holders_left = λ p. existing_in m base (λ r e. e) (x.holders p);
      ssd_left = λ n. set_in m base (λ r e. e) (x.ssd n);
      dsd_left = λ n. set_in m base (λ r e. e) (x.dsd n);
      lines = lines;
      assigned_before = assigned_before;
      held_before = λ p r e. e;
      counted = record { assigned = assignment-count; granted = s.counted.granted; lined = line-count };
    }
  where
    base : Model
    base = fewer m juniors assigned n k

    x : Shape m
    x = s.shape

-- `deassign u r` keeps a sound model sound.
pub deassign-sound : (m : Model) (u r : ℕ) → Sound m → Sound (deassign m u r).after
unfolding deassign deassigned assignments lines_standing
deassign-sound m u r s =
    kept Sound _ m _ _ refl s (λ c.
    let range = or_no (leb 256 u) (leb 64 r) c.0 in
    let new : ℕ → ℕ = put m.assigned u (without (m.assigned u) r) in
    let less : m.assignment_count - 1 ≡ standing 256 new = omega (arith, s.counted.assigned, one_less 256 m.assigned u r (leb-false 256 u range.0) (leb-false 64 r range.1) (not-false (has (m.assigned u) r) c.1.1.0)) in
    shed_sound m (deassigned m u r) s
    (same-roles-left m m.juniors new m.line_count (m.assignment_count - 1) s (λ a. (s.shape.juniors a).small) (small_at m.assigned u r (λ k. (s.shape.assigned k).small)) (λ a j e. e) (fewer-at m.assigned u r) s.counted.lined less))

-- `disinherit senior junior` keeps a sound model sound.
pub disinherit-sound : (m : Model) (senior junior : ℕ) → Sound m → Sound (disinherit m senior junior).after
unfolding disinherit unlined assignments lines_standing
disinherit-sound m senior junior s =
    kept Sound _ m _ _ refl s (λ c.
    let range = or_no (leb 64 senior) (leb 64 junior) c.0 in
    let new : ℕ → ℕ = put m.juniors senior (without (m.juniors senior) junior) in
    let less : m.line_count - 1 ≡ standing 64 new = omega (arith, s.counted.lined, one_less 64 m.juniors senior junior (leb-false 64 senior range.0) (leb-false 64 junior range.1) (not-false (has (m.juniors senior) junior) c.1.1.0)) in
    shed_sound m (unlined m senior junior) s
    (same-roles-left m new m.assigned (m.line_count - 1) m.assignment_count s (small_at m.juniors senior junior (λ k. (s.shape.juniors k).small)) (λ u. (s.shape.assigned u).small) (fewer-at m.juniors senior junior) (λ u r e. e) less s.counted.assigned))

-- A role stands in a set of a table exactly where it is a member of one, whatever its name.
pub in_set-exact : (m : Model) (sets : ℕ → RoleSet) → ((n : ℕ) → SetShape m n (sets n)) → (r : ℕ) → (in_set sets r ≡ true) ↔ ((n : ℕ) × (has (sets n).roles r ≡ true))
unfolding in_set
in_set-exact m sets shaped r = (
  (λ e. let found = some-elim 16 (λ n. has (sets n).roles r) e in (found.0, found.2)),
  (λ f. some-intro 16 (λ n. has (sets n).roles r) f.0 ((shaped f.0).named (member-there m f.0 (sets f.0) r (shaped f.0) f.1)) f.1),
)

in-no-set : (m : Model) (sets : ℕ → RoleSet) → ((n : ℕ) → SetShape m n (sets n)) → (r : ℕ) → in_set sets r ≡ false → (n : ℕ) → has (sets n).roles r ≡ false
in-no-set m sets shaped r e n = never (has (sets n).roles r) (λ h. clash (in_set sets r) ((in_set-exact m sets shaped r).1 (n, h)) e)

-- A role that stands in no set may go, with its assignments, grants and lines: what is left names roles that are left.
role-stripped : (m : Model) (r : ℕ) → Sound m → r < 64 → in_set m.ssd r ≡ false → in_set m.dsd r ≡ false → Stripped m (without_role m r)
unfolding without_role assignments grants lines_standing
role-stripped m r s l no-ssd no-dsd =
    record {
      small = without-small m.roles r;
      seniors = put_all (λ a set. (j : ℕ) → has set j ≡ true → has remaining a ≡ true) table r none (λ j e. clash (has 0 j) e (has-none j)) (λ a d j e. still a (x.seniors a j (without-member (m.juniors a) r j e).1) d);
      juniors_left = put_all (λ a set. Existing base set) table r none (existing-none base) (λ a d. existing (m.juniors a) (x.juniors a));
      assigned_left = λ u. existing (m.assigned u) (x.assigned u);
      holders_left = λ p. existing (m.holders p) (x.holders p);
      ssd_left = λ n. set_left n (m.ssd n) (x.ssd n) (in-no-set m m.ssd x.ssd r no-ssd n);
      dsd_left = λ n. set_left n (m.dsd n) (x.dsd n) (in-no-set m m.dsd x.dsd r no-dsd n);
      lines = stripped-fewer m.juniors r;
      assigned_before = λ u k e. (without-member (m.assigned u) r k e).1;
      held_before = λ p k e. (without-member (m.holders p) r k e).1;
      counted =
          record {
            assigned = omega (arith, s.counted.assigned, stripped 256 m.assigned r l);
            granted = omega (arith, s.counted.granted, stripped 4096 m.holders r l);
            lined = omega (arith, s.counted.lined, stripped-emptied 64 m.juniors r l l);
          };
    }
  where
    remaining : ℕ
    remaining = without m.roles r

    table : ℕ → ℕ
    table = λ a. without (m.juniors a) r

    base : Model
    base = without_role m r

    x : Shape m
    x = s.shape

    still : (k : ℕ) → has m.roles k ≡ true → (k ≡ r → ⊥) → has remaining k ≡ true
    still k e d = without_other m.roles r k (role_small m x k e) e d

    existing : (set : ℕ) → Existing m set → Existing base (without set r)
    existing set y = record { small = without-small set r; exist = λ k e. let w = without-member set r k e in still k (y.exist k w.1) w.2 }

    set_left : (n : ℕ) (set : RoleSet) → SetShape m n set → has set.roles r ≡ false → SetShape base n set
    set_left n set y e = record { absent = y.absent; named = y.named; at_least = y.at_least; at_most = y.at_most; members = record { small = y.members.small; exist = λ k h. still k (y.members.exist k h) (λ d. clash (has set.roles k) h (rw d e)) } }

-- `norole r` keeps a sound model sound.
pub norole-sound : (m : Model) (r : ℕ) → Sound m → Sound (norole m r).after
unfolding norole without_role
norole-sound m r s =
    kept Sound _ m _ _ refl s (λ c. let n = or_no (in_set m.ssd r) (in_set m.dsd r) c.1.1.0 in
    shed_sound m (without_role m r) s (role-stripped m r s (leb-false 64 r c.0) n.0 n.1))
