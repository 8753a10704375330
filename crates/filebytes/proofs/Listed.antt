-- The sections of a policy: their bytes are its file, they are of the form, and they say this policy. Assumes nothing.
use mathlib.Core.Bool.{true}
use mathlib.Core.List.Memᴰ
use mathlib.Core.List.{List, [], ◌∷◌, ◌++◌, map, Memᴰ}
use mathlib.Core.Logic.{inl, inr, ◌↔◌}
use mathlib.Core.Path.{◌≡◌, refl, sym, ap, ap₂, subst, ◌∙◌}
use Prim.Native.Nat.{ℕ, ◌+◌, ◌*◌, ◌/◌, ◌%◌, ◌<◌, ◌^◌}
use native.Mathlib.Decide.{dec_lt}
use native.Mathlib.Omega.{arith}
use lib.ListN.{length-map}
use Rattle.roleset.specs.Bounded.{members}
use Rattle.roleset.specs.Roles.{has}
use Rattle.roleset.proofs.Laws.{member-small}
use Rattle.roleset.proofs.MembersLaws.{members-most}
use Rattle.model.specs.Model.{Model, RoleSet, Session}
use Rattle.model.specs.Sound.{Existing}
use Rattle.text.specs.Bytes.{two, flat, section}
use Rattle.policyform.specs.Encode.{pair_entry, pair_in, grant_entry, grant_in, set_entry, session_entry, encode}
use Rattle.policyform.specs.Form.{SetForm, Formed}
use Rattle.policyform.proofs.Size.{few-lines, few-assigned, few-grants}
use Rattle.filebytes.specs.Sections.{SetEntry, SessionEntry, Sections, number, entries, listing, pair, grant, set, session, bytes_of, Good, Listed, pair_before, grant_before, RoleList, FineSet, FineSession, OfTheForm, Fits, Writable, Sixteen}
use Rattle.filebytes.specs.Meaning.{SetAs, SessionAs, SetNamed, SessionNumbered, Says}
use Rattle.filebytes.proofs.Lists.{every-elim, every-weaker, in_map, map-in, members-in, in_members, good-members, good-numbers}

-- ---- the sections

abbrev pub pair_of : ℕ → ℕ × ℕ
pair_of k = (k / 64, k % 64)

abbrev pub grant_of : ℕ → ℕ × ℕ × ℕ
grant_of k = (k / 4096, k % 4096 / 256, k % 256)

-- and the number of each
abbrev pub pair_number : ℕ × ℕ → ℕ
pair_number p = 64 * p.0 + p.1

abbrev pub grant_number : ℕ × ℕ × ℕ → ℕ
grant_number g = 4096 * g.0 + (g.1 * 256 + g.2)

abbrev pub set_entry_of : (ℕ → RoleSet) → ℕ → SetEntry
set_entry_of sets n = record { name = n; cardinality = (sets n).card; members = members 64 (has (sets n).roles) }

abbrev pub session_entry_of : (ℕ → Session) → ℕ → SessionEntry
session_entry_of sessions s = record { number = s; owner = (sessions s).owner; active = members 64 (has (sessions s).active) }

abbrev pub sections_of : Model → Sections
sections_of m =
    record {
      users = members 256 m.users;
      roles = members 64 (has m.roles);
      lines = map pair_of (members 4096 (pair_in m.juniors));
      assignments = map pair_of (members 16384 (pair_in m.assigned));
      grants = map grant_of (members 262144 (grant_in m.holders));
      ssd = map (set_entry_of m.ssd) (members 16 (λ n. (m.ssd n).there));
      dsd = map (set_entry_of m.dsd) (members 16 (λ n. (m.dsd n).there));
      sessions = map (session_entry_of m.sessions) (members 64 (λ s. (m.sessions s).live));
    }

-- ---- their bytes are the file

entries-flat : {A : Type 0} (write : A → List ℕ) (g : ℕ → A) (put : ℕ → List ℕ) → ((k : ℕ) → write (g k) ≡ put k) → (ks : List ℕ) → entries write (map g ks) ≡ flat put ks
unfolding entries flat
entries-flat write g put h [] = refl
entries-flat write g put h (k ∷ ks) = ap₂ ◌++◌ (h k) (entries-flat write g put h ks)

listing-section : {A : Type 0} (write : A → List ℕ) (g : ℕ → A) (put : ℕ → List ℕ) → ((k : ℕ) → write (g k) ≡ put k) → (ks : List ℕ) → listing write (map g ks) ≡ section put ks
unfolding listing section
listing-section write g put h ks = ap₂ (λ (n : ℕ) (l : List ℕ). number n ++ l) (length-map ks g) (entries-flat write g put h ks)

map_same : (ks : List ℕ) → map (λ k. k) ks ≡ ks
map_same [] = refl
map_same (k ∷ ks) = ap (λ (l : List ℕ). k ∷ l) (map_same ks)

numbers-section : (ks : List ℕ) → listing number ks ≡ section two ks
numbers-section ks = ap (listing number) (sym (map_same ks)) ∙ listing-section number (λ k. k) two (λ k. refl) ks

set-bytes : (sets : ℕ → RoleSet) (n : ℕ) → set (set_entry_of sets n) ≡ set_entry sets n
set-bytes sets n = ap (λ (l : List ℕ). number n ++ (number (sets n).card ++ l)) (numbers-section (members 64 (has (sets n).roles)))

session-bytes : (sessions : ℕ → Session) (s : ℕ) → session (session_entry_of sessions s) ≡ session_entry sessions s
session-bytes sessions s = ap (λ (l : List ℕ). number s ++ (number (sessions s).owner ++ l)) (numbers-section (members 64 (has (sessions s).active)))

pub sections-bytes : (m : Model) → bytes_of (sections_of m) ≡ encode m
unfolding bytes_of encode
sections-bytes m =
    ap₂ ◌++◌ (numbers-section _)
    (ap₂ ◌++◌ (numbers-section _)
    (ap₂ ◌++◌ (listing-section pair pair_of pair_entry (λ k. refl) _)
    (ap₂ ◌++◌ (listing-section pair pair_of pair_entry (λ k. refl) _)
    (ap₂ ◌++◌ (listing-section grant grant_of grant_entry (λ k. refl) _)
    (ap₂ ◌++◌ (listing-section set (set_entry_of m.ssd) (set_entry m.ssd) (set-bytes m.ssd) _)
    (ap₂ ◌++◌ (listing-section set (set_entry_of m.dsd) (set_entry m.dsd) (set-bytes m.dsd) _)
    (listing-section session (session_entry_of m.sessions) (session_entry m.sessions) (session-bytes m.sessions) _)))))))

-- ---- they are of the form

pub pair-up : (k j : ℕ) → k < j → pair_before (pair_of k) (pair_of j)
pair-up k j l = go (dec_lt (k / 64) (j / 64))
  where
    go : Dec (k / 64 < j / 64) → pair_before (pair_of k) (pair_of j)
    go (yes h) = inl h
    go (no h) = inr (omega arith, omega arith)

pub grant-up : (k j : ℕ) → k < j → grant_before (grant_of k) (grant_of j)
grant-up k j l = go (dec_lt (k / 4096) (j / 4096)) (dec_lt (k % 4096 / 256) (j % 4096 / 256))
  where
    go : Dec (k / 4096 < j / 4096) → Dec (k % 4096 / 256 < j % 4096 / 256) → grant_before (grant_of k) (grant_of j)
    go (yes h) d = inl h
    go (no h) (yes i) = inr (omega arith, inl i)
    go (no h) (no i) = inr (omega arith, inr (omega arith, omega arith))

module _ (m : Model) (f : Formed m) where
  a_user : (u : ℕ) → m.users u ≡ true → Listed u (sections_of m).users
  a_user u e = in_members 256 m.users u (f.users u e) e

  a_role : (r : ℕ) → has m.roles r ≡ true → Listed r (sections_of m).roles
  a_role r e = in_members 64 (has m.roles) r (member-small m.roles r f.roles e) e

  role_list : (s : ℕ) → Existing m s → RoleList (sections_of m) (members 64 (has s))
  role_list s x = good-numbers 64 (λ r. Listed r (sections_of m).roles) 64 (has s) (members-most 64 (has s)) (λ r l e. a_role r (x.exist r e))

  sets_form : (sets : ℕ → RoleSet) → ((n : ℕ) → SetForm m n (sets n)) → Good 16 (FineSet (sections_of m)) (λ a b. a.name < b.name) (map (set_entry_of sets) (members 16 (λ n. (sets n).there)))
  sets_form sets x = good-members 16 (FineSet (sections_of m)) (λ a b. a.name < b.name) (set_entry_of sets) 16 (λ n. (sets n).there) (members-most 16 (λ n. (sets n).there)) (λ n l e. record { name = l; cardinality = (x n).small; members = role_list (sets n).roles (x n).members }) (λ k j l. l)

  pub sections_form : OfTheForm (sections_of m)
  sections_form =
      record {
        users = good-numbers 256 (λ u. u < 256) 256 m.users (members-most 256 m.users) (λ k l e. l);
        roles = good-numbers 64 (λ r. r < 64) 64 (has m.roles) (members-most 64 (has m.roles)) (λ k l e. l);
        lines = good-members _ _ pair_before pair_of 4096 (pair_in m.juniors) (omega (arith, few-lines m f.limits)) (λ k l e. (a_role (k / 64) (f.seniors (k / 64) (k % 64) e), a_role (k % 64) ((f.juniors (k / 64)).exist (k % 64) e))) pair-up;
        assignments = good-members _ _ pair_before pair_of 16384 (pair_in m.assigned) (omega (arith, few-assigned m f.limits)) (λ k l e. (a_user (k / 64) (f.assignees (k / 64) (k % 64) e), a_role (k % 64) ((f.assigned (k / 64)).exist (k % 64) e))) pair-up;
        grants = good-members _ _ grant_before grant_of 262144 (grant_in m.holders) (omega (arith, few-grants m f.limits)) (λ k l e. (a_role (k / 4096) ((f.holders (k % 4096)).exist (k / 4096) e), omega arith, omega arith)) grant-up;
        ssd = sets_form m.ssd f.ssd;
        dsd = sets_form m.dsd f.dsd;
        sessions = good-members 64 (FineSession (sections_of m)) (λ a b. a.number < b.number) (session_entry_of m.sessions) 64 (λ s. (m.sessions s).live) (members-most 64 (λ s. (m.sessions s).live)) (λ s l e. record { number = l; owner = a_user (m.sessions s).owner ((f.sessions s).owned e); active = role_list (m.sessions s).active (f.sessions s).active }) (λ k j l. l);
      }

-- ---- they say the policy

-- a pair and a grant stand in the list at their own numbers
pub pair-own : (size : ℕ) (table : ℕ → ℕ) (p : ℕ × ℕ) → p.0 < size → p.1 < 64 → has (table p.0) p.1 ≡ true → (pair_number p < 64 * size) × (pair_in table (pair_number p) ≡ true) × (pair_of (pair_number p) ≡ p)
pair-own size table p i r e =
    let row : pair_number p / 64 ≡ p.0 = omega arith in
    let col : pair_number p % 64 ≡ p.1 = omega arith in
    (omega arith, ap₂ (λ (a b : ℕ). has (table a) b) row col ∙ e, λ j. (row j, col j))

pub pair-in : (size : ℕ) (table : ℕ → ℕ) (p : ℕ × ℕ) → p.0 < size → p.1 < 64 → has (table p.0) p.1 ≡ true → Memᴰ p (map pair_of (members (64 * size) (pair_in table)))
pair-in size table p i r e = let o = pair-own size table p i r e in Memᴰ.cast (sym o.2) (in_map pair_of (pair_number p) (members (64 * size) (pair_in table)) (in_members (64 * size) (pair_in table) (pair_number p) o.0 o.1))

pub grant-own : (holders : ℕ → ℕ) (g : ℕ × ℕ × ℕ) → g.0 < 64 → g.1 < 16 → g.2 < 256 → has (holders (g.1 * 256 + g.2)) g.0 ≡ true → (grant_number g < 262144) × (grant_in holders (grant_number g) ≡ true) × (grant_of (grant_number g) ≡ g)
grant-own holders g a b d e =
    let role : grant_number g / 4096 ≡ g.0 = omega arith in
    let all : grant_number g % 4096 ≡ g.1 * 256 + g.2 = omega arith in
    let operation : grant_number g % 4096 / 256 ≡ g.1 = omega arith in
    let object : grant_number g % 256 ≡ g.2 = omega arith in
    (omega arith, ap₂ (λ (a b : ℕ). has (holders a) b) all role ∙ e, λ j. (role j, operation j, object j))

pub grant-in : (holders : ℕ → ℕ) (g : ℕ × ℕ × ℕ) → g.0 < 64 → g.1 < 16 → g.2 < 256 → has (holders (g.1 * 256 + g.2)) g.0 ≡ true → Memᴰ g (map grant_of (members 262144 (grant_in holders)))
grant-in holders g a b d e = let o = grant-own holders g a b d e in Memᴰ.cast (sym o.2) (in_map grant_of (grant_number g) (members 262144 (grant_in holders)) (in_members 262144 (grant_in holders) (grant_number g) o.0 o.1))

-- the pairs of a table of which no place is beyond `size` and no role beyond 63
pairs-say : (size : ℕ) (table : ℕ → ℕ) → ((i r : ℕ) → has (table i) r ≡ true → (i < size) × (r < 64)) → (i r : ℕ) → (has (table i) r ≡ true) ↔ Memᴰ (i, r) (map pair_of (members (64 * size) (pair_in table)))
pairs-say size table small i r = ((λ e. pair-in size table (i, r) (small i r e).0 (small i r e).1 e), back)
  where
    back : Memᴰ (i, r) (map pair_of (members (64 * size) (pair_in table))) → has (table i) r ≡ true
    back x =
        let q = map-in pair_of (members (64 * size) (pair_in table)) (i, r) x in
        ap (λ (p : ℕ × ℕ). has (table p.0) p.1) q.2 ∙ (members-in (64 * size) (pair_in table) q.0 q.1).1

module _ (m : Model) (f : Formed m) where
  roles_say : (s : ℕ) → s < 2 ^ 64 → (r : ℕ) → (has s r ≡ true) ↔ Listed r (members 64 (has s))
  roles_say s small r = ((λ e. in_members 64 (has s) r (member-small s r small e) e), (λ l. (members-in 64 (has s) r l).1))

  grants_say : (r op obj : ℕ) → op < 16 → obj < 256 → (has (m.holders (op * 256 + obj)) r ≡ true) ↔ Memᴰ (r, op, obj) (sections_of m).grants
  grants_say r op obj lo hi = ((λ e. grant-in m.holders (r, op, obj) (member-small (m.holders (op * 256 + obj)) r (f.holders (op * 256 + obj)).small e) lo hi e), back)
    where
      back : Memᴰ (r, op, obj) (sections_of m).grants → has (m.holders (op * 256 + obj)) r ≡ true
      back x =
          let q = map-in grant_of (members 262144 (grant_in m.holders)) (r, op, obj) x in
          let k : ℕ = q.0 in
          let same : op * 256 + obj ≡ k % 4096 = ap (λ (p : ℕ × ℕ × ℕ). p.1 * 256 + p.2) q.2 ∙ omega arith in
          ap₂ (λ (a b : ℕ). has (m.holders a) b) same (ap (λ (p : ℕ × ℕ × ℕ). p.0) q.2) ∙ (members-in 262144 (grant_in m.holders) k q.1).1

  sets_say : (sets : ℕ → RoleSet) → ((n : ℕ) → SetForm m n (sets n)) → (e : SetEntry) → Memᴰ e (map (set_entry_of sets) (members 16 (λ n. (sets n).there))) → SetAs sets e
  sets_say sets x e i =
      let q = map-in (set_entry_of sets) (members 16 (λ n. (sets n).there)) e i in
      subst (SetAs sets) (sym q.2) (record { there = (members-in 16 (λ n. (sets n).there) q.0 q.1).1; cardinality = refl; members = roles_say (sets q.0).roles (x q.0).members.small })

  sets_only : (sets : ℕ → RoleSet) → ((n : ℕ) → SetForm m n (sets n)) → (n : ℕ) → (sets n).there ≡ true → SetNamed n (map (set_entry_of sets) (members 16 (λ n. (sets n).there)))
  sets_only sets x n e = (set_entry_of sets n, in_map (set_entry_of sets) n (members 16 (λ n. (sets n).there)) (in_members 16 (λ n. (sets n).there) n ((x n).named e) e), refl)

  sessions_say : (e : SessionEntry) → Memᴰ e (sections_of m).sessions → SessionAs m.sessions e
  sessions_say e i =
      let q = map-in (session_entry_of m.sessions) (members 64 (λ s. (m.sessions s).live)) e i in
      subst (SessionAs m.sessions) (sym q.2) (record { live = (members-in 64 (λ s. (m.sessions s).live) q.0 q.1).1; owner = refl; active = roles_say (m.sessions q.0).active (f.sessions q.0).active.small })

  sessions_only : (n : ℕ) → (m.sessions n).live ≡ true → SessionNumbered n (sections_of m).sessions
  sessions_only n e = (session_entry_of m.sessions n, in_map (session_entry_of m.sessions) n (members 64 (λ s. (m.sessions s).live)) (in_members 64 (λ s. (m.sessions s).live) n ((f.sessions n).numbered e) e), refl)

  pub sections_say : Says (sections_of m) m
  sections_say =
      record {
        users = λ u. (a_user m f u, λ l. (members-in 256 m.users u l).1);
        roles = roles_say m.roles f.roles;
        lines = pairs-say 64 m.juniors (λ s j e. (member-small m.roles s f.roles (f.seniors s j e), member-small (m.juniors s) j (f.juniors s).small e));
        assignments = pairs-say 256 m.assigned (λ u r e. (f.users u (f.assignees u r e), member-small (m.assigned u) r (f.assigned u).small e));
        grants = grants_say;
        permissions = f.permissions;
        ssd = sets_say m.ssd f.ssd;
        ssd_only = sets_only m.ssd f.ssd;
        dsd = sets_say m.dsd f.dsd;
        dsd_only = sets_only m.dsd f.dsd;
        sessions = sessions_say;
        sessions_only = sessions_only;
      }

-- ---- and they can be written

module _ (f : Sections) (x : OfTheForm f) where
  a_role_fits : (r : ℕ) → Listed r f.roles → Fits r
  a_role_fits r l = omega (arith, every-elim (λ k. k < 64) f.roles x.roles.each r l)

  a_user_fits : (u : ℕ) → Listed u f.users → Fits u
  a_user_fits u l = omega (arith, every-elim (λ k. k < 256) f.users x.users.each u l)

  list_fits : (l : List ℕ) → RoleList f l → Writable Fits l
  list_fits l g = (omega (arith, g.count), every-weaker (λ r. Listed r f.roles) Fits a_role_fits l g.each)

  sets_fit : (l : List SetEntry) → Good 16 (FineSet f) (λ a b. a.name < b.name) l → Writable (λ e. Fits e.name × Fits e.cardinality × Writable Fits e.members) l
  sets_fit l g = (omega (arith, g.count), every-weaker (FineSet f) _ (λ e y. (omega (arith, y.name), y.cardinality, list_fits e.members y.members)) l g.each)

  -- What is of the form has sixteen-bit numbers only.
  pub form_sixteen : Sixteen f
  form_sixteen =
      record {
        users = (omega (arith, x.users.count), every-weaker (λ u. u < 256) Fits (λ u l. omega arith) f.users x.users.each);
        roles = (omega (arith, x.roles.count), every-weaker (λ u. u < 64) Fits (λ u l. omega arith) f.roles x.roles.each);
        lines = (omega (arith, x.lines.count), every-weaker _ _ (λ l y. (a_role_fits l.0 y.0, a_role_fits l.1 y.1)) f.lines x.lines.each);
        assignments = (omega (arith, x.assignments.count), every-weaker _ _ (λ l y. (a_user_fits l.0 y.0, a_role_fits l.1 y.1)) f.assignments x.assignments.each);
        grants = (omega (arith, x.grants.count), every-weaker _ _ (λ l y. (a_role_fits l.0 y.0, omega (arith, y.1), omega (arith, y.2))) f.grants x.grants.each);
        ssd = sets_fit f.ssd x.ssd;
        dsd = sets_fit f.dsd x.dsd;
        sessions = (omega (arith, x.sessions.count), every-weaker (FineSession f) _ (λ e y. (omega (arith, y.number), a_user_fits e.owner y.owner, list_fits e.active y.active)) f.sessions x.sessions.each);
      }
