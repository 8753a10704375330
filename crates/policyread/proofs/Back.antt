-- Each part of a file is read back: where the part of a table stands, gathering from an empty table gives this table, and the place past the
-- part. Assumes nothing.
use mathlib.Core.Bool.{Bool, true, false}
use mathlib.Core.List.{List, [], ◌∷◌, ◌++◌, foldl}
use mathlib.Core.Path.{◌≡◌, refl, sym, ap, ap₂, ◌∙◌}
use Prim.Native.Nat.{ℕ, ◌+◌, ◌*◌, ◌/◌, ◌%◌, ◌≤◌, ◌<◌, ◌^◌}
use native.Mathlib.Omega.{arith}
use lib.ListN.{length}
use Rattle.roleset.specs.Bounded.{members}
use Rattle.roleset.specs.Roles.{has, with}
use Rattle.roleset.proofs.MembersLaws.{members-most}
use Rattle.model.specs.Model.{Model, RoleSet, Session, absent_set, closed_session, put, with_users, with_lines, with_assignments, with_grants, with_sessions}
use Rattle.model.specs.Words.{permission}
use Rattle.model.specs.commands.Sessions.{open_for}
use Rattle.model.specs.commands.Sets.{sets_of, with_sets, a_set}
use Rattle.model.specs.declared.Kind.{Kind}
use Rattle.model.specs.declared.Kind.TheVariants.{Static, Dynamic}
use Rattle.state.specs.Stores.{in_range}
use Rattle.state.proofs.Stored.{in-range}
use Rattle.text.specs.Bytes.{two, section}
use Rattle.text.specs.Places.{word_at, read_section}
use Rattle.text.proofs.Reading.{Stands, stands-left, stands-right, word_back, each_member, section_back}
use Rattle.policyform.specs.Encode.{role_list, pair_entry, pair_in, grant_entry, grant_in, users_part, lines_part, assigned_part, grants_part, sets_part, sessions_part}
use Rattle.policyread.specs.Steps.{user_added, line_added, assignment_added, grant_added, read_user, read_role, read_roles, read_pair, read_line, read_assignment, read_grant, read_entry, read_set, read_session}
use Rattle.policyread.proofs.Folds.{roles-back, records_back, Numbered, grid_back}

-- ---- one table of the model, and the model with another one in its place

pub record Part {B : Type 0} (get : Model → ℕ → B) (into : Model → (ℕ → B) → Model) : Type 0 where
  pub got : (m : Model) (t : ℕ → B) → ◌≡◌ {A = ℕ → B} (get (into m t)) t
  pub over : (m : Model) (t u : ℕ → B) → into (into m t) u ≡ into m u

-- changing the table in the model, step by step, is changing it by itself
fold-part : {B : Type 0} {get : Model → ℕ → B} {into : Model → (ℕ → B) → Model} → Part get into → (f : (ℕ → B) → ℕ → ℕ → B) (m : Model) (t : ℕ → B) (ks : List ℕ) → foldl (λ (x : Model) (k : ℕ). into x (f (get x) k)) (into m t) ks ≡ into m (foldl f t ks)
fold-part part f m t [] = refl
fold-part {B} {get} {into} part f m t (k ∷ ks) =
    ap (λ (x : Model). foldl (λ (x : Model) (k : ℕ). into x (f (get x) k)) x ks) (ap (λ (u : ℕ → B). into (into m t) (f u k)) (part.got m t) ∙ part.over m t (f t k))
    ∙ fold-part part f m (f t k) ks

module _ (bytes : List ℕ) where
  pub users_read_lem : (m : Model) (f : ℕ → Bool) → ((k : ℕ) → f k ≡ true → k < 256) → (at : ℕ) (rest : List ℕ) → Stands bytes at (users_part f) rest → read_section bytes 256 (read_user bytes) at (with_users m (λ u. false)) ≡ (at + length (users_part f), with_users m f)
  unfolding read_user
  users_read_lem m f small at rest s =
      section_back bytes two (λ (x : Model) (k : ℕ). with_users x (put x.users k (f k))) (read_user bytes) (λ k. (k < 256) × (f k ≡ true)) one 256 (omega arith) (members 256 f) (members-most 256 f) (each_member 256 f) at (with_users m (λ u. false)) rest s
      ∙ ap (λ (x : Model). (at + length (users_part f), x)) (fold-part part (λ (t : ℕ → Bool) (k : ℕ). put t k (f k)) m (λ u. false) (members 256 f) ∙ ap (with_users m) (records_back false f f 256 (λ k x. x) small))
    where
      part : Part (λ x. x.users) with_users
      part = record { got = λ m t. refl; over = λ m t u. refl }

      one : (k at : ℕ) (a : Model) (rest : List ℕ) → (k < 256) × (f k ≡ true) → Stands bytes at (two k) rest → read_user bytes (at, a) ≡ (at + length (two k), with_users a (put a.users k (f k)))
      one k at a rest p s =
          ap (λ (i : ℕ). (at + 2, user_added a i)) (word_back k (omega (arith, p.0)) s)
          ∙ ap (λ (x : Model). (at + 2, x)) (in-range 256 k a _ p.0 ∙ ap (λ (b : Bool). with_users a (put a.users k b)) (sym p.1))

  pub roles_read_lem : (r at : ℕ) (rest : List ℕ) → r < 2 ^ 64 → Stands bytes at (role_list r) rest → read_roles bytes at ≡ (at + length (role_list r), r)
  unfolding read_roles read_role
  roles_read_lem r at rest h s =
      section_back bytes two with (read_role bytes) (λ k. (k < 64) × (has r k ≡ true)) one 64 (omega arith) (members 64 (has r)) (members-most 64 (has r)) (each_member 64 (has r)) at 0 rest s
      ∙ ap (λ (x : ℕ). (at + length (role_list r), x)) (roles-back r h)
    where
      one : (k at : ℕ) (a : ℕ) (rest : List ℕ) → (k < 64) × (has r k ≡ true) → Stands bytes at (two k) rest → read_role bytes (at, a) ≡ (at + length (two k), with a k)
      one k at a rest p s = ap (λ (i : ℕ). (at + 2, with a i)) (word_back k (omega (arith, p.0)) s)

  -- sets of roles, of which entry k names the role `col k` of the set `row k`
  module _ (get : Model → ℕ → ℕ) (into : Model → (ℕ → ℕ) → Model) (part : Part get into) (size all : ℕ) (row col : ℕ → ℕ) (num : ℕ → ℕ → ℕ) (fit : Numbered size all row col num) where
    -- role r is added at place i
    abbrev added : Model → ℕ → ℕ → Model
    added m i r = in_range size i m (into m (put (get m) i (with (get m i) r)))

    marks_read : (entry : ℕ → List ℕ) (step : ℕ × Model → ℕ × Model) → ((k at : ℕ) (a : Model) (rest : List ℕ) → k < all → Stands bytes at (entry k) rest → step (at, a) ≡ (at + length (entry k), added a (row k) (col k))) → (limit : ℕ) → limit < 65536 → (table : ℕ → ℕ) → ((i : ℕ) → table i < 2 ^ 64) → ((i : ℕ) → size ≤ i → table i ≡ 0) → length (members all (λ k. has (table (row k)) (col k))) ≤ limit → (m : Model) (at : ℕ) (rest : List ℕ) → Stands bytes at (section entry (members all (λ k. has (table (row k)) (col k)))) rest → read_section bytes limit step at (into m (λ i. 0)) ≡ (at + length (section entry (members all (λ k. has (table (row k)) (col k)))), into m table)
    marks_read entry step one limit low table small none few m at rest s =
        section_back bytes entry (λ (x : Model) (k : ℕ). into x (marking (get x) k)) step (λ k. (k < all) × (has (table (row k)) (col k) ≡ true)) (λ k at a rest p s. one k at a rest p.0 s ∙ ap (λ (x : Model). (at + length (entry k), x)) (in-range size (row k) a _ (fit.inside k p.0))) limit low (members all (λ k. has (table (row k)) (col k))) few (each_member all (λ k. has (table (row k)) (col k))) at (into m (λ i. 0)) rest s
        ∙ ap (λ (x : Model). (at + length (section entry (members all (λ k. has (table (row k)) (col k)))), x)) (fold-part part marking m (λ i. 0) (members all (λ k. has (table (row k)) (col k))) ∙ ap (into m) (grid_back size all row col num fit table small none))
      where
        marking : (ℕ → ℕ) → ℕ → ℕ → ℕ
        marking t k = put t (row k) (with (t (row k)) (col k))

  -- the lines and the assignments
  pairs_read : (add : Model → ℕ → ℕ → Model) (get : Model → ℕ → ℕ) (into : Model → (ℕ → ℕ) → Model) → Part get into → (size : ℕ) → ((m : Model) (i r : ℕ) → add m i r ≡ in_range size i m (into m (put (get m) i (with (get m i) r)))) → (limit : ℕ) → size ≤ 256 → limit < 65536 → (table : ℕ → ℕ) → ((i : ℕ) → table i < 2 ^ 64) → ((i : ℕ) → size ≤ i → table i ≡ 0) → length (members (64 * size) (pair_in table)) ≤ limit → (m : Model) (at : ℕ) (rest : List ℕ) → Stands bytes at (section pair_entry (members (64 * size) (pair_in table))) rest → read_section bytes limit (read_pair add bytes) at (into m (λ i. 0)) ≡ (at + length (section pair_entry (members (64 * size) (pair_in table))), into m table)
  unfolding read_pair
  pairs_read add get into part size stored limit few low = marks_read get into part size (64 * size) (λ k. k / 64) (λ k. k % 64) (λ i r. 64 * i + r) fit pair_entry (read_pair add bytes) one limit low
    where
      fit : Numbered size (64 * size) (λ k. k / 64) (λ k. k % 64) (λ i r. 64 * i + r)
      fit = record { within = λ i r h p. omega arith; place = λ i r h p. omega arith; role = λ i r h p. omega arith; number = λ k. omega arith; inside = λ k h. omega arith }

      one : (k at : ℕ) (a : Model) (rest : List ℕ) → k < 64 * size → Stands bytes at (pair_entry k) rest → read_pair add bytes (at, a) ≡ (at + length (pair_entry k), in_range size (k / 64) a (into a (put (get a) (k / 64) (with (get a (k / 64)) (k % 64)))))
      one k at a rest p s =
          ap₂ (λ (i r : ℕ). (at + 4, add a i r)) (word_back (k / 64) (omega arith) (stands-left (two (k / 64)) (two (k % 64)) s)) (word_back (k % 64) (omega arith) (stands-right (two (k / 64)) (two (k % 64)) s))
          ∙ ap (λ (x : Model). (at + 4, x)) (stored a (k / 64) (k % 64))

  pub lines_read_lem : (table : ℕ → ℕ) → ((i : ℕ) → table i < 2 ^ 64) → ((i : ℕ) → 64 ≤ i → table i ≡ 0) → length (members 4096 (pair_in table)) ≤ 512 → (m : Model) (at : ℕ) (rest : List ℕ) → Stands bytes at (lines_part table) rest → read_section bytes 512 (read_line bytes) at (with_lines m (λ i. 0) 0) ≡ (at + length (lines_part table), with_lines m table 0)
  lines_read_lem = pairs_read line_added (λ m. m.juniors) (λ m t. with_lines m t 0) (record { got = λ m t. refl; over = λ m t u. refl }) 64 (λ m i r. refl) 512 (omega arith) (omega arith)

  pub assignments_read_lem : (table : ℕ → ℕ) → ((i : ℕ) → table i < 2 ^ 64) → ((i : ℕ) → 256 ≤ i → table i ≡ 0) → length (members 16384 (pair_in table)) ≤ 2048 → (m : Model) (at : ℕ) (rest : List ℕ) → Stands bytes at (assigned_part table) rest → read_section bytes 2048 (read_assignment bytes) at (with_assignments m (λ i. 0) 0) ≡ (at + length (assigned_part table), with_assignments m table 0)
  assignments_read_lem = pairs_read assignment_added (λ m. m.assigned) (λ m t. with_assignments m t 0) (record { got = λ m t. refl; over = λ m t u. refl }) 256 (λ m i r. refl) 2048 (omega arith) (omega arith)

  pub grants_read_lem : (table : ℕ → ℕ) → ((i : ℕ) → table i < 2 ^ 64) → ((i : ℕ) → 4096 ≤ i → table i ≡ 0) → length (members 262144 (grant_in table)) ≤ 2048 → (m : Model) (at : ℕ) (rest : List ℕ) → Stands bytes at (grants_part table) rest → read_section bytes 2048 (read_grant bytes) at (with_grants m (λ i. 0) 0) ≡ (at + length (grants_part table), with_grants m table 0)
  unfolding read_grant
  grants_read_lem = marks_read (λ m. m.holders) (λ m t. with_grants m t 0) (record { got = λ m t. refl; over = λ m t u. refl }) 4096 262144 (λ k. k % 4096) (λ k. k / 4096) (λ i r. 4096 * r + i) fit grant_entry (read_grant bytes) one 2048 (omega arith)
    where
      fit : Numbered 4096 262144 (λ k. k % 4096) (λ k. k / 4096) (λ i r. 4096 * r + i)
      fit = record { within = λ i r h p. omega arith; place = λ i r h p. omega arith; role = λ i r h p. omega arith; number = λ k. omega arith; inside = λ k h. omega arith }

      one : (k at : ℕ) (a : Model) (rest : List ℕ) → k < 262144 → Stands bytes at (grant_entry k) rest → read_grant bytes (at, a) ≡ (at + length (grant_entry k), grant_added a (k % 4096) (k / 4096))
      one k at a rest p s =
          let two-on = stands-right (two (k / 4096)) (two (k % 4096 / 256) ++ two (k % 256)) s in
          let role : word_at bytes at ≡ k / 4096 = word_back (k / 4096) (omega arith) (stands-left (two (k / 4096)) (two (k % 4096 / 256) ++ two (k % 256)) s) in
          let op : word_at bytes (at + 2) ≡ k % 4096 / 256 = word_back (k % 4096 / 256) (omega arith) (stands-left (two (k % 4096 / 256)) (two (k % 256)) two-on) in
          let four : at + 4 ≡ at + 2 + 2 = omega arith in
          let obj : word_at bytes (at + 4) ≡ k % 256 = ap (word_at bytes) four ∙ word_back (k % 256) (omega arith) (stands-right (two (k % 4096 / 256)) (two (k % 256)) two-on) in
          let whole : permission (word_at bytes (at + 2)) (word_at bytes (at + 4)) ≡ k % 4096 = omega arith in
          ap₂ (λ (i r : ℕ). (at + 6, grant_added a i r)) whole role

  -- two numbers and a list of roles
  entry_read : (at x y r : ℕ) (rest : List ℕ) → x < 65536 → y < 65536 → r < 2 ^ 64 → Stands bytes at (two x ++ (two y ++ role_list r)) rest → (word_at bytes at ≡ x) × ((word_at bytes (at + 2) ≡ y) × (read_roles bytes (at + 4) ≡ (at + length (two x ++ (two y ++ role_list r)), r)))
  entry_read at x y r rest h k l s =
      let second = stands-right (two x) (two y ++ role_list r) s in
      let four : at + 4 ≡ at + 2 + 2 = omega arith in
      let size : at + 2 + 2 + length (role_list r) ≡ at + length (two x ++ (two y ++ role_list r)) = omega arith in (
        word_back x h (stands-left (two x) (two y ++ role_list r) s),
        (
          word_back y k (stands-left (two y) (role_list r) second),
          ap (read_roles bytes) four ∙ roles_read_lem r (at + 2 + 2) rest l (stands-right (two y) (role_list r) second) ∙ ap (λ (n : ℕ). (n, r)) size,
        ),
      )

  -- records, each at the place of its number
  module _ {B : Type 0} (get : Model → ℕ → B) (into : Model → (ℕ → B) → Model) (part : Part get into) (d : B) (make : ℕ → ℕ → B) (size : ℕ) (low : size < 65536) where
    -- a record at place i, made of two numbers
    abbrev placed : Model → ℕ → ℕ → ℕ → Model
    placed m i x roles = in_range size i m (into m (put (get m) i (make x roles)))

    records_read : (there : ℕ → Bool) (second roles : ℕ → ℕ) (table : ℕ → B) → ((k : ℕ) → there k ≡ true → make (second k) (roles k) ≡ table k) → ((k : ℕ) → there k ≡ false → table k ≡ d) → ((k : ℕ) → there k ≡ true → k < size) → ((k : ℕ) → second k < 65536) → ((k : ℕ) → roles k < 2 ^ 64) → (m : Model) (at : ℕ) (rest : List ℕ) → Stands bytes at (section (λ k. two k ++ (two (second k) ++ role_list (roles k))) (members size there)) rest → read_section bytes size (read_entry placed bytes) at (into m (λ k. d)) ≡ (at + length (section (λ k. two k ++ (two (second k) ++ role_list (roles k))) (members size there)), into m table)
    unfolding read_entry
    records_read there second roles table made absent named small fine m at rest s =
        section_back bytes entry (λ (x : Model) (k : ℕ). into x (put (get x) k (table k))) (read_entry placed bytes) (λ k. (k < size) × (there k ≡ true)) one size low (members size there) (members-most size there) (each_member size there) at (into m (λ k. d)) rest s
        ∙ ap (λ (x : Model). (at + length (section entry (members size there)), x)) (fold-part part (λ (t : ℕ → B) (k : ℕ). put t k (table k)) m (λ k. d) (members size there) ∙ ap (into m) (records_back d table there size absent named))
      where
        entry : ℕ → List ℕ
        entry k = two k ++ (two (second k) ++ role_list (roles k))

        one : (k at : ℕ) (a : Model) (rest : List ℕ) → (k < size) × (there k ≡ true) → Stands bytes at (entry k) rest → read_entry placed bytes (at, a) ≡ (at + length (entry k), into a (put (get a) k (table k)))
        one k at a rest p s =
            let e = entry_read at k (second k) (roles k) rest (omega (arith, p.0)) (small k) (fine k) s in
            ap (λ (q : ℕ × ℕ). (q.0, placed a (word_at bytes at) (word_at bytes (at + 2)) q.1)) e.1.1
            ∙ ap₂ (λ (i n : ℕ). (at + length (entry k), placed a i n (roles k))) e.0 e.1.0
            ∙ ap (λ (x : Model). (at + length (entry k), x)) (in-range size k a _ p.0 ∙ ap (λ (v : B). into a (put (get a) k v)) (made k p.1))

  sets_part_lem : (kind : Kind) → Part (sets_of kind) (with_sets kind)
  sets_part_lem Static = record { got = λ m t. refl; over = λ m t u. refl }
  sets_part_lem Dynamic = record { got = λ m t. refl; over = λ m t u. refl }

  pub sets_read_lem : (kind : Kind) (sets : ℕ → RoleSet) → ((n : ℕ) → (sets n).there ≡ false → sets n ≡ absent_set) → ((n : ℕ) → (sets n).there ≡ true → n < 16) → ((n : ℕ) → (sets n).card < 65536) → ((n : ℕ) → (sets n).roles < 2 ^ 64) → (m : Model) (at : ℕ) (rest : List ℕ) → Stands bytes at (sets_part sets) rest → read_section bytes 16 (read_set kind bytes) at (with_sets kind m (λ n. absent_set)) ≡ (at + length (sets_part sets), with_sets kind m sets)
  sets_read_lem kind sets absent named card roles = records_read (sets_of kind) (with_sets kind) (sets_part_lem kind) absent_set a_set 16 (omega arith) (λ n. (sets n).there) (λ n. (sets n).card) (λ n. (sets n).roles) sets (λ n e. ap (λ (b : Bool). record { there = b; card = (sets n).card; roles = (sets n).roles }) (sym e)) absent named card roles

  pub sessions_read_lem : (sessions : ℕ → Session) → ((n : ℕ) → (sessions n).live ≡ false → sessions n ≡ closed_session) → ((n : ℕ) → (sessions n).live ≡ true → n < 64) → ((n : ℕ) → (sessions n).owner < 65536) → ((n : ℕ) → (sessions n).active < 2 ^ 64) → (m : Model) (at : ℕ) (rest : List ℕ) → Stands bytes at (sessions_part sessions) rest → read_section bytes 64 (read_session bytes) at (with_sessions m (λ n. closed_session)) ≡ (at + length (sessions_part sessions), with_sessions m sessions)
  sessions_read_lem sessions closed numbered owner active = records_read (λ m. m.sessions) with_sessions (record { got = λ m t. refl; over = λ m t u. refl }) closed_session open_for 64 (omega arith) (λ n. (sessions n).live) (λ n. (sessions n).owner) (λ n. (sessions n).active) sessions (λ n e. ap (λ (b : Bool). record { live = b; owner = (sessions n).owner; active = (sessions n).active }) (sym e)) closed numbered owner active
