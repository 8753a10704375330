-- What is gathered: of the file of a model, this model; of any bytes, one whose lines, assignments and grants are counted; and by the code,
-- section after section. Assumes nothing.
use mathlib.Core.Bool.{Bool, true, false}
use mathlib.Core.List.{List, [], ◌++◌, append-nil}
use mathlib.Core.Path.{◌≡◌, refl, sym, ap, ap₂, subst, ◌∙◌, fun_ext}
use Prim.Native.Nat.{ℕ, ◌≤◌, ◌<◌, ◌^◌}
use native.Mathlib.Omega.{arith}
use lib.Dec.{eqb}
use lib.ListN.{length}
use borrow.Author.Tests.{eqb-true, eqb-false}
use Rattle.roleset.specs.Roles.{has}
use Rattle.roleset.proofs.BoundedLaws.{never}
use Rattle.roleset.proofs.Laws.{ext, has-none, member-small}
use Rattle.hierarchy.specs.Lines.{table_of}
use Rattle.model.specs.Model.{Model, Session, empty, put, standing, with_users, with_roles, with_lines, with_assignments, with_grants, with_ssd, with_dsd}
use Rattle.model.specs.Sound.{Counted}
use Rattle.model.specs.Words.{assignments, grants, lines_standing}
use Rattle.model.specs.declared.Kind.TheVariants.{Static, Dynamic}
use Rattle.model.proofs.Puts.{put_same, put_other}
use Rattle.state.specs.Stores.{in_range, Table}
use Rattle.state.proofs.Stored.{in-range}
use Rattle.text.specs.Places.{read_section}
use Rattle.text.proofs.Reading.{Stands, stands-left, stands-right}
use Rattle.policyform.specs.Encode.{role_list, users_part, lines_part, assigned_part, grants_part, sets_part, sessions_part, encode}
use Rattle.policyform.specs.Form.{Formed, FileOf}
use Rattle.policyform.proofs.Size.{few-lines, few-assigned, few-grants}
use Rattle.policyread.specs.Steps.{Reading, From, Read, entries, read_user, read_role, read_roles, read_line, read_assignment, read_grant, read_set, read_session}
use Rattle.policyread.specs.Gathered.{users_read, roles_after, roles_read, lines_read, assigned_read, grants_read, ssd_read, dsd_read, sessions_read, counted, gathered}
use Rattle.policyread.proofs.Back.{users_read_lem, roles_read_lem, lines_read_lem, assignments_read_lem, grants_read_lem, sets_read_lem, sessions_read_lem}

-- ---- what a file may hold has nothing beyond its ranges

-- a set with no members is 0
nobody : (s : ℕ) → s < 2 ^ 64 → ((k : ℕ) → has s k ≡ true → ⊥) → s ≡ 0
nobody s h x = ext s 0 h (omega arith) (λ k l. never (has s k) (x k) ∙ sym (has-none k))

module _ (m : Model) (f : Formed m) where
  no_juniors : (i : ℕ) → 64 ≤ i → m.juniors i ≡ 0
  no_juniors i h = nobody (m.juniors i) (f.juniors i).small (λ k e. let l = member-small m.roles i f.roles (f.seniors i k e) in omega arith)

  no_assigned : (i : ℕ) → 256 ≤ i → m.assigned i ≡ 0
  no_assigned i h = nobody (m.assigned i) (f.assigned i).small (λ k e. let l = f.users i (f.assignees i k e) in omega arith)

  no_holders : (i : ℕ) → 4096 ≤ i → m.holders i ≡ 0
  no_holders i h = nobody (m.holders i) (f.holders i).small (λ k e. let l = f.permissions i k e in omega arith)

  owners : (s : ℕ) → (m.sessions s).owner < 65536
  owners s = go (m.sessions s).live refl
    where
      go : (b : Bool) → (m.sessions s).live ≡ b → (m.sessions s).owner < 65536
      go true e = let l = f.users (m.sessions s).owner ((f.sessions s).owned e) in omega arith
      go false e = let z : (m.sessions s).owner ≡ 0 = ap (λ (x : Session). x.owner) ((f.sessions s).closed e) in omega arith

-- ---- the file of a model

-- the roles, past what was read before
roles-after : (bytes : List ℕ) (p : ℕ × Model) {at next r : ℕ} {m : Model} → p ≡ (at, m) → read_roles bytes at ≡ (next, r) → roles_after bytes p ≡ (next, with_roles m r)
roles-after bytes p {m = m} e g = ap (roles_after bytes) e ∙ ap (λ (q : ℕ × ℕ). (q.0, with_roles m q.1)) g

-- Where the bytes are the file of a model, this model is gathered.
pub gathered-file : (bytes : List ℕ) (m : Model) → FileOf m bytes → gathered bytes ≡ m
unfolding encode gathered counted users_read roles_read lines_read assigned_read grants_read ssd_read dsd_read sessions_read empty assignments grants lines_standing
gathered-file bytes m file =
    let f = file.formed in
    let from8 = sessions_part m.sessions in
    let from7 = sets_part m.dsd ++ from8 in
    let from6 = sets_part m.ssd ++ from7 in
    let from5 = grants_part m.holders ++ from6 in
    let from4 = assigned_part m.assigned ++ from5 in
    let from3 = lines_part m.juniors ++ from4 in
    let from2 = role_list m.roles ++ from3 in
    let m1 = with_users empty m.users in
    let m2 = with_roles m1 m.roles in
    let m3 = with_lines m2 m.juniors 0 in
    let m4 = with_assignments m3 m.assigned 0 in
    let m5 = with_grants m4 m.holders 0 in
    let m6 = with_ssd m5 m.ssd in
    let m7 = with_dsd m6 m.dsd in
    let s1 : Stands bytes 0 (users_part m.users ++ from2) [] = record { here = sym file.written ∙ sym (append-nil (encode m)) } in
    let s2 = stands-right (users_part m.users) from2 s1 in
    let s3 = stands-right (role_list m.roles) from3 s2 in
    let s4 = stands-right (lines_part m.juniors) from4 s3 in
    let s5 = stands-right (assigned_part m.assigned) from5 s4 in
    let s6 = stands-right (grants_part m.holders) from6 s5 in
    let s7 = stands-right (sets_part m.ssd) from7 s6 in
    let s8 = stands-right (sets_part m.dsd) from8 s7 in
    let e1 : users_read bytes ≡ _ = users_read_lem bytes empty m.users f.users 0 _ (stands-left (users_part m.users) from2 s1) in
    let e2 : roles_read bytes ≡ _ = roles-after bytes _ e1 (roles_read_lem bytes m.roles _ _ f.roles (stands-left (role_list m.roles) from3 s2)) in
    let e3 : lines_read bytes ≡ _ = ap (λ (q : ℕ × Model). read_section bytes 512 (read_line bytes) q.0 q.1) e2 ∙ lines_read_lem bytes m.juniors (λ i. (f.juniors i).small) (no_juniors m f) (few-lines m f.limits) m2 _ _ (stands-left (lines_part m.juniors) from4 s3) in
    let e4 : assigned_read bytes ≡ _ = ap (λ (q : ℕ × Model). read_section bytes 2048 (read_assignment bytes) q.0 q.1) e3 ∙ assignments_read_lem bytes m.assigned (λ i. (f.assigned i).small) (no_assigned m f) (few-assigned m f.limits) m3 _ _ (stands-left (assigned_part m.assigned) from5 s4) in
    let e5 : grants_read bytes ≡ _ = ap (λ (q : ℕ × Model). read_section bytes 2048 (read_grant bytes) q.0 q.1) e4 ∙ grants_read_lem bytes m.holders (λ i. (f.holders i).small) (no_holders m f) (few-grants m f.limits) m4 _ _ (stands-left (grants_part m.holders) from6 s5) in
    let e6 : ssd_read bytes ≡ _ = ap (λ (q : ℕ × Model). read_section bytes 16 (read_set Static bytes) q.0 q.1) e5 ∙ sets_read_lem bytes Static m.ssd (λ n. (f.ssd n).absent) (λ n. (f.ssd n).named) (λ n. (f.ssd n).small) (λ n. (f.ssd n).members.small) m5 _ _ (stands-left (sets_part m.ssd) from7 s6) in
    let e7 : dsd_read bytes ≡ _ = ap (λ (q : ℕ × Model). read_section bytes 16 (read_set Dynamic bytes) q.0 q.1) e6 ∙ sets_read_lem bytes Dynamic m.dsd (λ n. (f.dsd n).absent) (λ n. (f.dsd n).named) (λ n. (f.dsd n).small) (λ n. (f.dsd n).members.small) m6 _ _ (stands-left (sets_part m.dsd) from8 s7) in
    let e8 : sessions_read bytes ≡ _ = ap (λ (q : ℕ × Model). read_section bytes 64 (read_session bytes) q.0 q.1) e7 ∙ sessions_read_lem bytes m.sessions (λ n. (f.sessions n).closed) (λ n. (f.sessions n).numbered) (owners m f) (λ n. (f.sessions n).active.small) m7 _ _ s8 in
    ap (λ (q : ℕ × Model). counted q.1) e8
    ∙ (λ i. record { users = m.users; roles = m.roles; juniors = m.juniors; assigned = m.assigned; holders = m.holders; ssd = m.ssd; dsd = m.dsd; sessions = m.sessions; assignment_count = sym f.counted.assigned i; grant_count = sym f.counted.granted i; line_count = sym f.counted.lined i })

-- Bytes are the file of one model at most.
pub file-one : (bytes : List ℕ) (m m' : Model) → FileOf m bytes → FileOf m' bytes → m ≡ m'
file-one bytes m m' f f' = sym (gathered-file bytes m f) ∙ gathered-file bytes m' f'

-- The file tells the model: `encode` is one-to-one on what a file may hold.
pub encode_one : (m m' : Model) → Formed m → Formed m' → encode m ≡ encode m' → m ≡ m'
encode_one m m' f f' e = file-one (encode m) m m' (record { formed = f; written = refl }) (record { formed = f'; written = sym e })

-- ---- any bytes

-- What is kept of how full the tables are is what they hold.
pub gathered-counted : (bytes : List ℕ) → Counted (gathered bytes)
unfolding gathered counted assignments grants lines_standing
gathered-counted bytes = record { assigned = refl; granted = refl; lined = refl }

-- ---- the code's own reading

-- the members of a lent table are those of the table
pub table-count : {n : ℕ} {table : ℕ → ℕ} {x : List ℕ} (c : ℕ) → Table n table x → c ≡ standing (length x) (table_of x) → c ≡ standing n table
table-count c t e = e ∙ ap₂ standing t.long t.each

-- what stands at a place, put there again
put-again : (t : ℕ → ℕ) (i v : ℕ) → v ≡ t i → put t i v ≡ t
put-again t i v e = fun_ext (λ k. go k (eqb k i) refl)
  where
    go : (k : ℕ) (b : Bool) → eqb k i ≡ b → put t i v k ≡ t k
    go k true q = let p = eqb-true k i q in rw p (put_same t i v ∙ e)
    go k false q = put_other t i v k (eqb-false k i q)

-- A state of which the three tables were counted, and each count stored beside what stands at the table's first place.
pub all-counted : (m m1 m2 m3 : Model) (lines assigned granted below held holding : ℕ) →
    lines ≡ standing 64 m.juniors → assigned ≡ standing 256 m.assigned → granted ≡ standing 4096 m.holders →
    below ≡ m.juniors 0 → m1 ≡ in_range 64 0 m (with_lines m (put m.juniors 0 below) lines) →
    held ≡ m1.assigned 0 → m2 ≡ in_range 256 0 m1 (with_assignments m1 (put m1.assigned 0 held) assigned) →
    holding ≡ m2.holders 0 → m3 ≡ in_range 4096 0 m2 (with_grants m2 (put m2.holders 0 holding) granted) →
    m3 ≡ counted m
unfolding counted
all-counted m m1 m2 m3 lines assigned granted below held holding n1 n2 n3 h1 e1 h2 e2 h3 e3 =
    let r1 : m1 ≡ with_lines m m.juniors lines = e1 ∙ in-range 64 0 m _ (omega arith) ∙ ap (λ (t : ℕ → ℕ). with_lines m t lines) (put-again m.juniors 0 below h1) in
    let r2 : m2 ≡ with_assignments m1 m1.assigned assigned = e2 ∙ in-range 256 0 m1 _ (omega arith) ∙ ap (λ (t : ℕ → ℕ). with_assignments m1 t assigned) (put-again m1.assigned 0 held h2) in
    let r3 : m3 ≡ with_grants m2 m2.holders granted = e3 ∙ in-range 4096 0 m2 _ (omega arith) ∙ ap (λ (t : ℕ → ℕ). with_grants m2 t granted) (put-again m2.holders 0 holding h3) in
    r3 ∙ ap (λ (x : Model). with_grants x x.holders granted) (r2 ∙ ap (λ (x : Model). with_assignments x x.assigned assigned) r1) ∙ rw (n1, n2, n3)

-- A state whose sections were read one after another, from an empty one, and that was counted then, holds what is gathered.
pub gathered-state : (bytes : List ℕ) (m0 m1 m2 m3 m4 m5 m6 m7 m8 m9 : Model) (p1 p2 p3 p4 p5 p6 p7 p8 roles : ℕ) →
    m0 ≡ empty →
    (p1, m1) ≡ read_section bytes 256 (read_user bytes) 0 m0 →
    (p2, roles) ≡ read_roles bytes p1 →
    m2 ≡ with_roles m1 roles →
    (p3, m3) ≡ read_section bytes 512 (read_line bytes) p2 m2 →
    (p4, m4) ≡ read_section bytes 2048 (read_assignment bytes) p3 m3 →
    (p5, m5) ≡ read_section bytes 2048 (read_grant bytes) p4 m4 →
    (p6, m6) ≡ read_section bytes 16 (read_set Static bytes) p5 m5 →
    (p7, m7) ≡ read_section bytes 16 (read_set Dynamic bytes) p6 m6 →
    (p8, m8) ≡ read_section bytes 64 (read_session bytes) p7 m7 →
    m9 ≡ counted m8 →
    m9 ≡ gathered bytes
unfolding gathered users_read roles_read lines_read assigned_read grants_read ssd_read dsd_read sessions_read
gathered-state bytes m0 m1 m2 m3 m4 m5 m6 m7 m8 m9 p1 p2 p3 p4 p5 p6 p7 p8 roles g0 g1 g2 e2 g3 g4 g5 g6 g7 g8 e9 =
    let r1 : (p1, m1) ≡ users_read bytes = g1 ∙ ap (λ (x : Model). read_section bytes 256 (read_user bytes) 0 x) g0 in
    let r2 : (p2, m2) ≡ roles_read bytes = ap (λ (x : Model). (p2, x)) e2 ∙ ap (λ (q : ℕ × ℕ). (q.0, with_roles m1 q.1)) g2 ∙ ap (roles_after bytes) r1 in
    let r3 : (p3, m3) ≡ lines_read bytes = g3 ∙ ap (λ (q : ℕ × Model). read_section bytes 512 (read_line bytes) q.0 q.1) r2 in
    let r4 : (p4, m4) ≡ assigned_read bytes = g4 ∙ ap (λ (q : ℕ × Model). read_section bytes 2048 (read_assignment bytes) q.0 q.1) r3 in
    let r5 : (p5, m5) ≡ grants_read bytes = g5 ∙ ap (λ (q : ℕ × Model). read_section bytes 2048 (read_grant bytes) q.0 q.1) r4 in
    let r6 : (p6, m6) ≡ ssd_read bytes = g6 ∙ ap (λ (q : ℕ × Model). read_section bytes 16 (read_set Static bytes) q.0 q.1) r5 in
    let r7 : (p7, m7) ≡ dsd_read bytes = g7 ∙ ap (λ (q : ℕ × Model). read_section bytes 16 (read_set Dynamic bytes) q.0 q.1) r6 in
    let r8 : (p8, m8) ≡ sessions_read bytes = g8 ∙ ap (λ (q : ℕ × Model). read_section bytes 64 (read_session bytes) q.0 q.1) r7 in
    e9 ∙ ap (λ (q : ℕ × Model). counted q.1) r8

-- a state, and what is left of the bytes past a place
record Here (bytes file : List ℕ) (m : Model) (p : ℕ × Model) : Type 0 where
  pub left : From bytes p.0 file
  pub is : m ≡ p.1

here_past : {read : Reading Model} {bytes x y : List ℕ} {m n : Model} {p : ℕ × Model} → Read read x m y n → Here bytes x m p → Here bytes y n (read bytes p)
here_past {read} {bytes} {y = y} {p = p} r h = record {
  left = subst (λ (v : Model). From bytes (read bytes (p.0, v)).0 y) h.is (r.left bytes p.0 h.left);
  is = r.is bytes p.0 h.left ∙ ap (λ (v : Model). (read bytes (p.0, v)).1) h.is;
}

-- The same, by what is left of the bytes before and after each section.
pub gathered-left : (bytes f1 f2 f3 f4 f5 f6 f7 f8 : List ℕ) (m0 m1 m2 m3 m4 m5 m6 m7 m8 m9 : Model) (roles : ℕ) →
    m0 ≡ empty →
    Read (entries 256 read_user) bytes m0 f1 m1 →
    Read (entries 64 read_role) f1 0 f2 roles →
    m2 ≡ with_roles m1 roles →
    Read (entries 512 read_line) f2 m2 f3 m3 →
    Read (entries 2048 read_assignment) f3 m3 f4 m4 →
    Read (entries 2048 read_grant) f4 m4 f5 m5 →
    Read (entries 16 (read_set Static)) f5 m5 f6 m6 →
    Read (entries 16 (read_set Dynamic)) f6 m6 f7 m7 →
    Read (entries 64 read_session) f7 m7 f8 m8 →
    m9 ≡ counted m8 →
    m9 ≡ gathered bytes
unfolding gathered users_read roles_read lines_read assigned_read grants_read ssd_read dsd_read sessions_read read_roles entries
gathered-left bytes f1 f2 f3 f4 f5 f6 f7 f8 m0 m1 m2 m3 m4 m5 m6 m7 m8 m9 roles g0 g1 g2 e2 g3 g4 g5 g6 g7 g8 e9 =
    let r1 : Here bytes f1 m1 (users_read bytes) = here_past g1 (record { left = record { is = refl }; is = g0 }) in
    let r2 : Here bytes f2 m2 (roles_read bytes) = record { left = g2.left bytes (users_read bytes).0 r1.left; is = e2 ∙ ap₂ with_roles r1.is (g2.is bytes (users_read bytes).0 r1.left) } in
    let r8 = here_past g8 (here_past g7 (here_past g6 (here_past g5 (here_past g4 (here_past g3 r2))))) in
    e9 ∙ ap counted r8.is
