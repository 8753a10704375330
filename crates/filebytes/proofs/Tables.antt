-- The file of a policy that is computed: the sections are compared with what is listed; of the tables of pairs and of grants, which are long, each
-- listed entry is looked up, and they hold no more, by their count. Assumes nothing.
use mathlib.Core.Bool.{Bool, true, false}
use mathlib.Core.List.{List, [], ◌∷◌, map, Memᴰ}
use mathlib.Core.Path.{◌≡◌, refl, sym, ap, ◌∙◌}
use Prim.Native.Nat.{ℕ, ◌+◌, ◌*◌, ◌<◌}
use native.Mathlib.Omega.{arith}
use lib.ListN.{length, get_or, length-map}
use Rattle.roleset.specs.Bounded.{bit, members}
use Rattle.roleset.specs.Roles.{has}
use Rattle.model.specs.Model.{Model, standing}
use Rattle.model.specs.Words.{assignments, grants, lines_standing}
use Rattle.policyform.specs.Encode.{pair_in, grant_in, encode}
use Rattle.policyform.specs.Form.{Formed}
use Rattle.policyform.proofs.Counts.{pairs-count, grants-count}
use Rattle.filebytes.specs.Sections.{SetEntry, SessionEntry, Sections, bytes_of, Every, Ascending, pair_before, grant_before, OfTheForm}
use Rattle.filebytes.proofs.Decided.{all, all-every}
use Rattle.filebytes.proofs.Lists.{every-elim, ascending-members, ascending-map, fills}
use Rattle.filebytes.proofs.Listed.{pair_of, grant_of, set_entry_of, session_entry_of, sections_of, sections-bytes, pair-up, grant-up, pair-in, grant-in}
use Rattle.filebytes.proofs.Same.{role_small, user_small, pair-never, grant-never}

pub record Agrees (m : Model) (f : Sections) : Type 0 where
  pub users : members 256 m.users ≡ f.users
  pub roles : members 64 (has m.roles) ≡ f.roles
  pub lines : Every (λ p. has (m.juniors p.0) p.1 ≡ true) f.lines
  pub line_count : m.line_count ≡ length f.lines
  pub assignments : Every (λ p. has (m.assigned p.0) p.1 ≡ true) f.assignments
  pub assignment_count : m.assignment_count ≡ length f.assignments
  pub grants : Every (λ g. has (m.holders (g.1 * 256 + g.2)) g.0 ≡ true) f.grants
  pub grant_count : m.grant_count ≡ length f.grants
  pub ssd : map (set_entry_of m.ssd) (members 16 (λ n. (m.ssd n).there)) ≡ f.ssd
  pub dsd : map (set_entry_of m.dsd) (members 16 (λ n. (m.dsd n).there)) ≡ f.dsd
  pub sessions : map (session_entry_of m.sessions) (members 64 (λ s. (m.sessions s).live)) ≡ f.sessions

-- a table of pairs that holds as many as are listed, each of these among them
pairs-fill : (size : ℕ) (table : ℕ → ℕ) (l : List (ℕ × ℕ)) → Ascending pair_before l → ((p : ℕ × ℕ) → Memᴰ p l → (p.0 < size) × (p.1 < 64)) → Every (λ p. has (table p.0) p.1 ≡ true) l → standing size table ≡ length l → map pair_of (members (64 * size) (pair_in table)) ≡ l
pairs-fill size table l p small there count = fills pair_before pair-never l (map pair_of (members (64 * size) (pair_in table))) p (ascending-map ◌<◌ pair_before pair_of pair-up (members (64 * size) (pair_in table)) (ascending-members (64 * size) (pair_in table))) to (length-map (members (64 * size) (pair_in table)) pair_of ∙ pairs-count size table ∙ count)
  where
    to : (p : ℕ × ℕ) → Memᴰ p l → Memᴰ p (map pair_of (members (64 * size) (pair_in table)))
    to p m = let s = small p m in pair-in size table p s.0 s.1 (every-elim (λ p. has (table p.0) p.1 ≡ true) l there p m)

grants-fill : (holders : ℕ → ℕ) (l : List (ℕ × ℕ × ℕ)) → Ascending grant_before l → ((g : ℕ × ℕ × ℕ) → Memᴰ g l → (g.0 < 64) × (g.1 < 16) × (g.2 < 256)) → Every (λ g. has (holders (g.1 * 256 + g.2)) g.0 ≡ true) l → standing 4096 holders ≡ length l → map grant_of (members 262144 (grant_in holders)) ≡ l
grants-fill holders l p small there count = fills grant_before grant-never l (map grant_of (members 262144 (grant_in holders))) p (ascending-map ◌<◌ grant_before grant_of grant-up (members 262144 (grant_in holders)) (ascending-members 262144 (grant_in holders))) to (length-map (members 262144 (grant_in holders)) grant_of ∙ grants-count holders ∙ count)
  where
    to : (g : ℕ × ℕ × ℕ) → Memᴰ g l → Memᴰ g (map grant_of (members 262144 (grant_in holders)))
    to g m = let s = small g m in grant-in holders g s.0 s.1 s.2 (every-elim (λ g. has (holders (g.1 * 256 + g.2)) g.0 ≡ true) l there g m)

-- A policy that agrees with sections of the form has these as its file.
pub agrees-file : (m : Model) (f : Sections) → Formed m → OfTheForm f → Agrees m f → encode m ≡ bytes_of f
unfolding assignments grants lines_standing
agrees-file m f x form a =
    let e3 = pairs-fill 64 m.juniors f.lines form.lines.order (λ p i. let y = every-elim _ f.lines form.lines.each p i in (role_small f form p.0 y.0, role_small f form p.1 y.1)) a.lines (sym x.counted.lined ∙ a.line_count) in
    let e4 = pairs-fill 256 m.assigned f.assignments form.assignments.order (λ p i. let y = every-elim _ f.assignments form.assignments.each p i in (user_small f form p.0 y.0, role_small f form p.1 y.1)) a.assignments (sym x.counted.assigned ∙ a.assignment_count) in
    let e5 = grants-fill m.holders f.grants form.grants.order (λ g i. let y = every-elim _ f.grants form.grants.each g i in (role_small f form g.0 y.0, y.1, y.2)) a.grants (sym x.counted.granted ∙ a.grant_count) in
    let same : sections_of m ≡ f = λ j. record { users = a.users j; roles = a.roles j; lines = e3 j; assignments = e4 j; grants = e5 j; ssd = a.ssd j; dsd = a.dsd j; sessions = a.sessions j } in
    sym (sections-bytes m) ∙ ap bytes_of same

-- ---- all that is looked up, as one value

abbrev pub Seen : Type 0
Seen = List ℕ × (List ℕ × (List ℕ × (List SetEntry × (List SetEntry × List SessionEntry))))

unfoldable pub seen : Model → Sections → Seen
seen m f = (
  members 256 m.users,
  (
    members 64 (has m.roles),
    (
      m.line_count
          ∷ m.assignment_count
          ∷ m.grant_count
          ∷ bit (all (λ p. has (m.juniors p.0) p.1) f.lines)
          ∷ bit (all (λ p. has (m.assigned p.0) p.1) f.assignments)
          ∷ bit (all (λ g. has (m.holders (g.1 * 256 + g.2)) g.0) f.grants)
          ∷ [],
      (
        map (set_entry_of m.ssd) (members 16 (λ n. (m.ssd n).there)),
        (
          map (set_entry_of m.dsd) (members 16 (λ n. (m.dsd n).there)),
          map (session_entry_of m.sessions) (members 64 (λ s. (m.sessions s).live)),
        ),
      ),
    ),
  ),
)

-- what is to be seen
unfoldable pub told : Sections → Seen
told f = (f.users, (f.roles, (length f.lines ∷ length f.assignments ∷ length f.grants ∷ 1 ∷ 1 ∷ 1 ∷ [], (f.ssd, (f.dsd, f.sessions)))))

bit-yes : (b : Bool) → bit b ≡ 1 → b ≡ true
bit-yes true e = refl
bit-yes false e = absurd (omega arith)

pub seen-agrees : (m : Model) (f : Sections) → seen m f ≡ told f → Agrees m f
unfolding seen told
seen-agrees m f e =
    record {
      users = ap (λ (s : Seen). s.0) e;
      roles = ap (λ (s : Seen). s.1.0) e;
      lines = all-every (λ p. has (m.juniors p.0) p.1) _ (λ p h. h) f.lines (bit-yes _ (number 3));
      line_count = number 0;
      assignments = all-every (λ p. has (m.assigned p.0) p.1) _ (λ p h. h) f.assignments (bit-yes _ (number 4));
      assignment_count = number 1;
      grants = all-every (λ g. has (m.holders (g.1 * 256 + g.2)) g.0) _ (λ g h. h) f.grants (bit-yes _ (number 5));
      grant_count = number 2;
      ssd = ap (λ (s : Seen). s.1.1.1.0) e;
      dsd = ap (λ (s : Seen). s.1.1.1.1.0) e;
      sessions = ap (λ (s : Seen). s.1.1.1.1.1) e;
    }
  where
    number : (k : ℕ) → get_or (seen m f).1.1.0 k 0 ≡ get_or (told f).1.1.0 k 0
    number k = ap (λ (s : Seen). get_or s.1.1.0 k 0) e
