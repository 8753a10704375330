-- What was read one after another is read as one: the entries of a section, one by one, and the numbers of an entry. Assumes nothing.
use mathlib.Core.List.{List}
use mathlib.Core.Path.{◌≡◌, refl, sym, ap, ap₂, ◌∙◌}
use Prim.Native.Nat.{ℕ, zero, suc, ◌+◌, ◌*◌}
use native.Mathlib.Numerals.{add-one}
use native.Mathlib.Omega.{arith}
use lib.ListN.{drop, get_or}
use lib.Seq.{get_or-drop, drop-drop}
use Rattle.roleset.specs.Roles.{with}
use Rattle.model.specs.Model.{Model}
use Rattle.model.specs.Words.{permission}
use Rattle.text.specs.Places.{word_at, at_most, again, read_section}
use Rattle.policyread.specs.Steps.{Reading, entries, From, Read, user_added, grant_added, read_user, read_role, read_pair, read_grant, read_roles, read_entry}

-- ---- a place of the bytes, and what is left from it on

-- what is left past n bytes more
pub from_past : (n : ℕ) {bytes before rest : List ℕ} {at : ℕ} → From bytes at before → rest ≡ drop n before → From bytes (at + n) rest
from_past n {bytes} {at = at} e f = record { is = f ∙ ap (drop n) e.is ∙ drop-drop n at bytes }

-- the same place by another name
pub from_same : {bytes rest : List ℕ} {i j : ℕ} → i ≡ j → From bytes i rest → From bytes j rest
from_same {bytes} p e = record { is = e.is ∙ ap (λ (k : ℕ). drop k bytes) p }

-- the number that stands first there is the one at the place
pub word_there : {bytes before : List ℕ} {at x : ℕ} → From bytes at before → x ≡ word_at before 0 → x ≡ word_at bytes at
unfolding word_at
word_there {bytes} {before} {at} e v =
    let here : at + 0 ≡ at = omega arith in
    v ∙ ap (λ (l : List ℕ). get_or l 0 0 + 256 * get_or l 1 0) e.is ∙ ap₂ (λ (x y : ℕ). x + 256 * y) (get_or-drop at bytes 0 0 ∙ ap (λ (k : ℕ). get_or bytes k 0) here) (get_or-drop at bytes 1 0)

-- ---- entry after entry

-- so many entries
pub repeated : {A : Type 0} → ℕ → Reading A → Reading A
repeated n step bytes p = again (step bytes) n p

again-more : {A : Type 0} (step : A → A) (n : ℕ) (a : A) → again step (suc n) a ≡ step (again step n a)
unfolding again
again-more step zero a = refl
again-more step (suc n) a = again-more step n (step a)

-- none was read yet
pub none_read : {A : Type 0} (step : Reading A) {x : List ℕ} {a : A} → Read (repeated 0 step) x a x a
unfolding again repeated
none_read step = record { left = λ bytes at e. e; is = λ bytes at e. refl }

-- one entry more
pub read_more : {A : Type 0} (step : Reading A) {x y z : List ℕ} {a b c : A} (k : ℕ) → Read (repeated k step) x a y b → Read step y b z c → Read (repeated (k + 1) step) x a z c
unfolding repeated
read_more {A} step {x} {y} {z} {a} {b} {c} k r s = record {
  left = λ bytes at e. from_same (ap (λ (p : ℕ × A). p.0) (so bytes at e)) (s.left bytes _ (r.left bytes at e));
  is = λ bytes at e. s.is bytes _ (r.left bytes at e) ∙ ap (λ (p : ℕ × A). p.1) (so bytes at e);
}
  where
    so : (bytes : List ℕ) (at : ℕ) → From bytes at x → step bytes ((again (step bytes) k (at, a)).0, b) ≡ again (step bytes) (k + 1) (at, a)
    so bytes at e = ap (λ (v : A). step bytes ((again (step bytes) k (at, a)).0, v)) (r.is bytes at e) ∙ sym (ap (λ (n : ℕ). again (step bytes) n (at, a)) (add-one k) ∙ again-more (step bytes) k (at, a))

-- as many as the count in front says
pub section_read : {A : Type 0} (step : Reading A) {x y z : List ℕ} {a b : A} {n k : ℕ} (most : ℕ) → n ≡ at_most most (word_at x 0) → y ≡ drop 2 x → k ≡ n → Read (repeated k step) y a z b → Read (entries most step) x a z b
unfolding read_section repeated entries
section_read {A} step {x} {a = a} {n = n} {k} most m f q r = record {
  left = λ bytes at e. from_same (ap (λ (i : ℕ). (again (step bytes) i (at + 2, a)).0) (many bytes at e)) (r.left bytes _ (from_past 2 e f));
  is = λ bytes at e. r.is bytes _ (from_past 2 e f) ∙ ap (λ (i : ℕ). (again (step bytes) i (at + 2, a)).1) (many bytes at e);
}
  where
    many : (bytes : List ℕ) (at : ℕ) → From bytes at x → k ≡ at_most most (word_at bytes at)
    many bytes at e = q ∙ m ∙ ap (at_most most) (word_there e refl)

-- ---- the numbers of an entry

-- one number
pub role_there : {x y : List ℕ} {s r after : ℕ} → r ≡ word_at x 0 → y ≡ drop 2 x → after ≡ with s r → Read read_role x s y after
unfolding read_role
role_there {s = s} v f h = record { left = λ bytes at e. from_past 2 e f; is = λ bytes at e. h ∙ ap (with s) (word_there e v) }

-- two numbers
pub pair_there : (add : Model → ℕ → ℕ → Model) {m after : Model} {x y z : List ℕ} {i r : ℕ} → i ≡ word_at x 0 → y ≡ drop 2 x → r ≡ word_at y 0 → z ≡ drop 2 y → after ≡ add m i r → Read (read_pair add) x m z after
unfolding read_pair
pair_there add {m} v f w g h = record {
  left = λ bytes at e. from_same {i = at + 2 + 2} {j = at + 4} (omega arith) (from_past 2 (from_past 2 e f) g);
  is = λ bytes at e. h ∙ ap₂ (add m) (word_there e v) (word_there (from_past 2 e f) w);
}

-- two numbers and a list of roles
pub entry_there : (add : Model → ℕ → ℕ → ℕ → Model) {m after : Model} {x y z file : List ℕ} {i n roles : ℕ} → i ≡ word_at x 0 → y ≡ drop 2 x → n ≡ word_at y 0 → z ≡ drop 2 y → Read (entries 64 read_role) z 0 file roles → after ≡ add m i n roles → Read (read_entry add) x m file after
unfolding read_entry read_roles entries
entry_there add {m} {x = x} {z = z} {i = i} {n} {roles} v f w g list h = record {
  left = λ bytes at e. list.left bytes (at + 4) (past bytes at e);
  is = λ bytes at e. h ∙ ap₂ (λ (j k : ℕ). add m j k roles) (word_there e v) (word_there (from_past 2 e f) w) ∙ ap (add m (word_at bytes at) (word_at bytes (at + 2))) (list.is bytes (at + 4) (past bytes at e));
}
  where
    past : (bytes : List ℕ) (at : ℕ) → From bytes at x → From bytes (at + 4) z
    past bytes at e = from_same {i = at + 2 + 2} {j = at + 4} (omega arith) (from_past 2 (from_past 2 e f) g)

-- ---- one entry at a place, from the numbers that were read for it and what was stored

module _ (bytes : List ℕ) (at : ℕ) where
  pub user_was : (m after : Model) (u : ℕ) → u ≡ word_at bytes at → after ≡ user_added m u → read_user bytes (at, m) ≡ (at + 2, after)
  unfolding read_user
  user_was m after u p q = sym (rw (q, p))

  pub role_was : (s r after : ℕ) → r ≡ word_at bytes at → after ≡ with s r → read_role bytes (at, s) ≡ (at + 2, after)
  unfolding read_role
  role_was s r after p q = sym (rw (q, p))

  pub pair_was : (add : Model → ℕ → ℕ → Model) (m after : Model) (i r : ℕ) → i ≡ word_at bytes at → r ≡ word_at bytes (at + 2) → after ≡ add m i r → read_pair add bytes (at, m) ≡ (at + 4, after)
  unfolding read_pair
  pair_was add m after i r p q e = sym (rw (e, p, q))

  pub grant_was : (m after : Model) (r op obj : ℕ) → r ≡ word_at bytes at → op ≡ word_at bytes (at + 2) → obj ≡ word_at bytes (at + 4) → after ≡ grant_added m (permission op obj) r → read_grant bytes (at, m) ≡ (at + 6, after)
  unfolding read_grant
  grant_was m after r op obj p q t e = sym (rw (e, p, q, t))
