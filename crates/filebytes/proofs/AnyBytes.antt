-- Any bytes are sections written in full, or a front of such, or such with bytes left over: they are read number by number, and where they end
-- early the rest is filled up. Assumes nothing.
use mathlib.Core.List.{List, [], ◌∷◌, ◌++◌, append_assoc, append-nil}
use mathlib.Core.Path.{◌≡◌, refl, sym, ap, ap₂, ◌∙◌}
use Prim.Native.Nat.{ℕ, zero, suc, ◌+◌, ◌*◌, ◌/◌, ◌%◌, ◌<◌}
use native.Mathlib.Omega.{arith}
use lib.ListN.{length}
use Rattle.filebytes.specs.Sections.{SetEntry, SessionEntry, number, entries, listing, pair, grant, set, session, bytes_of, Every, Writable, Fits, Sixteen}
use Rattle.filebytes.specs.FileForm.{AnyBytes, in_full, cut_short, with_more}

abbrev Bytes : List ℕ → Type 0
Bytes l = Every (λ b. b < 256) l

-- something that may be written stands at the front, whole or cut short
data Reading {A : Type 0} (Ok : A → Type 0) (write : A → List ℕ) (bytes : List ℕ) : Type 0 where
  whole : (a : A) → Ok a → (rest : List ℕ) → Bytes rest → bytes ≡ write a ++ rest → Reading Ok write bytes
  early : (a : A) → Ok a → (next : ℕ) (more : List ℕ) → write a ≡ bytes ++ (next ∷ more) → Reading Ok write bytes

-- any bytes are read so; and there is something to fill up with
record Reader {A : Type 0} (Ok : A → Type 0) (write : A → List ℕ) : Type 0 where
  read : (bytes : List ℕ) → Bytes bytes → Reading Ok write bytes
  other : A
  other_ok : Ok other

number-reader : Reader Fits number
number-reader = record { read = go; other = 0; other_ok = omega arith }
  where
    go : (bytes : List ℕ) → Bytes bytes → Reading Fits number bytes
    go [] p = early 0 (omega arith) 0 (0 ∷ []) refl
    go (x ∷ []) p =
        let b : x < 256 = p.0 in
        let low : x % 256 ≡ x = omega arith in
        let high : x / 256 % 256 ≡ 0 = omega arith in
        early x (omega arith) 0 [] (ap₂ (λ (l h : ℕ). l ∷ h ∷ []) low high)
    go (x ∷ y ∷ rest) p =
        let b : x < 256 = p.0 in
        let d : y < 256 = p.1.0 in
        let low : x ≡ (x + 256 * y) % 256 = omega arith in
        let quotient : (x + 256 * y) / 256 ≡ y = omega arith in
        let remainder : y % 256 ≡ y = omega arith in
        let high : y ≡ (x + 256 * y) / 256 % 256 = sym (ap (λ (n : ℕ). n % 256) quotient ∙ remainder) in
        whole (x + 256 * y) (omega arith) rest p.1.1 (ap₂ (λ (l h : ℕ). l ∷ h ∷ rest) low high)

-- one after the other
then : {A B : Type 0} {P : A → Type 0} {Q : B → Type 0} {v : A → List ℕ} {w : B → List ℕ} → Reader P v → Reader Q w → Reader (λ (p : A × B). P p.0 × Q p.1) (λ (p : A × B). v p.0 ++ w p.1)
then {A} {B} {P} {Q} {v} {w} x y = record { read = go; other = (x.other, y.other); other_ok = (x.other_ok, y.other_ok) }
  where
    later : (bytes : List ℕ) (a : A) → P a → (rest : List ℕ) → bytes ≡ v a ++ rest → Reading Q w rest → Reading (λ (p : A × B). P p.0 × Q p.1) (λ (p : A × B). v p.0 ++ w p.1) bytes
    later bytes a p rest e (whole b q last r h) = whole (a, b) (p, q) last r (e ∙ ap (λ (l : List ℕ). v a ++ l) h ∙ sym (append_assoc (v a) (w b) last))
    later bytes a p rest e (early b q next more h) = early (a, b) (p, q) next more (ap (λ (l : List ℕ). v a ++ l) h ∙ sym (append_assoc (v a) rest (next ∷ more)) ∙ ap (λ (l : List ℕ). l ++ (next ∷ more)) (sym e))

    first : (bytes : List ℕ) → Reading P v bytes → Reading (λ (p : A × B). P p.0 × Q p.1) (λ (p : A × B). v p.0 ++ w p.1) bytes
    first bytes (whole a p rest r e) = later bytes a p rest e (y.read rest r)
    first bytes (early a p next more e) = early (a, y.other) (p, y.other_ok) next (more ++ w y.other) (ap (λ (l : List ℕ). l ++ w y.other) e ∙ append_assoc bytes (next ∷ more) (w y.other))

    go : (bytes : List ℕ) → Bytes bytes → Reading (λ (p : A × B). P p.0 × Q p.1) (λ (p : A × B). v p.0 ++ w p.1) bytes
    go bytes r = first bytes (x.read bytes r)

-- the same, made into something else that is written alike
into : {A B : Type 0} {P : A → Type 0} {v : A → List ℕ} (Q : B → Type 0) (w : B → List ℕ) (g : A → B) → ((a : A) → P a → Q (g a)) → ((a : A) → w (g a) ≡ v a) → Reader P v → Reader Q w
into {A} {B} {P} {v} Q w g ok alike x = record { read = λ bytes r. go bytes (x.read bytes r); other = g x.other; other_ok = ok x.other x.other_ok }
  where
    go : (bytes : List ℕ) → Reading P v bytes → Reading Q w bytes
    go bytes (whole a p rest r e) = whole (g a) (ok a p) rest r (e ∙ ap (λ (l : List ℕ). l ++ rest) (sym (alike a)))
    go bytes (early a p next more e) = early (g a) (ok a p) next more (alike a ∙ e)

-- n entries
nothing-reader : {A : Type 0} (P : A → Type 0) (v : A → List ℕ) → Reader (λ (l : List A). (length l ≡ 0) × Every P l) (entries v)
unfolding entries
nothing-reader P v = record { read = λ bytes r. whole [] (refl, tt) bytes r refl; other = []; other_ok = (refl, tt) }

entries-reader : {A : Type 0} (P : A → Type 0) (v : A → List ℕ) → Reader P v → (n : ℕ) → Reader (λ (l : List A). (length l ≡ n) × Every P l) (entries v)
unfolding entries
entries-reader P v x zero = nothing-reader P v
entries-reader {A} P v x (suc n) = into (λ (l : List A). (length l ≡ suc n) × Every P l) (entries v) (λ (p : A × List A). p.0 ∷ p.1) (λ p q. (ap suc q.1.0, (q.0, q.1.1))) (λ p. refl) (then x (entries-reader P v x n))

-- a count and as many entries
listing-reader : {A : Type 0} (P : A → Type 0) (v : A → List ℕ) → Reader P v → Reader (Writable P) (listing v)
unfolding listing
listing-reader {A} P v x = record { read = λ bytes r. first bytes (number-reader.read bytes r); other = []; other_ok = (omega arith, tt) }
  where
    counted : (n : ℕ) (l : List A) → length l ≡ n → listing v l ≡ number n ++ entries v l
    counted n l e = ap (λ (k : ℕ). number k ++ entries v l) e

    later : (bytes : List ℕ) (n : ℕ) → Fits n → (rest : List ℕ) → bytes ≡ number n ++ rest → Reading (λ (l : List A). (length l ≡ n) × Every P l) (entries v) rest → Reading (Writable P) (listing v) bytes
    later bytes n fits rest e (whole l q last r h) = whole l (omega (arith, q.0), q.1) last r (e ∙ ap (λ (k : List ℕ). number n ++ k) h ∙ ap (λ (k : List ℕ). k ++ last) (sym (counted n l q.0)))
    later bytes n fits rest e (early l q next more h) = early l (omega (arith, q.0), q.1) next more (counted n l q.0 ∙ ap (λ (k : List ℕ). number n ++ k) h ∙ ap (λ (k : List ℕ). k ++ (next ∷ more)) (sym e))

    first : (bytes : List ℕ) → Reading Fits number bytes → Reading (Writable P) (listing v) bytes
    first bytes (whole n fits rest r e) = later bytes n fits rest e ((entries-reader P v x n).read rest r)
    first bytes (early n fits next more e) =
        let fill = entries-reader P v x n in
        early fill.other (omega (arith, fill.other_ok.0), fill.other_ok.1) next (more ++ entries v fill.other) (counted n fill.other fill.other_ok.0 ∙ ap (λ (k : List ℕ). k ++ entries v fill.other) e ∙ append_assoc bytes (next ∷ more) (entries v fill.other))

-- ---- the entries and the sections

pair-reader : Reader (λ (p : ℕ × ℕ). Fits p.0 × Fits p.1) pair
pair-reader = then number-reader number-reader

three-reader : Reader (λ (g : ℕ × ℕ × ℕ). Fits g.0 × Fits g.1 × Fits g.2) grant
three-reader = into _ grant (λ (p : ℕ × (ℕ × ℕ)). (p.0, p.1.0, p.1.1)) (λ p q. (q.0, q.1.0, q.1.1)) (λ p. refl) (then number-reader (then number-reader number-reader))

roles-reader : Reader (Writable Fits) (listing number)
roles-reader = listing-reader Fits number number-reader

set-reader : Reader (λ (e : SetEntry). Fits e.name × Fits e.cardinality × Writable Fits e.members) set
set-reader = into _ set (λ (p : ℕ × (ℕ × List ℕ)). record { name = p.0; cardinality = p.1.0; members = p.1.1 }) (λ p q. (q.0, q.1.0, q.1.1)) (λ p. refl) (then number-reader (then number-reader roles-reader))

session-reader : Reader (λ (e : SessionEntry). Fits e.number × Fits e.owner × Writable Fits e.active) session
session-reader = into _ session (λ (p : ℕ × (ℕ × List ℕ)). record { number = p.0; owner = p.1.0; active = p.1.1 }) (λ p q. (q.0, q.1.0, q.1.1)) (λ p. refl) (then number-reader (then number-reader roles-reader))

file-reader : Reader Sixteen bytes_of
unfolding bytes_of
file-reader =
    into Sixteen bytes_of (λ (p : List ℕ × (List ℕ × (List (ℕ × ℕ) × (List (ℕ × ℕ) × (List (ℕ × ℕ × ℕ) × (List SetEntry × (List SetEntry × List SessionEntry))))))). record { users = p.0; roles = p.1.0; lines = p.1.1.0; assignments = p.1.1.1.0; grants = p.1.1.1.1.0; ssd = p.1.1.1.1.1.0; dsd = p.1.1.1.1.1.1.0; sessions = p.1.1.1.1.1.1.1 }) (λ p q. record { users = q.0; roles = q.1.0; lines = q.1.1.0; assignments = q.1.1.1.0; grants = q.1.1.1.1.0; ssd = q.1.1.1.1.1.0; dsd = q.1.1.1.1.1.1.0; sessions = q.1.1.1.1.1.1.1 }) (λ p. refl)
    (then roles-reader
    (then roles-reader
    (then (listing-reader _ pair pair-reader)
    (then (listing-reader _ pair pair-reader)
    (then (listing-reader _ grant three-reader)
    (then (listing-reader _ set set-reader)
    (then (listing-reader _ set set-reader)
    (listing-reader _ session session-reader))))))))

pub any-bytes : (bytes : List ℕ) → Every (λ b. b < 256) bytes → AnyBytes bytes
any-bytes bytes r = go (file-reader.read bytes r)
  where
    go : Reading Sixteen bytes_of bytes → AnyBytes bytes
    go (whole f six [] p e) = in_full f six (sym (append-nil (bytes_of f)) ∙ sym e)
    go (whole f six (next ∷ rest) p e) = with_more f six next rest (sym e)
    go (early f six next more e) = cut_short f six next more e
