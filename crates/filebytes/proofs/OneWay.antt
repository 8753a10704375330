-- The bytes say in one way what the sections list: two writings of lists of sixteen-bit numbers, whatever stands after them, are equal only where
-- the lists are equal and the same stands after them. Assumes nothing.
use mathlib.Core.List.{List, [], ◌∷◌, ◌++◌, append_assoc}
use mathlib.Core.Path.{◌≡◌, refl, sym, ap₂, ◌∙◌}
use Prim.Native.Nat.{ℕ, ◌/◌, ◌%◌}
use native.Mathlib.Omega.{arith}
use lib.ListN.{length}
use Rattle.filebytes.specs.Sections.{number, entries, listing, pair, grant, set, session, bytes_of, Every, Writable, Fits, Sixteen}

abbrev pub Reads : {A : Type 0} → (A → Type 0) → (A → List ℕ) → Type 0
Reads {A} Ok write = (a b : A) (x y : List ℕ) → Ok a → Ok b → write a ++ x ≡ write b ++ y → (a ≡ b) × (x ≡ y)

pub record OneWay {A : Type 0} (Ok : A → Type 0) (write : A → List ℕ) : Type 0 where
  pub read : Reads Ok write

pub number-one-way : OneWay Fits number
number-one-way = record { read = go }
  where
    go : Reads Fits number
    go a b x y p q e =
        let low : a % 256 ≡ b % 256 = cc in
        let high : a / 256 % 256 ≡ b / 256 % 256 = cc in
        let rest : x ≡ y = cc in
        (omega arith, rest)

-- what is written first is read first, whatever is written after it
first : {A : Type 0} {Ok : A → Type 0} {write : A → List ℕ} → OneWay Ok write → (a b : A) (s t x y : List ℕ) → Ok a → Ok b → (write a ++ s) ++ x ≡ (write b ++ t) ++ y → (a ≡ b) × (s ++ x ≡ t ++ y)
first {write = write} one a b s t x y p q e = one.read a b (s ++ x) (t ++ y) p q (sym (append_assoc (write a) s x) ∙ e ∙ append_assoc (write b) t y)

entries-one-way : {A : Type 0} {Ok : A → Type 0} {write : A → List ℕ} → OneWay Ok write → (l k : List A) (x y : List ℕ) → length l ≡ length k → Every Ok l → Every Ok k → entries write l ++ x ≡ entries write k ++ y → (l ≡ k) × (x ≡ y)
unfolding entries
entries-one-way one [] [] x y n p q e = (refl, e)
entries-one-way one [] (b ∷ k) x y n p q e = absurd (omega arith)
entries-one-way one (a ∷ l) [] x y n p q e = absurd (omega arith)
entries-one-way {write = write} one (a ∷ l) (b ∷ k) x y n p q e =
    let h = first one a b (entries write l) (entries write k) x y p.0 q.0 e in
    let t = entries-one-way one l k x y (omega arith) p.1 q.1 h.1 in
    (ap₂ ◌∷◌ h.0 t.0, t.1)

pub listing-one-way : {A : Type 0} {Ok : A → Type 0} {write : A → List ℕ} → OneWay Ok write → OneWay (Writable Ok) (listing write)
unfolding listing
listing-one-way {Ok = Ok} {write = write} one = record { read = go }
  where
    go : Reads (Writable Ok) (listing write)
    go l k x y p q e =
        let h = first number-one-way (length l) (length k) (entries write l) (entries write k) x y p.0 q.0 e in
        entries-one-way one l k x y h.0 p.1 q.1 h.1

pub pair-one-way : OneWay (λ p. Fits p.0 × Fits p.1) pair
pair-one-way = record { read = go }
  where
    go : Reads (λ p. Fits p.0 × Fits p.1) pair
    go a b x y p q e =
        let h = first number-one-way a.0 b.0 (number a.1) (number b.1) x y p.0 q.0 e in
        let t = number-one-way.read a.1 b.1 x y p.1 q.1 h.1 in
        ((λ i. (h.0 i, t.0 i)), t.1)

pub grant-one-way : OneWay (λ g. Fits g.0 × Fits g.1 × Fits g.2) grant
grant-one-way = record { read = go }
  where
    go : Reads (λ g. Fits g.0 × Fits g.1 × Fits g.2) grant
    go a b x y p q e =
        let h = first number-one-way a.0 b.0 (number a.1 ++ number a.2) (number b.1 ++ number b.2) x y p.0 q.0 e in
        let t = first number-one-way a.1 b.1 (number a.2) (number b.2) x y p.1 q.1 h.1 in
        let u = number-one-way.read a.2 b.2 x y p.2 q.2 t.1 in
        ((λ i. (h.0 i, t.0 i, u.0 i)), u.1)

pub set-one-way : OneWay (λ e. Fits e.name × Fits e.cardinality × Writable Fits e.members) set
set-one-way = record { read = go }
  where
    go : Reads (λ e. Fits e.name × Fits e.cardinality × Writable Fits e.members) set
    go a b x y p q e =
        let h = first number-one-way a.name b.name (number a.cardinality ++ listing number a.members) (number b.cardinality ++ listing number b.members) x y p.0 q.0 e in
        let t = first number-one-way a.cardinality b.cardinality (listing number a.members) (listing number b.members) x y p.1 q.1 h.1 in
        let u = (listing-one-way number-one-way).read a.members b.members x y p.2 q.2 t.1 in
        ((λ i. record { name = h.0 i; cardinality = t.0 i; members = u.0 i }), u.1)

pub session-one-way : OneWay (λ e. Fits e.number × Fits e.owner × Writable Fits e.active) session
session-one-way = record { read = go }
  where
    go : Reads (λ e. Fits e.number × Fits e.owner × Writable Fits e.active) session
    go a b x y p q e =
        let h = first number-one-way a.number b.number (number a.owner ++ listing number a.active) (number b.owner ++ listing number b.active) x y p.0 q.0 e in
        let t = first number-one-way a.owner b.owner (listing number a.active) (listing number b.active) x y p.1 q.1 h.1 in
        let u = (listing-one-way number-one-way).read a.active b.active x y p.2 q.2 t.1 in
        ((λ i. record { number = h.0 i; owner = t.0 i; active = u.0 i }), u.1)

pub file-one-way : OneWay Sixteen bytes_of
unfolding bytes_of
file-one-way = record { read = go }
  where
    go : Reads Sixteen bytes_of
    go a b x y p q e =
        let s1 = first (listing-one-way number-one-way) a.users b.users _ _ x y p.users q.users e in
        let s2 = first (listing-one-way number-one-way) a.roles b.roles _ _ x y p.roles q.roles s1.1 in
        let s3 = first (listing-one-way pair-one-way) a.lines b.lines _ _ x y p.lines q.lines s2.1 in
        let s4 = first (listing-one-way pair-one-way) a.assignments b.assignments _ _ x y p.assignments q.assignments s3.1 in
        let s5 = first (listing-one-way grant-one-way) a.grants b.grants _ _ x y p.grants q.grants s4.1 in
        let s6 = first (listing-one-way set-one-way) a.ssd b.ssd _ _ x y p.ssd q.ssd s5.1 in
        let s7 = first (listing-one-way set-one-way) a.dsd b.dsd _ _ x y p.dsd q.dsd s6.1 in
        let s8 = (listing-one-way session-one-way).read a.sessions b.sessions x y p.sessions q.sessions s7.1 in
        ((λ i. record { users = s1.0 i; roles = s2.0 i; lines = s3.0 i; assignments = s4.0 i; grants = s5.0 i; ssd = s6.0 i; dsd = s7.0 i; sessions = s8.0 i }), s8.1)
