-- Bytes that a pen wrote one after another, and the entries of a section with their count in front. Assumes nothing.
use mathlib.Core.List.{List, [], ◌∷◌, ◌++◌}
use mathlib.Core.Path.{◌≡◌, refl, sym, subst, ◌∙◌}
use Prim.Native.Nat.{ℕ, ◌+◌, ◌<◌, ◌^◌}
use native.Mathlib.Omega.{arith}
use lib.ListN.{length, length-append}
use lib.Seq.{sets}
use Rattle.text.specs.Bytes.{two, flat, section}
use Rattle.text.specs.Places.{Wrote}
use Rattle.text.proofs.Writing.{wrote_none, wrote-more, flat-none, flat-one, flat_append}
use Rattle.policywrite.specs.declared.Pen.{Pen}
use Rattle.policywrite.specs.Parts.{Writes}
use Rattle.policywrite.proofs.Sections.{section-counted}

pub writes_none : (p : Pen) → Writes p p []
writes_none p = record { same = refl; wrote = λ h. wrote_none p.out.now p.at }

pub writes_more : {a b c : Pen} {x y : List ℕ} → Writes a b x → Writes b c y → Writes a c (x ++ y)
writes_more {a} {b} {c} {x} {y} p q = record { same = q.same ∙ p.same; wrote = go }
  where
    go : a.at + length (x ++ y) < 2 ^ 64 → Wrote a.out.now c.out.now a.at c.at (x ++ y)
    go h =
        let first : Wrote a.out.now b.out.now a.at b.at x = p.wrote (omega (arith, length-append x y)) in
        wrote-more first (q.wrote (omega (arith, first.next, length-append x y)))

-- the bytes by another name
pub writes_as : {a b : Pen} {x y : List ℕ} → x ≡ y → Writes a b x → Writes a b y
writes_as {a} {b} e w = subst (λ (l : List ℕ). Writes a b l) e w

-- A buffer that a pen wrote into is lent no longer.
pub lent_back : {a b : Pen} {x after : List ℕ} → Writes a b x → a.at + length x < 2 ^ 64 → (a.out.ghost_name ≡ b.out.ghost_name → after ≡ b.out.now) → Wrote a.out.now after a.at b.at x
lent_back w h back = rw (back (sym w.same)) (w.wrote h)

-- ---- entries

pub entries_none : (put : ℕ → List ℕ) (p : Pen) → Writes p p (flat put [])
entries_none put p = writes_as (sym (flat-none put)) (writes_none p)

pub entries_more : (put : ℕ → List ℕ) {a b c : Pen} (ks js : List ℕ) → Writes a b (flat put ks) → Writes b c (flat put js) → Writes a c (flat put (ks ++ js))
entries_more put ks js p q = writes_as (sym (flat_append put ks js)) (writes_more p q)

pub entry_written : (put : ℕ → List ℕ) {a b : Pen} {k : ℕ} → Writes a b (put k) → Writes a b (flat put (k ∷ []))
entry_written put {k = k} w = writes_as (sym (flat-one put k)) w

-- Room for the count is left, the entries are written, and then their count.
pub section_writes : (put : ℕ → List ℕ) (ks : List ℕ) {a b c d : Pen} {n : ℕ} →
    b.out.ghost_name ≡ a.out.ghost_name → b.out.now ≡ a.out.now → (a.at + 2 < 2 ^ 64 → b.at ≡ a.at + 2) →
    Writes b c (flat put ks) → n ≡ length ks →
    d.out.ghost_name ≡ c.out.ghost_name → d.out.now ≡ sets c.out.now a.at (two n) → d.at ≡ c.at →
    Writes a d (section put ks)
unfolding section
section_writes put ks {a} {b} {c} {d} {n} s e p w m t f q = record { same = t ∙ w.same ∙ s; wrote = go }
  where
    go : a.at + length (two (length ks) ++ flat put ks) < 2 ^ 64 → Wrote a.out.now d.out.now a.at d.at (two (length ks) ++ flat put ks)
    go h =
        let long : length (two (length ks) ++ flat put ks) ≡ 2 + length (flat put ks) = length-append (two (length ks)) (flat put ks) in
        let past : b.at ≡ a.at + 2 = p (omega arith) in
        let entries : Wrote b.out.now c.out.now b.at c.at (flat put ks) = w.wrote (omega arith) in
        let count : Wrote c.out.now d.out.now a.at (a.at + 2) (two n) = record { buffer = f; next = refl } in
        rw q (section-counted put ks m (rw (e, past) at entries) count)
