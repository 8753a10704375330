-- Laws of the answer sheet, once for all commands: which number is answered, that a refusal changes nothing, and how a property of the
-- policy and sessions is kept. Assumes nothing.
use mathlib.Core.Bool.{Bool, true, false, not, ◌&&◌}
use mathlib.Core.List.{List, [], ◌∷◌, ◌++◌, Memᴰ}
use mathlib.Core.Path.{◌≡◌, refl, sym, ap, subst, ◌∙◌}
use Prim.Native.Nat.{ℕ, ◌≤◌, ◌<◌}
use native.Mathlib.Omega.{arith}
use lib.Dec.{eqb, ltb}
use borrow.Author.Tests.{eqb-true, eqb-false, eq-eqb, ne_eqb, ltb-true, not-true}
use Rattle.roleset.proofs.BoundedLaws.{clash, and_left, and_right}
use Rattle.model.specs.Model.{Model}
use Rattle.model.specs.Sheet.{Refusal, verdict, Told, done, refused, settle}

-- ---- the answer

-- none of the conditions holds
abbrev pub AllClear : List Refusal → Type 0
AllClear [] = Unit {0}
AllClear (r ∷ rest) = (r.holds ≡ false) × AllClear rest

-- the numbers are those of refusals: none of them is 0
abbrev pub positive : List Refusal → Bool
positive [] = true
positive (r ∷ rest) = ltb 0 r.number && positive rest

-- Where the first condition holds its number is the answer,
pub verdict-here : (r : Refusal) (rest : List Refusal) → r.holds ≡ true → verdict (r ∷ rest) ≡ r.number
unfolding verdict
verdict-here r rest e = rw e

-- and where it does not the others decide.
pub verdict-later : (r : Refusal) (rest : List Refusal) → r.holds ≡ false → verdict (r ∷ rest) ≡ verdict rest
unfolding verdict
verdict-later r rest e = rw e

-- Where no condition holds the answer is 0.
pub clear-done : (rs : List Refusal) → AllClear rs → verdict rs ≡ 0
unfolding verdict
clear-done [] c = refl
clear-done (r ∷ rest) c = verdict-later r rest c.0 ∙ clear-done rest c.1

-- Where the answer is 0 the first condition does not hold, and the others answer 0;
pub clear : (r : Refusal) (rest : List Refusal) → 0 < r.number → verdict (r ∷ rest) ≡ 0 → (r.holds ≡ false) × (verdict rest ≡ 0)
clear r rest p e = go r.holds refl
  where
    go : (b : Bool) → r.holds ≡ b → (r.holds ≡ false) × (verdict rest ≡ 0)
    go true h = absurd (let z : r.number ≡ 0 = sym (verdict-here r rest h) ∙ e in omega arith)
    go false h = (h, sym (verdict-later r rest h) ∙ e)

-- so no condition holds.
pub done-clear : (rs : List Refusal) → positive rs ≡ true → verdict rs ≡ 0 → AllClear rs
done-clear [] p e = tt
done-clear (r ∷ rest) p e =
    let c = clear r rest (ltb-true 0 r.number (and_left (ltb 0 r.number) (positive rest) p)) e in
    (c.0, done-clear rest (and_right (ltb 0 r.number) (positive rest) p) c.1)

-- ---- the first that applies

-- n is the number of the first refusal of the list that applies: those before it do not
pub record FirstOf (rs : List Refusal) (n : ℕ) : Type 0 where
  pub before : List Refusal
  pub refusal : Refusal
  pub later : List Refusal
  pub split : rs ≡ before ++ (refusal ∷ later)
  pub earlier : AllClear before
  pub applies : refusal.holds ≡ true
  pub numbered : refusal.number ≡ n

-- An answer that is not 0 is the number of the first refusal that applies,
pub verdict-first : (rs : List Refusal) → (verdict rs ≡ 0 → ⊥) → FirstOf rs (verdict rs)
verdict-first [] h = absurd (h (clear-done [] tt))
verdict-first (r ∷ rest) h = go r.holds refl (verdict-first rest)
  where
    go : (b : Bool) → r.holds ≡ b → ((verdict rest ≡ 0 → ⊥) → FirstOf rest (verdict rest)) → FirstOf (r ∷ rest) (verdict (r ∷ rest))
    go true e f = record { before = []; refusal = r; later = rest; split = refl; earlier = tt; applies = e; numbered = sym (verdict-here r rest e) }
    go false e f =
        let x = f (λ z. h (verdict-later r rest e ∙ z)) in
        record { before = r ∷ x.before; refusal = x.refusal; later = x.later; split = ap (λ (l : List Refusal). r ∷ l) x.split; earlier = (e, x.earlier); applies = x.applies; numbered = x.numbered ∙ sym (verdict-later r rest e) }

-- and the number of the first refusal that applies is the answer.
pub first-verdict : (rs : List Refusal) (n : ℕ) → FirstOf rs n → verdict rs ≡ n
first-verdict rs n f = ap verdict f.split ∙ past f.before f.earlier ∙ f.numbered
  where
    past : (before : List Refusal) → AllClear before → verdict (before ++ (f.refusal ∷ f.later)) ≡ f.refusal.number
    past [] c = verdict-here f.refusal f.later f.applies
    past (r ∷ rest) c = verdict-later r (rest ++ (f.refusal ∷ f.later)) c.0 ∙ past rest c.1

-- ---- "14 comes first and then the lowest number"

-- the place of a number in that order
abbrev pub rank : ℕ → ℕ
rank n = elim (eqb n 14) [ true ↦ 0 | false ↦ n ]

-- every number comes after the place given, and after the number before it
abbrev pub rising : ℕ → List Refusal → Bool
rising place [] = true
rising place (r ∷ rest) = ltb place (rank r.number) && rising (rank r.number) rest

-- the list is in the order of the answer sheet
abbrev pub ordered : List Refusal → Bool
ordered [] = true
ordered (r ∷ rest) = rising (rank r.number) rest

pub rising-ordered : (place : ℕ) (rs : List Refusal) → rising place rs ≡ true → ordered rs ≡ true
rising-ordered place [] a = refl
rising-ordered place (r ∷ rest) a = and_right (ltb place (rank r.number)) (rising (rank r.number) rest) a

pub rising-each : (place : ℕ) (rs : List Refusal) → rising place rs ≡ true → (r : Refusal) → Memᴰ r rs → place < rank r.number
rising-each place [] a r x'' = elim x'' [ ]
rising-each place (x ∷ rest) a r (Memᴰ.head e) = subst (λ (y : Refusal). place < rank y.number) (sym e) (ltb-true place (rank x.number) (and_left (ltb place (rank x.number)) (rising (rank x.number) rest) a))
rising-each place (x ∷ rest) a r (Memᴰ.tail m) =
    let h = ltb-true place (rank x.number) (and_left (ltb place (rank x.number)) (rising (rank x.number) rest) a) in
    let k = rising-each (rank x.number) rest (and_right (ltb place (rank x.number)) (rising (rank x.number) rest) a) r m in
    omega arith

-- "Where several apply, 14 comes first and then the lowest number": in a list in that order no refusal that applies comes before the answer.
pub verdict-lowest : (rs : List Refusal) → ordered rs ≡ true → (r : Refusal) → Memᴰ r rs → r.holds ≡ true → rank (verdict rs) ≤ rank r.number
verdict-lowest [] a r m h = elim m [ ]
verdict-lowest (x ∷ rest) a r m h = go x.holds refl m (verdict-lowest rest (rising-ordered (rank x.number) rest a) r)
  where
    go : (b : Bool) → x.holds ≡ b → Memᴰ r (x ∷ rest) → (Memᴰ r rest → r.holds ≡ true → rank (verdict rest) ≤ rank r.number) → rank (verdict (x ∷ rest)) ≤ rank r.number
    go true e (Memᴰ.head s) ih = subst (λ (n : ℕ). rank n ≤ rank r.number) (sym (verdict-here x rest e ∙ ap (λ (y : Refusal). y.number) (sym s))) (omega arith)
    go true e (Memᴰ.tail s) ih = subst (λ (n : ℕ). rank n ≤ rank r.number) (sym (verdict-here x rest e)) (omega (arith, rising-each (rank x.number) rest a r s))
    go false e (Memᴰ.head s) ih = clash r.holds h (ap (λ (y : Refusal). y.holds) s ∙ e)
    go false e (Memᴰ.tail s) ih = subst (λ (n : ℕ). rank n ≤ rank r.number) (sym (verdict-later x rest e)) (ih s h)

-- ---- a number that is not on the list

-- no refusal of the list has this number
abbrev pub absent : ℕ → List Refusal → Bool
absent n [] = true
absent n (r ∷ rest) = not (eqb r.number n) && absent n rest

-- Such a number, above 0, is not the answer.
pub not-answered : (n : ℕ) (rs : List Refusal) → 0 < n → absent n rs ≡ true → verdict rs ≡ n → ⊥
not-answered n [] p a e = let z : n ≡ 0 = sym e ∙ clear-done [] tt in omega arith
not-answered n (r ∷ rest) p a e = go r.holds refl (not-answered n rest p (and_right (not (eqb r.number n)) (absent n rest) a))
  where
    go : (b : Bool) → r.holds ≡ b → (verdict rest ≡ n → ⊥) → ⊥
    go true h ih = eqb-false r.number n (not-true (eqb r.number n) (and_left (not (eqb r.number n)) (absent n rest) a)) (sym (verdict-here r rest h) ∙ e)
    go false h ih = ih (sym (verdict-later r rest h) ∙ e)

-- ---- two lists that answer alike

-- the same numbers with the same conditions, as far as those before do not hold
abbrev pub Alike : List Refusal → List Refusal → Type 0
Alike [] [] = Unit {0}
Alike [] (y ∷ ys) = ⊥
Alike (x ∷ xs) [] = ⊥
Alike (x ∷ xs) (y ∷ ys) = (x.number ≡ y.number) × (x.holds ≡ y.holds) × (x.holds ≡ false → Alike xs ys)

-- Such lists have one verdict,
pub alike-verdict : (xs ys : List Refusal) → Alike xs ys → verdict xs ≡ verdict ys
alike-verdict [] [] a = refl
alike-verdict [] (y ∷ ys) a = absurd a
alike-verdict (x ∷ xs) [] a = absurd a
alike-verdict (x ∷ xs) (y ∷ ys) a = go x.holds refl (λ e. alike-verdict xs ys (a.2 e))
  where
    go : (b : Bool) → x.holds ≡ b → (x.holds ≡ false → verdict xs ≡ verdict ys) → verdict (x ∷ xs) ≡ verdict (y ∷ ys)
    go true e ih = verdict-here x xs e ∙ a.0 ∙ sym (verdict-here y ys (sym a.1 ∙ e))
    go false e ih = verdict-later x xs e ∙ ih e ∙ sym (verdict-later y ys (sym a.1 ∙ e))

-- ---- what is told

-- Every refusal changes nothing and gives no results.
pub settle-refused : (rs : List Refusal) (m : Model) (results : List ℕ) (after : Model) → (verdict rs ≡ 0 → ⊥) → settle rs m results after ≡ refused (verdict rs) m
unfolding settle
settle-refused rs m results after h = rw (ne_eqb (verdict rs) 0 h, settle)

-- Where no refusal applies the command is done.
pub settle-done : (rs : List Refusal) (m : Model) (results : List ℕ) (after : Model) → verdict rs ≡ 0 → settle rs m results after ≡ done results after
unfolding settle
settle-done rs m results after h = rw (eq-eqb (verdict rs) 0 h, settle)

-- The answer is the verdict.
pub settle-answer : (rs : List Refusal) (m : Model) (results : List ℕ) (after : Model) → (settle rs m results after).answer ≡ verdict rs
settle-answer rs m results after = go (eqb (verdict rs) 0) refl
  where
    go : (b : Bool) → eqb (verdict rs) 0 ≡ b → (settle rs m results after).answer ≡ verdict rs
    go true e = ap (λ (t : Told). t.answer) (settle-done rs m results after (eqb-true (verdict rs) 0 e)) ∙ sym (eqb-true (verdict rs) 0 e)
    go false e = ap (λ (t : Told). t.answer) (settle-refused rs m results after (eqb-false (verdict rs) 0 e))

-- A command whose answer is not 0 leaves the policy and sessions as they were, and gives no results.
pub refusal-changes-nothing : (rs : List Refusal) (m : Model) (results : List ℕ) (after : Model) → ((settle rs m results after).answer ≡ 0 → ⊥) → ((settle rs m results after).after ≡ m) × ((settle rs m results after).results ≡ [])
refusal-changes-nothing rs m results after h =
    let r = settle-refused rs m results after (λ e. h (settle-answer rs m results after ∙ e)) in
    (ap (λ (t : Told). t.after) r, ap (λ (t : Told). t.results) r)

-- What holds before, and after a command that is done, holds of what the command tells;
pub settle-kept : (P : Model → Type 0) (rs : List Refusal) (m : Model) (results : List ℕ) (after : Model) → P m → (verdict rs ≡ 0 → P after) → P (settle rs m results after).after
settle-kept P rs m results after before then = go (eqb (verdict rs) 0) refl
  where
    go : (b : Bool) → eqb (verdict rs) 0 ≡ b → P (settle rs m results after).after
    go true e = rw (settle-done rs m results after (eqb-true (verdict rs) 0 e)) (then (eqb-true (verdict rs) 0 e))
    go false e = rw (settle-refused rs m results after (eqb-false (verdict rs) 0 e)) before

-- and where the command is done, none of its refusals applies.
pub kept : (P : Model → Type 0) (rs : List Refusal) (m : Model) (results : List ℕ) (after : Model) → positive rs ≡ true → P m → (AllClear rs → P after) → P (settle rs m results after).after
kept P rs m results after p before then = settle-kept P rs m results after before (λ e. then (done-clear rs p e))

-- A question, after which all is as it was, changes nothing.
pub settle-same : (rs : List Refusal) (m : Model) (results : List ℕ) → (settle rs m results m).after ≡ m
settle-same rs m results = settle-kept (λ x. x ≡ m) rs m results m refl (λ e. refl)

-- Two lists that answer alike tell the same,
pub alike-settle : (xs ys : List Refusal) (m : Model) (results : List ℕ) (after : Model) → Alike xs ys → settle xs m results after ≡ settle ys m results after
unfolding settle
alike-settle xs ys m results after a = ap (λ (n : ℕ). elim (eqb n 0) as (λ b. Told) [ true ↦ done results after | false ↦ refused n m ]) (alike-verdict xs ys a)

-- and a number above 0 that is on the list of neither is not told.
pub not-told : (n : ℕ) (rs : List Refusal) (m : Model) (results : List ℕ) (after : Model) (t : Told) → 0 < n → absent n rs ≡ true → t ≡ settle rs m results after → t.answer ≡ n → ⊥
not-told n rs m results after t p a q e = not-answered n rs p a (sym (settle-answer rs m results after) ∙ ap (λ (x : Told). x.answer) (sym q) ∙ e)
