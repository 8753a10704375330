-- Whatever is settled by a list of refusals in the order of the sheet is told exactly so. Assumes nothing.
use mathlib.Core.Bool.{true}
use mathlib.Core.List.Memᴰ
use mathlib.Core.List.{List, [], ◌∷◌, Memᴰ}
use mathlib.Core.Path.{◌≡◌, refl, sym, ap, subst, ◌∙◌}
use Prim.Native.Nat.{ℕ, ◌≤◌}
use native.Mathlib.Omega.{arith}
use native.Mathlib.Decide.{ℕ_discrete}
use borrow.Author.Tests.{eq-eqb, ne_eqb}
use Rattle.roleset.proofs.BoundedLaws.{clash, never}
use Rattle.model.specs.Model.{Model}
use Rattle.model.specs.Sheet.{Refusal, ◌when◌, Told, verdict, settle}
use Rattle.sound.proofs.Sheet.{AllClear, positive, ordered, done-clear, verdict-first, verdict-lowest, settle-answer, settle-done, settle-refused}
use Rattle.demands.specs.Demand2.{Exactly, Applies, FirstToApply, place}

-- Where no condition holds nothing applies,
pub none-applies : (cases : List Refusal) → AllClear cases → (n : ℕ) → Applies cases n → ⊥
none-applies [] c n x'' = elim x'' [ ]
none-applies (r ∷ rest) c n (Memᴰ.head e) = clash true refl (ap (λ (x : Refusal). x.holds) e ∙ c.0)
none-applies (r ∷ rest) c n (Memᴰ.tail m) = none-applies rest c.1 n m

-- and where nothing applies no condition holds.
pub applies-none : (cases : List Refusal) → ((n : ℕ) → Applies cases n → ⊥) → AllClear cases
applies-none [] f = tt
applies-none (r ∷ rest) f = (never r.holds (λ h. f r.number (Memᴰ.head (λ i. record { number = r.number; holds = sym h i }))), applies-none rest (λ n m. f n (Memᴰ.tail m)))

-- An answer other than 0 applies.
answer-applies : (cases : List Refusal) → (verdict cases ≡ 0 → ⊥) → Applies cases (verdict cases)
answer-applies cases h =
    let f = verdict-first cases h in
    subst (λ (l : List Refusal). Memᴰ (verdict cases when true) l) (sym f.split) (Memᴰ.append_right f.before (Memᴰ.head (λ i. record { number = sym f.numbered i; holds = sym f.applies i })))

-- 14 comes first, and every other number in its own place; so two numbers with one place, neither of them 0, are one.
fourteen-first : (n : ℕ) → n ≡ 14 → place n ≡ 0
fourteen-first n e = rw (eq-eqb n 14 e, place)

others-ordered : (n : ℕ) → (n ≡ 14 → ⊥) → place n ≡ n
others-ordered n e = rw (ne_eqb n 14 e, place)

one_place : (a b : ℕ) → (a ≡ 0 → ⊥) → (b ≡ 0 → ⊥) → place a ≡ place b → a ≡ b
one_place a b na nb e = go (ℕ_discrete a 14) (ℕ_discrete b 14)
  where
    go : Dec (a ≡ 14) → Dec (b ≡ 14) → a ≡ b
    go (yes p) (yes q) = p ∙ sym q
    go (yes p) (no q) = absurd (nb (sym (others-ordered b q) ∙ sym e ∙ fourteen-first a p))
    go (no p) (yes q) = absurd (na (sym (others-ordered a p) ∙ e ∙ fourteen-first b q))
    go (no p) (no q) = sym (others-ordered a p) ∙ e ∙ others-ordered b q

-- The law: a list in the order of the sheet, none of whose numbers is 0.
pub exact : (cases : List Refusal) (m : Model) (results : List ℕ) (after : Model) → ordered cases ≡ true → positive cases ≡ true → Exactly m cases results after (settle cases m results after)
exact cases m results after order above =
    record {
      refused = λ n nz. (to n nz, back n nz);
      done = (λ z. nothing (sym answer ∙ z), λ f. finished f (ℕ_discrete (verdict cases) 0));
      gives = λ z. ap (λ (t : Told). t.results) (settle-done cases m results after (sym answer ∙ z));
      changes = λ z. ap (λ (t : Told). t.after) (settle-done cases m results after (sym answer ∙ z));
      silent = λ z. ap (λ (t : Told). t.results) (settle-refused cases m results after (λ v. z (answer ∙ v)));
      unchanged = λ z. ap (λ (t : Told). t.after) (settle-refused cases m results after (λ v. z (answer ∙ v)));
    }
  where
    answer : (settle cases m results after).answer ≡ verdict cases
    answer = settle-answer cases m results after

    nothing : verdict cases ≡ 0 → (n : ℕ) → Applies cases n → ⊥
    nothing z = none-applies cases (done-clear cases above z)

    finished : ((n : ℕ) → Applies cases n → ⊥) → Dec (verdict cases ≡ 0) → (settle cases m results after).answer ≡ 0
    finished f (yes z) = answer ∙ z
    finished f (no z) = absurd (f (verdict cases) (answer-applies cases z))

    lowest : (n : ℕ) → Applies cases n → place (verdict cases) ≤ place n
    lowest n a = verdict-lowest cases order (n when true) a refl

    to : (n : ℕ) → (n ≡ 0 → ⊥) → (settle cases m results after).answer ≡ n → FirstToApply cases n
    to n nz p =
        let q : verdict cases ≡ n = sym answer ∙ p in
        subst (λ (k : ℕ). FirstToApply cases k) q (record { applies = answer-applies cases (λ z. nz (sym q ∙ z)); first = lowest })

    back : (n : ℕ) → (n ≡ 0 → ⊥) → FirstToApply cases n → (settle cases m results after).answer ≡ n
    back n nz f =
        let refused : verdict cases ≡ 0 → ⊥ = λ z. nothing z n f.applies in
        let low = f.first (verdict cases) (answer-applies cases refused) in
        let high = lowest n f.applies in
        answer ∙ one_place (verdict cases) n refused nz (omega arith)
