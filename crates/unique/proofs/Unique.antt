-- Two outcomes that meet one promise are one: a law for each form of promise. The law of the promise H is h-one, and Promises cites it for every
-- function with that promise. Assumes nothing.
use mathlib.Core.Bool.{Bool, true, false}
use mathlib.Core.List.{List, [], ◌∷◌}
use mathlib.Core.Logic.{inl, inr}
use mathlib.Core.Path.{◌≡◌, refl, sym, ap, subst, ◌∙◌}
use Prim.Native.Nat.{ℕ, zero, suc, ◌≤◌, ◌<◌, ◌^◌}
use native.Mathlib.Omega.{arith}
use native.Mathlib.Decide.{dec_lt}
use lib.ListN.{length, get_or}
use lib.Seq.{ext_get_or}
use mir.Val.{Val}
use mir.Syntax.{w64}
use denote.Array.{each}
use denote.Plain.{UInt}
use denote.Shadow.{shadow}
use Rattle.std.proofs.Props.{props}
use Rattle.roleset.specs.declared.Ascending.{Ascending}
use Rattle.roleset.specs.Bounded.{bit}
use Rattle.roleset.specs.Roles.{has, is_empty}
use Rattle.roleset.specs.Promises.{Made, Answers, Lowest}
use Rattle.roleset.proofs.BoundedLaws.{clash, agree}
use Rattle.roleset.proofs.Laws.{is_empty-true}
use Rattle.std.proofs.Common.{Option, Some, None, Result, Ok, Err, MatchOption}
use Rattle.numbers.specs.Answers.{Answer, number_of, refusal_number}
use Rattle.numbers.specs.declared.Refusal.{Refusal}
use Rattle.numbers.specs.declared.Session.{Session as Opened}
use Rattle.numbers.proofs.Answers.{number-one-to-one, refusal-one-to-one, refused-not-0}
use Rattle.model.specs.Model.{Model, Session}
use Rattle.model.specs.Sheet.{Told}
use Rattle.lists.specs.Reading.{Reads}
use Rattle.lists.specs.declared.Listed.{Listed}
use Rattle.state.specs.Stores.{Table}
use Rattle.state.specs.View.{Numbers, view, told}
use Rattle.state.proofs.OneToOne.{view_one_to_one}
use Rattle.state.proofs.Tables as tables
use Rattle.hierarchy.specs.Walks.{Reaches, ReachesUp, TellsCircle}
use Rattle.sweeps.specs.Sweeps.{ShedsAll, Strips}
use Rattle.state.specs.Results.{told_of, given_number}
use Rattle.sessions.specs.Answering.{told_opened}
use Rattle.checking.specs.Answering.{told_checked, told_owned}
use Rattle.checking.specs.declared.Checked.{Checked}
use Rattle.engine.specs.Stepping.{opened, told_stepped}
use Rattle.reviews.specs.Reviewing.{Reviewed}
use Rattle.policyform.specs.Promises.{Saves, Loads}
use Rattle.policyfile.proofs.Laws as files
use Rattle.text.specs.Putting.{Put}
use Rattle.text.specs.Places.{Wrote}
use Rattle.policycheck.specs.Tests.{Tells}
use Rattle.script.specs.LineAnswers as lines
use Rattle.script.specs.declared.Answered.{Answered}
use Rattle.script.specs.declared.Progress.{Progress}
use Rattle.script.specs.declared.Turned.{Turned}
use Rattle.program.specs.Printing as printing
use Rattle.program.specs.declared.Run.{Run}
use Rattle.program.specs.declared.Printed.{Printed}
use Rattle.clibrary.specs.Calls as calls
use Rattle.unique.specs.Unique.{State}

-- ---- what the type says of a state: its length, and that each number is below 2 ^ 64

each-small : (l : List ℕ) (us : List Val) → shadow (each ℕ (UInt w64).own_val l us) → (k : ℕ) → get_or l k 0 < 2 ^ 64
each-small [] us h k = omega arith
each-small (x ∷ l) [] h k = absurd h
each-small (x ∷ l) (u ∷ us) h zero = h.0.1
each-small (x ∷ l) (u ∷ us) h (suc k) = each-small l us h.1 k

pub numbers_of : (l : List ℕ) → State l → Numbers l
numbers_of l v = record { long = v.1.1.0.1; small = each-small l v.1.0 v.1.1.1 }

-- two states that mean the same are one
pub states : {m : Model} {l r : List ℕ} → State l → State r → view l ≡ m → view r ≡ m → l ≡ r
states {l = l} {r} sl sr p q = view_one_to_one l r (numbers_of l sl) (numbers_of r sr) (p ∙ sym q)

-- two outcomes of a command that tell the same are one
pub outcomes : {t : Told} {x y : Answer} {l r : List ℕ} → State l → State r → told x l ≡ t → told y r ≡ t → (x ≡ y) × (l ≡ r)
unfolding told
outcomes {x = x} {y} sl sr p q = (number-one-to-one x y (ap (λ (t : Told). t.answer) (p ∙ sym q)), states sl sr (ap (λ (t : Told). t.after) p) (ap (λ (t : Told). t.after) q))

-- two answers with one number are one
pub numbers-one : {n : ℕ} {x y : Answer} → number_of x ≡ n → number_of y ≡ n → x ≡ y
numbers-one {x = x} {y} p q = number-one-to-one x y (p ∙ sym q)

-- two results that are the same as something that may be there are one
pub some-one : {A : Type 0} {m : Option A} {x y : A} → Some x ≡ m → Some y ≡ m → x ≡ y
some-one p q = let z = p ∙ sym q in cc

-- two arrays with the same places are one
pub arrays : (n : ℕ) (x y : List ℕ) (f : ℕ → ℕ) → length x ≡ n → length y ≡ n → ((k : ℕ) → k < n → get_or x k 0 ≡ f k) → ((k : ℕ) → k < n → get_or y k 0 ≡ f k) → x ≡ y
arrays n x y f lx ly p q = ext_get_or 0 x y (lx ∙ sym ly) (λ k h. let l : k < n = omega arith in p k l ∙ sym (q k l))

-- ---- sets of roles

pub made_one : {x y set : ℕ} {test : ℕ → Bool} → Made x set test → Made y set test → x ≡ y
made_one p q = p.is ∙ sym q.is

pub answers_one : {x y test : Bool} {statement : Type 0} → Answers x test statement → Answers y test statement → x ≡ y
answers_one p q = p.is ∙ sym q.is

one-lowest : (s a b : ℕ) → Lowest s a → Lowest s b → a ≡ b
one-lowest s a b x y = go (dec_lt a b) (dec_lt b a)
  where
    go : Dec (a < b) → Dec (b < a) → a ≡ b
    go (yes l) r = clash (has s a) x.member (y.first a l)
    go (no l) (yes r) = clash (has s b) y.member (x.first b r)
    go (no l) (no r) = omega arith

pub lowest-one : (s : ℕ) (a b : Option ℕ) → MatchOption a (is_empty s ≡ true) (λ r. (r < 64) × Lowest s r) → MatchOption b (is_empty s ≡ true) (λ r. (r < 64) × Lowest s r) → a ≡ b
lowest-one s None None p q = refl
lowest-one s None (Some b) p q = clash (has s b) q.1.member (is_empty-true s p b q.0)
lowest-one s (Some a) None p q = clash (has s a) p.1.member (is_empty-true s q a p.0)
lowest-one s (Some a) (Some b) p q = let z : a ≡ b = one-lowest s a b p.1 q.1 in cc

-- ---- a free session

pub free-one : (n : ℕ) {x y : Option Opened} → MatchOption x (n ≡ 64) (λ s. (s.number ≡ n) × (s.number < 64)) → MatchOption y (n ≡ 64) (λ s. (s.number ≡ n) × (s.number < 64)) → x ≡ y
free-one n {x = None} {y = None} p q = refl
free-one n {x = None} {y = Some b} p q = absurd (omega (arith, p, q.0, q.1))
free-one n {x = Some a} {y = None} p q = absurd (omega (arith, q, p.0, p.1))
free-one n {x = Some a} {y = Some b} p q = λ i. Some (record { number = (p.0 ∙ sym q.0) i })

-- ---- what goes over a set

pub ascending-one : (x y : Ascending) → x.rest ≡ y.rest → x ≡ y
ascending-one x y e =
    let one : IsProp (x.rest < 2 ^ 64) = hlevel props in
    subst (λ (b : ℕ). (g : b < 2 ^ 64) → x ≡ record { rest = b; fits = g }) e (λ g. λ i. record { rest = x.rest; fits = one x.fits g i }) y.fits

-- ---- the walk

pub reaches-one : {lines : ℕ → ℕ} {from x y : ℕ} → Reaches lines from x → Reaches lines from y → x ≡ y
reaches-one p q = p.is ∙ sym q.is

pub tells-circle-one : {lines : ℕ → ℕ} {x y : Bool} → TellsCircle lines x → TellsCircle lines y → x ≡ y
tells-circle-one p q = p.is ∙ sym q.is

pub reaches-up-one : {lines : ℕ → ℕ} {r x y : ℕ} → ReachesUp lines r x → ReachesUp lines r y → x ≡ y
reaches-up-one p q = p.is ∙ sym q.is

-- ---- the state, lists and sweeps

-- two tables of so many numbers are one
pub table-one : {n : ℕ} {t : ℕ → ℕ} {x y : List ℕ} → Table n t x → Table n t y → x ≡ y
table-one {x = x} {y} p q = tables.table_one x y 0 (p.long ∙ sym q.long) (p.each ∙ sym q.each)

pub reads-one : {list : List ℕ} {x y : Listed} → Reads list x → Reads list y → x ≡ y
reads-one p q = λ i. record { ascending = (p.ascending ∙ sym q.ascending) i; beyond = (p.beyond ∙ sym q.beyond) i; roles = (p.roles ∙ sym q.roles) i }

pub sheds-all-one : {juniors assigned : ℕ → ℕ} {sessions : ℕ → Session} {x y : List ℕ} → ShedsAll juniors assigned sessions x → ShedsAll juniors assigned sessions y → x ≡ y
sheds-all-one {x = x} {y} p q = arrays 64 x y _ p.long q.long p.each q.each

pub strips-one : {before after after' : List ℕ} {r n n' : ℕ} → Strips before after r n → Strips before after' r n' → (n ≡ n') × (after ≡ after')
strips-one p q = (p.had ∙ sym q.had, p.stripped ∙ sym q.stripped)

-- ---- the functions with a result

first : List ℕ → ℕ
first [] = 0
first (a ∷ rest) = a

second : List ℕ → ℕ
second [] = 0
second (a ∷ rest) = first rest

bits-one : (a b : Bool) → bit a ≡ bit b → a ≡ b
bits-one true true e = refl
bits-one true false e = absurd (omega arith)
bits-one false true e = absurd (omega arith)
bits-one false false e = refl

-- two outcomes with results that tell the same are one, where different results are told differently
told-of-one : {A : Type 0} (results : A → List ℕ) → ((a b : A) → results a ≡ results b → a ≡ b) → (x y : Result A Refusal) (m n : Model) → told_of results x m ≡ told_of results y n → x ≡ y
unfolding told_of
told-of-one results one (Ok a) (Ok b) m n e = let z : a ≡ b = one a b (ap (λ (t : Told). t.results) e) in cc
told-of-one results one (Ok a) (Err r) m n e = absurd (refused-not-0 r (sym (ap (λ (t : Told). t.answer) e)))
told-of-one results one (Err r) (Ok b) m n e = absurd (refused-not-0 r (ap (λ (t : Told). t.answer) e))
told-of-one results one (Err r) (Err q) m n e = let z : r ≡ q = refusal-one-to-one r q (ap (λ (t : Told). t.answer) e) in cc

-- and what is told leaves the policy and sessions that it is told over
told-of-after : {A : Type 0} (results : A → List ℕ) (x : Result A Refusal) (m : Model) → (told_of results x m).after ≡ m
unfolding told_of
told-of-after results (Ok a) m = refl
told-of-after results (Err r) m = refl

pub leaves : {A : Type 0} (results : A → List ℕ) (x : Result A Refusal) (l : List ℕ) {t : Told} → told_of results x (view l) ≡ t → view l ≡ t.after
leaves results x l p = sym (told-of-after results x (view l)) ∙ ap (λ (t : Told). t.after) p

-- the same, with the states that were left
leaves-one : {A : Type 0} (results : A → List ℕ) → ((a b : A) → results a ≡ results b → a ≡ b) → {t : Told} {x y : Result A Refusal} {l r : List ℕ} → State l → State r → told_of results x (view l) ≡ t → told_of results y (view r) ≡ t → (x ≡ y) × (l ≡ r)
leaves-one results one {t} {x} {y} {l} {r} sl sr p q =
    (told-of-one results one x y _ _ (p ∙ sym q), states sl sr (leaves results x l p) (leaves results y r q))

-- two refusals or counts that answer and count the same are one
counted-one : (x y : Result ℕ Refusal) → number_of x ≡ number_of y → given_number x ≡ given_number y → x ≡ y
counted-one (Ok a) (Ok b) n c = cc
counted-one (Ok a) (Err r) n c = absurd (refused-not-0 r (sym n))
counted-one (Err r) (Ok b) n c = absurd (refused-not-0 r n)
counted-one (Err r) (Err q) n c = let z : r ≡ q = refusal-one-to-one r q n in cc

session-one : (a b : Opened) → ◌≡◌ {A = List ℕ} (a.number ∷ []) (b.number ∷ []) → a ≡ b
unfolding first
session-one a b e = λ i. record { number = (ap first e) i }

pub told-opened-one : {t : Told} {x y : Result Opened Refusal} {l r : List ℕ} → State l → State r → told_opened x l ≡ t → told_opened y r ≡ t → (x ≡ y) × (l ≡ r)
told-opened-one sl sr p q = leaves-one (λ (s : Opened). s.number ∷ []) session-one sl sr p q

checked-one : (a b : Checked) → ◌≡◌ {A = List ℕ} (bit a.yes ∷ a.looked ∷ []) (bit b.yes ∷ b.looked ∷ []) → a ≡ b
unfolding first second
checked-one a b e = λ i. record { yes = bits-one a.yes b.yes (ap first e) i; looked = (ap second e) i }

pub told-checked-one : (m : Model) {told : Told} {x y : Result Checked Refusal} → told_checked m x ≡ told → told_checked m y ≡ told → x ≡ y
told-checked-one m {x = x} {y} p q = told-of-one (λ (c : Checked). bit c.yes ∷ c.looked ∷ []) checked-one x y m m (p ∙ sym q)

pub told-owned-one : (m : Model) {told : Told} {x y : Result ℕ Refusal} → told_owned m x ≡ told → told_owned m y ≡ told → x ≡ y
unfolding first
told-owned-one m {x = x} {y} p q = told-of-one (λ (o : ℕ). o ∷ []) (λ a b e. ap first e) x y m m (p ∙ sym q)

-- ---- every command through one function

opened-one : (a b : Option Opened) → opened a ≡ opened b → a ≡ b
opened-one None None e = refl
opened-one None (Some b) e = absurd (omega (arith, ap length e))
opened-one (Some a) None e = absurd (omega (arith, ap length e))
opened-one (Some a) (Some b) e = let z : a ≡ b = session-one a b e in cc

pub told-stepped-one : {t : Told} {x y : Result (Option Opened) Refusal} {l r : List ℕ} → State l → State r → told_stepped x l ≡ t → told_stepped y r ≡ t → (x ≡ y) × (l ≡ r)
told-stepped-one sl sr p q = leaves-one opened opened-one sl sr p q

-- ---- the reviews, with the buffer lent

pub reviewed-one : {told : Told} {before after after' : List ℕ} {x y : Result ℕ Refusal} → Reviewed told before after x → Reviewed told before after' y → (x ≡ y) × (after ≡ after')
reviewed-one {x = x} {y} p q = (counted-one x y (p.answer ∙ sym q.answer) (p.count ∙ sym q.count), p.buffer ∙ sym q.buffer)

-- ---- texts and files

pub put_one : {before : List ℕ} {at : ℕ} {text after after' : List ℕ} {x y : ℕ} → Put before at text after x → Put before at text after' y → (x ≡ y) × (after ≡ after')
put_one p q = (p.ends ∙ sym q.ends, p.holds ∙ sym q.holds)

pub wrote_one : {before after after' : List ℕ} {at x y : ℕ} {bytes : List ℕ} → Wrote before after at x bytes → Wrote before after' at y bytes → (x ≡ y) × (after ≡ after')
wrote_one p q = (p.next ∙ sym q.next, p.buffer ∙ sym q.buffer)

pub tells-one : {statement : Type 0} {x y : Bool} → Tells x statement → Tells y statement → x ≡ y
tells-one {x = x} {y} p q = agree x y (λ h. q.says (p.holds h)) (λ h. p.says (q.holds h))

pub saves-one : {m : Model} {out after after' : List ℕ} {x y : Result ℕ Refusal} → Saves m out after (number_of x) (given_number x) → Saves m out after' (number_of y) (given_number y) → (x ≡ y) × (after ≡ after')
saves-one {m} {out} {after} {after'} {x} {y} p q =
    let one = files.saves-one m out after after' (number_of x) (number_of y) (given_number x) (given_number y) p q in
    (counted-one x y one.0 one.1.0, one.1.1)

pub loads-one : {m : Model} {bytes : List ℕ} {x y : Answer} {l r : List ℕ} → State l → State r → Loads m bytes (told x l) → Loads m bytes (told y r) → (x ≡ y) × (l ≡ r)
loads-one {m} {bytes} {x} {y} {l} {r} sl sr p q = outcomes sl sr refl (sym (files.loads-one m bytes (told x l) (told y r) p q))

-- ---- lines of a script

pub answered-one : {told : Told} {before after after' : List ℕ} {x y : Answered} {l r : List ℕ} → State l → State r → lines.Answers told before after x l → lines.Answers told before after' y r → (x ≡ y) × (l ≡ r) × (after ≡ after')
answered-one sl sr p q = (
  (λ i. record { len = (p.puts.text.ends ∙ sym q.puts.text.ends) i; ok = (p.puts.ok ∙ sym q.puts.ok) i }),
  states sl sr p.state q.state,
  p.puts.text.holds ∙ sym q.puts.text.holds,
)

pub turns-one : {text was : List ℕ} {so_far : Progress} {before after after' : List ℕ} {x y : Turned} {l r : List ℕ} → State l → State r → lines.Turns text was so_far before after x l → lines.Turns text was so_far before after' y r → (x ≡ y) × (l ≡ r) × (after ≡ after')
turns-one sl sr p q = (
  (λ i. record { len = (p.text.ends ∙ sym q.text.ends) i; next = record { at = (p.place ∙ sym q.place) i; tally = (p.tally ∙ sym q.tally) i } }),
  states sl sr p.state q.state,
  p.text.holds ∙ sym q.text.holds,
)

pub begins-one : {x y : Run} {l r : List ℕ} → State l → State r → printing.Begins l x → printing.Begins r y → (x ≡ y) × (l ≡ r)
begins-one sl sr p q = (p.run ∙ sym q.run, states sl sr p.state q.state)

pub prints-one : {text was : List ℕ} {so_far : Run} {before after after' : List ℕ} {x y : Printed} {l r : List ℕ} → State l → State r → printing.Prints text was so_far before after x l → printing.Prints text was so_far before after' y r → (x ≡ y) × (l ≡ r) × (after ≡ after')
prints-one sl sr p q = (
  (λ i. record { len = (p.puts.text.ends ∙ sym q.puts.text.ends) i; run = (p.puts.run ∙ sym q.puts.run) i }),
  states sl sr p.state q.state,
  p.puts.text.holds ∙ sym q.puts.text.holds,
)

-- ---- what a C program calls

pub obeys-one : {m : Model} {told : Told} {out after after' l r : List ℕ} {x y : ℕ} → State l → State r → calls.Obeys m told out after x l → calls.Obeys m told out after' y r → (x ≡ y) × (l ≡ r) × (after ≡ after')
obeys-one sl sr (inl p) (inl q) = (p.no_length ∙ sym q.no_length, states sl sr p.unchanged q.unchanged, p.untouched ∙ sym q.untouched)
obeys-one sl sr (inl p) (inr q) = absurd (omega (arith, p.short, q.fits))
obeys-one sl sr (inr p) (inl q) = absurd (omega (arith, p.fits, q.short))
obeys-one sl sr (inr p) (inr q) = (p.long ∙ sym q.long, states sl sr p.state q.state, p.stored ∙ sym q.stored)

pub checks-at-one : {told : Told} {before after after' looked_before n n' x y : ℕ} → calls.ChecksAt told before after looked_before n x → calls.ChecksAt told before after' looked_before n' y → (x ≡ y) × (◌≡◌ {A = ℕ × ℕ} (after, n) (after', n'))
checks-at-one p q = (p.answered ∙ sym q.answered, λ i. ((p.result ∙ sym q.result) i, (p.looked ∙ sym q.looked) i))

pub loaded-one : {m : Model} {bytes : List ℕ} {x y : ℕ} {l r : List ℕ} → State l → State r → Loads m bytes (calls.loaded x l) → Loads m bytes (calls.loaded y r) → (x ≡ y) × (l ≡ r)
loaded-one {m} {bytes} {x} {y} {l} {r} sl sr p q =
    let one = files.loads-one m bytes (calls.loaded x l) (calls.loaded y r) p q in
    (ap (λ (t : Told). t.answer) one, states sl sr (ap (λ (t : Told). t.after) one) refl)

pub saves-at-one : {m : Model} {out after after' : List ℕ} {before n n' x y : ℕ} → calls.SavesAt m out after before n x → calls.SavesAt m out after' before n' y → (x ≡ y) × (◌≡◌ {A = List ℕ × ℕ} (after, n) (after', n'))
saves-at-one (inl p) (inl q) = (p.refused.answered ∙ sym q.refused.answered, λ i. ((p.refused.untouched ∙ sym q.refused.untouched) i, (p.kept ∙ sym q.kept) i))
saves-at-one (inl p) (inr q) = absurd (omega (arith, p.refused.short, q.fits))
saves-at-one (inr p) (inl q) = absurd (omega (arith, p.fits, q.refused.short))
saves-at-one (inr p) (inr q) = (p.answered ∙ sym q.answered, λ i. ((p.stored ∙ sym q.stored) i, (p.long ∙ sym q.long) i))
