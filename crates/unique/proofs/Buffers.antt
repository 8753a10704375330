-- What the code's own calls leave in the buffer that they were lent. Assumes nothing.
use mathlib.Core.Bool.{Bool, true, false}
use mathlib.Core.List.{List, [], ◌∷◌, ◌++◌}
use mathlib.Core.Logic.{inl, inr}
use mathlib.Core.Path.{◌≡◌, refl, sym, ap, subst, ◌∙◌}
use Prim.Native.Nat.{ℕ, zero, suc, ◌+◌, ◌-◌, ◌≤◌, ◌<◌}
use native.Mathlib.Omega.{arith}
use native.Mathlib.Decide.{dec_le}
use lib.Dec.{ltb}
use Rattle.std.proofs.Common.{Result}
use lib.ListN.{length, get_or, set, drop, length-append, length-drop, length-set, get_or-eq_default}
use lib.Seq.{sets, length-sets, get_or-append-add, get_or-drop, get_or-set_same, get_or-set_other}
use borrow.Author.Tests.{ltb-false}
use Rattle.numbers.specs.Answers.{number_of}
use Rattle.numbers.specs.declared.Refusal.{Refusal}
use Rattle.model.specs.Model.{Model}
use Rattle.model.specs.Questions.{ask}
use Rattle.model.specs.Sheet.{Told}
use Rattle.model.specs.declared.Question.{Question}
use Rattle.model.specs.declared.Question.TheVariants as questions
use Rattle.demands.proofs.Demand1.{demand1}
use Rattle.state.specs.Results.{given_number}
use Rattle.state.specs.View.{view}
use Rattle.reviews.specs.Reviewing.{Reviewed, fitted}
use Rattle.reviews.proofs.Promised.{reviews-fit}
use Rattle.reviews.proofs.WhichReview.{is_review}
use Rattle.policyform.specs.Encode.{encode}
use Rattle.policyform.specs.Promises.{Saves}
use Rattle.text.specs.Putting.{Put}
use Rattle.text.specs.Places.{Wrote}
use Rattle.text.proofs.Putting.{put-length}
use Rattle.text.proofs.Writing.{wrote-length}
use Rattle.clibrary.specs.Calls.{answer_line, Obeys, SavesAt}
use Rattle.unique.specs.Buffers.{Lent, Texted, Around, Buffers}

-- ---- results at the front

-- a list at the front of a buffer with room for it
over : (list before after : List ℕ) → length list ≤ length before → after ≡ list ++ drop (length list) before → (length after ≡ length before) × ((k : ℕ) → length list ≤ k → get_or after k 0 ≡ get_or before k 0)
over list before after fits e = (ap length e ∙ omega (arith, length-append list (drop (length list) before), length-drop (length list) before), past)
  where
    past : (k : ℕ) → length list ≤ k → get_or after k 0 ≡ get_or before k 0
    past k h =
        let place : length list + (k - length list) ≡ k = omega arith in
        ap (λ (l : List ℕ). get_or l k 0) e
        ∙ subst (λ (j : ℕ). get_or (list ++ drop (length list) before) j 0 ≡ get_or before j 0) place (get_or-append-add list (drop (length list) before) (k - length list) 0 ∙ get_or-drop (length list) before (k - length list) 0)

-- what is told with no results on a refusal, and with no more than there is room for
lent : {told : Told} {before after : List ℕ} {x : Result ℕ Refusal} → ((told.answer ≡ 0 → ⊥) → told.results ≡ []) → length told.results ≤ length before → Reviewed told before after x → Lent (number_of x) (given_number x) before after
lent {told} {before} {after} {x} silent fits r =
    record {
      refused = λ h. let none = silent (λ z. h (r.answer ∙ z)) in (r.count ∙ ap length none, r.buffer ∙ ap (λ (l : List ℕ). l ++ drop (length l) before) none);
      fits = omega (arith, r.count, fits);
      long = (over told.results before after fits r.buffer).0;
      past = λ k h. (over told.results before after fits r.buffer).1 k (omega (arith, r.count));
    }

-- ---- the reviews

-- a review by its own function
reviewed : {before after : List ℕ} {x : Result ℕ Refusal} (m : Model) (q : Question) → is_review q ≡ true → Reviewed (ask m (length before) q) before after x → Lent (number_of x) (given_number x) before after
reviewed {before} m q h r = lent (demand1.questions m (length before) q).silent (reviews-fit m (length before) q h) r

-- and any question through `ask`: what is told fits, or is refused with 15
fitted-silent : (room : ℕ) (told : Told) → ((told.answer ≡ 0 → ⊥) → told.results ≡ []) → ((fitted room told).answer ≡ 0 → ⊥) → (fitted room told).results ≡ []
unfolding fitted
fitted-silent room told silent = go (ltb room (length told.results)) refl
  where
    go : (b : Bool) → ltb room (length told.results) ≡ b → ((fitted room told).answer ≡ 0 → ⊥) → (fitted room told).results ≡ []
    go true e h = rw (e, fitted)
    go false e h = rw (e, fitted) (silent (rw (e, fitted) at h))

fitted-fits : (room : ℕ) (told : Told) → length (fitted room told).results ≤ room
unfolding fitted
fitted-fits room told = go (ltb room (length told.results)) refl
  where
    go : (b : Bool) → ltb room (length told.results) ≡ b → length (fitted room told).results ≤ room
    go true e = rw (e, fitted) (omega arith)
    go false e = rw (e, fitted) (ltb-false room (length told.results) e)

asked-any : (m : Model) (q : Question) {before after : List ℕ} {x : Result ℕ Refusal} → Reviewed (fitted (length before) (ask m (length before) q)) before after x → Lent (number_of x) (given_number x) before after
asked-any m q {before} r = lent (fitted-silent _ _ (demand1.questions m (length before) q).silent) (fitted-fits _ _) r

-- ---- a text at the front

-- a number that was stored by a run of stores, and one past or before it
stored_past : (l : List ℕ) (i : ℕ) (text : List ℕ) (k : ℕ) → i + length text ≤ k → get_or (sets l i text) k 0 ≡ get_or l k 0
stored_past l i [] k h = refl
stored_past l i (b ∷ text) k h = stored_past (set l i b) (suc i) text k (omega arith) ∙ get_or-set_other l i k b 0 (λ e. omega arith)

stored-before : (l : List ℕ) (i : ℕ) (text : List ℕ) (k : ℕ) → k < i → get_or (sets l i text) k 0 ≡ get_or l k 0
stored-before l i [] k h = refl
stored-before l i (b ∷ text) k h = stored-before (set l i b) (suc i) text k (omega arith) ∙ get_or-set_other l i k b 0 (λ e. omega arith)

stored_at : (l : List ℕ) (i : ℕ) (text : List ℕ) (k : ℕ) → k < length text → i + k < length l → get_or (sets l i text) (i + k) 0 ≡ get_or text k 0
stored_at l i [] k h f = absurd (omega arith)
stored_at l i (b ∷ text) zero h f = let place : i + 0 ≡ i = omega arith in rw place (stored-before (set l i b) (suc i) text i (omega arith) ∙ get_or-set_same l i b 0 (omega arith))
stored_at l i (b ∷ text) (suc k) h f =
    let place : suc i + k ≡ i + suc k = omega arith in
    rw place at (stored_at (set l i b) (suc i) text k (omega arith) (omega (arith, length-set l i b)))

-- past the place that is handed back either the text ends there, or the buffer does
put-past : {text before after : List ℕ} {at next : ℕ} → Put before at text after next → (k : ℕ) → next ≤ k → get_or after k 0 ≡ get_or before k 0
put-past {text} {before} {after} {at} p k h = go (dec_le (at + length text) k)
  where
    go : Dec (at + length text ≤ k) → get_or after k 0 ≡ get_or before k 0
    go (yes m) = ap (λ (l : List ℕ). get_or l k 0) p.holds ∙ stored_past before at text k m
    go (no m) = get_or-eq_default after 0 (omega (arith, p.ends, put-length p)) ∙ sym (get_or-eq_default before 0 (omega (arith, p.ends)))

put-around : {text before after : List ℕ} {at next : ℕ} → Put before at text after next → Around at next before after
put-around {text} {before} {after} {at} p = record { long = put-length p; before_it = λ k h. ap (λ (l : List ℕ). get_or l k 0) p.holds ∙ stored-before before at text k h; past = put-past p }

wrote-around : {bytes before after : List ℕ} {at next : ℕ} → Wrote before after at next bytes → Around at next before after
wrote-around {bytes} {before} {after} {at} w =
    record {
      long = wrote-length w;
      before_it = λ k h. ap (λ (l : List ℕ). get_or l k 0) w.buffer ∙ stored-before before at bytes k h;
      past = λ k h. ap (λ (l : List ℕ). get_or l k 0) w.buffer ∙ stored_past before at bytes k (omega (arith, w.next));
    }

texted : {text before after : List ℕ} {len : ℕ} → Put before 0 text after len → Texted text len before after
texted {text} {before} {after} {len} p = record { whole = λ h. omega (arith, p.ends); filled = λ h. omega (arith, p.ends); long = put-length p; front = front; past = put-past p }
  where
    front : (k : ℕ) → k < len → get_or after k 0 ≡ get_or text k 0
    front k h =
        let place : 0 + k ≡ k = omega arith in
        ap (λ (l : List ℕ). get_or l k 0) p.holds ∙ (rw place at (stored_at before 0 text k (omega (arith, p.ends)) (omega (arith, p.ends))))

-- ---- what a C program lends

-- bytes at the front, up to the length
front-around : (bytes : List ℕ) {before after : List ℕ} {size : ℕ} → after ≡ sets before 0 bytes → size ≡ length bytes → Around 0 size before after
front-around bytes {before} {after} {size} e l =
    record {
      long = ap length e ∙ length-sets before 0 bytes;
      before_it = λ k h. absurd (let z : ⊥ = omega arith in z);
      past = λ k h. ap (λ (x : List ℕ). get_or x k 0) e ∙ stored_past before 0 bytes k (omega (arith, l));
    }

obeyed-around : {m : Model} {told : Told} {before after l : List ℕ} {size : ℕ} → Obeys m told before after size l → Around 0 size before after
obeyed-around (inl x) = record { long = ap length x.untouched; before_it = λ k h. absurd (let z : ⊥ = omega arith in z); past = λ k h. ap (λ (l : List ℕ). get_or l k 0) x.untouched }
obeyed-around {told = told} (inr x) = front-around (answer_line told) x.stored x.long

saved-around : {m : Model} {before after : List ℕ} {old size answer : ℕ} → SavesAt m before after old size answer → ((answer ≡ 0 → ⊥) → after ≡ before) × (answer ≡ 0 → Around 0 size before after)
saved-around {answer = answer} (inl x) = ((λ h. x.refused.untouched), (λ z. absurd (let y : 15 ≡ 0 = sym x.refused.answered ∙ z in omega arith)))
saved-around {m} (inr x) = ((λ h. absurd (h x.answered)), (λ z. front-around (encode m) x.stored x.long))

-- ---- files

saved : {m : Model} {before after : List ℕ} {answer size : ℕ} → Saves m before after answer size → Lent answer size before after
saved {m} {before} {after} {answer} {size} (inl x) = record { refused = λ h. (x.no_length, x.untouched); fits = omega (arith, x.no_length); long = ap length x.untouched; past = λ k h. ap (λ (l : List ℕ). get_or l k 0) x.untouched }
saved {m} {before} {after} {answer} {size} (inr x) =
    record {
      refused = λ h. absurd (h x.answered);
      fits = omega (arith, x.long, x.fits);
      long = ap length x.stored ∙ length-sets before 0 (encode m);
      past = λ k h. ap (λ (l : List ℕ). get_or l k 0) x.stored ∙ stored_past before 0 (encode m) k (omega (arith, x.long));
    }

pub buffers : Buffers
unfolding is_review
buffers =
    record {
      -- ---- written by tests/unique.py: the reviews
      assigned_users = λ c. reviewed (view c.given.0.now) (questions.AssignedUsers c.given.1.0) refl c.met;
      assigned_roles = λ c. reviewed (view c.given.0.now) (questions.AssignedRoles c.given.1.0) refl c.met;
      auth_users = λ c. reviewed (view c.given.0.now) (questions.AuthUsers c.given.1.0) refl c.met;
      auth_roles = λ c. reviewed (view c.given.0.now) (questions.AuthRoles c.given.1.0) refl c.met;
      role_perms = λ c. reviewed (view c.given.0.now) (questions.RolePerms c.given.1.0) refl c.met;
      user_perms = λ c. reviewed (view c.given.0.now) (questions.UserPerms c.given.1.0) refl c.met;
      session_roles = λ c. reviewed (view c.given.0.now) (questions.SessionRoles c.given.1.0) refl c.met;
      session_perms = λ c. reviewed (view c.given.0.now) (questions.SessionPerms c.given.1.0) refl c.met;
      role_ops = λ c. reviewed (view c.given.0.now) (questions.RoleOps c.given.1.0 c.given.1.1.0) refl c.met;
      user_ops = λ c. reviewed (view c.given.0.now) (questions.UserOps c.given.1.0 c.given.1.1.0) refl c.met;
      set_names = λ c. reviewed (view c.given.0.now) (questions.Sets c.given.1.0) refl c.met;
      set_roles = λ c. reviewed (view c.given.0.now) (questions.SetRoles c.given.1.0 c.given.1.1.0) refl c.met;
      set_count = λ c. reviewed (view c.given.0.now) (questions.SetCount c.given.1.0 c.given.1.1.0) refl c.met;
      ask = λ c. asked-any (view c.given.0.now) c.given.1.0 c.met;
      -- ---- end of what tests/unique.py writes
      save = λ c. saved c.met;
      answer_line = λ c. texted c.met.puts.text;
      turn = λ c. texted c.met.text;
      next = λ c. texted c.met.puts.text;
      marruskil_obey = λ c. obeyed-around c.met;
      marruskil_save = λ c. saved-around c.met;
      -- ---- written by tests/unique.py: what puts a text
      put = λ c. put-around c.met;
      put_text = λ c. put-around c.met;
      write = λ c. wrote-around c.met;
      put_number = λ c. put-around c.met;
      put_numbers = λ c. put-around c.met;
      put_word = λ c. put-around c.met;
      answer_text = λ c. put-around c.met;
      total_text = λ c. put-around c.met;
      -- ---- end of what tests/unique.py writes
    }
