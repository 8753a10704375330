-- The two pieces that are printed for a file: the answer's line, and the file again. Assumes nothing.
use mathlib.Core.Bool.{true, false}
use mathlib.Core.List.{List, [], ◌∷◌, ◌++◌, append-nil}
use mathlib.Core.Logic.{inl, inr}
use mathlib.Core.Path.{◌≡◌, refl, sym, ap, ap₂, subst, ◌∙◌}
use Prim.Native.Nat.{ℕ, ◌+◌, ◌≤◌}
use native.Mathlib.Omega.{arith}
use lib.Dec.{eqb}
use lib.ListN.{length, take, length-append, length-take}
use Rattle.streams.specs.Writing.{WritesFront}
use Rattle.streams.proofs.Writing.{writes_none, writes_front}
use lib.Seq.{take_at, drop_at, take-length, length-take-le}
use borrow.Author.Tests.{ne_eqb}
use Rattle.std.proofs.lemmas.Bool.{true≢false}
use Rattle.std.proofs.Common.{Result, Ok, Err, is_err, IsOk}
use Rattle.numbers.specs.Answers.{Answer, number_of, refusal_number}
use Rattle.numbers.specs.declared.Refusal.{Refusal}
use Rattle.numbers.proofs.Answers.{refused-not-0}
use Rattle.state.specs.View.{view, told}
use Rattle.state.specs.Results.{given_number}
use Rattle.std.specs.declared.option.Option.{Option}
use Rattle.std.specs.Io.KnownBytes.{Appends}
use Rattle.std.proofs.KnownBytes.{Appends-trans}
use Rattle.model.specs.Model.{Model, empty}
use Rattle.model.specs.Sheet.{Told}
use Rattle.text.specs.Putting.{Put}
use Rattle.text.proofs.Putting.{put_front, put-length, put-within}
use Rattle.decimal.specs.Decimal.{decimal}
use Rattle.decimal.proofs.Laws.{decimal-short}
use Rattle.policyform.specs.Encode.{encode}
use Rattle.policyform.specs.Promises.{Loads, Saves}
use Rattle.policyfile.proofs.Laws.{loads-one, loaded, sound-size, save-fits}
use Rattle.reload.specs.Reloading.{answer_line, reloaded, NextFor, AllFor, PrintsFor, FrontFor}

-- what is printed, in its two cases
with-file : (answer : ℕ) (file : List ℕ) → answer ≡ 0 → reloaded answer file ≡ answer_line answer ++ file
unfolding reloaded
with-file answer file e = rw e

without-file : (answer : ℕ) (file : List ℕ) → eqb answer 0 ≡ false → reloaded answer file ≡ answer_line answer
unfolding reloaded
without-file answer file e = rw e (append-nil _)

-- the answer's line comes first
line_first : (answer : ℕ) (file : List ℕ) → take (length (answer_line answer)) (reloaded answer file) ≡ answer_line answer
unfolding reloaded
line_first answer file = take_at (answer_line answer) _ _ refl

line-short : (answer : ℕ) → length (answer_line answer) ≤ 6
line-short answer = omega (arith, length-append (decimal answer) (10 ∷ []), decimal-short answer)

module _ (file : List ℕ) (t : Told) (l : Loads empty file t) (line after : List ℕ) (len : ℕ) (p : Put line 0 (answer_line t.answer) after len) (room : 6 ≤ length line) where
  -- a load tells one answer
  one : (told : Told) → Loads empty file told → told.answer ≡ t.answer
  one told x = ap (λ (y : Told). y.answer) (loads-one empty file told t x l)

  stands : take len after ≡ answer_line t.answer
  stands = put_front p (omega (arith, line-short t.answer))

  pub long : len ≡ length (answer_line t.answer)
  long = omega (arith, p.ends, line-short t.answer)

  pub line_next : NextFor file 0 (take len after)
  line_next told x = rw (one told x, stands) (sym (line_first t.answer file))

  pub line_all : eqb t.answer 0 ≡ false → AllFor file len
  line_all e told x = long ∙ sym (ap length (ap (λ (n : ℕ). reloaded n file) (one told x) ∙ without-file t.answer file e))

  pub file_next : t.answer ≡ 0 → (bytes : List ℕ) → bytes ≡ file → NextFor file len bytes
  file_next e bytes is told x = rw (one told x, with-file t.answer file e, is, drop_at (answer_line t.answer) file len (sym long)) (sym (take-length file))

  pub file_all : t.answer ≡ 0 → (size : ℕ) → size ≡ length file → AllFor file (len + size)
  file_all e size is told x = omega (arith, long, is, length-append (answer_line t.answer) file, ap length (ap (λ (n : ℕ). reloaded n file) (one told x) ∙ with-file t.answer file e))

  -- what a writer holds, where that is known, once the line was written, and once the file was written too
  pub line_prints : eqb t.answer 0 ≡ false → (a b : Option (List ℕ)) → Appends a b (take len after) → PrintsFor file a b
  line_prints e a b w told x = subst (Appends a b) (stands ∙ sym (ap (λ (n : ℕ). reloaded n file) (one told x) ∙ without-file t.answer file e)) w

  pub file_prints : t.answer ≡ 0 → (bytes : List ℕ) → bytes ≡ file → (a b c : Option (List ℕ)) → Appends a b (take len after) → Appends b c bytes → PrintsFor file a c
  file_prints e bytes is a b c w v told x =
      let all : take len after ++ bytes ≡ reloaded told.answer file = ap₂ (λ (m n : List ℕ). m ++ n) stands is ∙ sym (ap (λ (n : ℕ). reloaded n file) (one told x) ∙ with-file t.answer file e) in
      subst (Appends a c) all (Appends-trans a b c _ _ w v)

-- What was loaded is saved as the file again.
pub record Again (file after : List ℕ) (n : ℕ) : Type 0 where
  pub within : n ≤ length after
  pub front : take n after ≡ file
  pub size : n ≡ length file

pub saved-again : (file : List ℕ) (t : Told) → Loads empty file t → t.answer ≡ 0 → (out after : List ℕ) (a n : ℕ) → 36048 ≤ length out → Saves t.after out after a n → Again file after n
saved-again file t l e out after a n room (inl x) = absurd (omega (arith, x.short, sound-size t.after (loaded empty file t l e).0))
saved-again file t l e out after a n room (inr x) =
    record {
      within = omega (arith, x.long, x.fits, put-length put);
      front = put_front put x.fits ∙ (loaded empty file t l e).1;
      size = x.long ∙ ap length (loaded empty file t l e).1;
    }
  where
    put : Put out 0 (encode t.after) after n
    put = record { holds = x.stored; ends = omega (arith, x.long, x.fits) }

-- and there is room for it
pub saved-done : (file : List ℕ) (t : Told) → Loads empty file t → t.answer ≡ 0 → (out after : List ℕ) (r : Result ℕ Refusal) → 36048 ≤ length out → Saves t.after out after (number_of r) (given_number r) → IsOk r
saved-done file t l e out after (Ok n) room s = refl
saved-done file t l e out after (Err r) room s = absurd (refused-not-0 r (save-fits t.after out after (refusal_number r) 0 (loaded empty file t l e).0 room s))

-- what is done has the number 0, and what is refused has another
done-0 : (a : Answer) → is_err a ≡ false → number_of a ≡ 0
done-0 (Ok x) e = refl
done-0 (Err r) e = absurd (true≢false e)

refused-eqb : (a : Answer) → is_err a ≡ true → eqb (number_of a) 0 ≡ false
refused-eqb (Ok x) e = absurd (true≢false (sym e))
refused-eqb (Err r) e = ne_eqb _ _ (refused-not-0 r)

-- The file was loaded into the empty state, which told this answer and left this state, and the answer's line was put.
pub record Answered (file state line after : List ℕ) (a : Answer) (len : ℕ) : Type 0 where
  pub loads : Loads empty file (told a state)
  pub put : Put line 0 (answer_line (told a state).answer) after len
  pub room : 6 ≤ length line

pub answered : (file before state line after : List ℕ) (a : Answer) (len : ℕ) → view before ≡ empty → Loads (view before) file (told a state) → Put line 0 (answer_line (number_of a)) after len → 6 ≤ length line → Answered file state line after a len
unfolding told
answered file before state line after a len e l p r = record { loads = subst (λ (m : Model). Loads m file (told a state)) e l; put = p; room = r }

module _ (file state line after : List ℕ) (a : Answer) (len : ℕ) (x : Answered file state line after a len) where
  pub line_len : length (take len after) ≡ len
  line_len = length-take-le len after (omega (arith, put-within x.put (omega arith), put-length x.put))

  -- it was counted, from 0 on
  line_counted : (count : ℕ) → count ≡ 0 + length (take len after) → count ≡ len
  line_counted count h = omega (arith, h, line_len)

  pub answer_next : NextFor file 0 (take len after)
  answer_next = line_next file (told a state) x.loads line after len x.put x.room

  pub answer_front : (b c : Option (List ℕ)) → WritesFront (take len after) b c → FrontFor file b c
  answer_front b c f told l = writes_front b b c (reloaded told.answer file) (take len after) 0 (omega arith) (writes_none b (reloaded told.answer file)) (answer_next told l) f

  -- where it was not loaded, that is all
  module _ (no : is_err a ≡ true) where
    is_not : eqb (told a state).answer 0 ≡ false
    unfolding told
    is_not = refused-eqb a no

    pub answer_all : (count : ℕ) → count ≡ 0 + length (take len after) → AllFor file count
    answer_all count counted = subst (AllFor file) (sym (line_counted count counted)) (line_all file (told a state) x.loads line after len x.put x.room is_not)

    pub answer_prints : (b c : Option (List ℕ)) → Appends b c (take len after) → PrintsFor file b c
    answer_prints = line_prints file (told a state) x.loads line after len x.put x.room is_not

  -- where it was, it is saved again
  module _ (yes : is_err a ≡ false) (out saved : List ℕ) (r : Result ℕ Refusal) (room : 36048 ≤ length out) (s : Saves (view state) out saved (number_of r) (given_number r)) where
    is_zero : (told a state).answer ≡ 0
    unfolding told
    is_zero = done-0 a yes

    save : Saves (told a state).after out saved (number_of r) (given_number r)
    unfolding told
    save = s

    pub saved_fits : IsOk r
    saved_fits = saved-done file (told a state) x.loads is_zero out saved r room save

    -- so many bytes of it
    module _ (size : ℕ) (is : r ≡ Ok size) (count : ℕ) (counts : count ≡ 0 + length (take len after)) where
      again : Again file saved size
      again = saved-again file (told a state) x.loads is_zero out saved (number_of r) size room (subst (λ (n : ℕ). Saves (told a state).after out saved (number_of r) n) (ap given_number is) save)

      pub saved_within : size ≤ length saved
      saved_within = again.within

      pub saved_next : NextFor file count (take size saved)
      saved_next = subst (λ (n : ℕ). NextFor file n (take size saved)) (sym (line_counted count counts)) (file_next file (told a state) x.loads line after len x.put x.room is_zero (take size saved) again.front)

      pub saved_all : (last : ℕ) → last ≡ count + length (take size saved) → AllFor file last
      saved_all last h =
          let same : last ≡ len + size = omega (arith, h, counts, line_len, length-take-le size saved again.within) in
          subst (AllFor file) (sym same) (file_all file (told a state) x.loads line after len x.put x.room is_zero size again.size)

      pub saved_prints : (b c d : Option (List ℕ)) → Appends b c (take len after) → Appends c d (take size saved) → PrintsFor file b d
      saved_prints = file_prints file (told a state) x.loads line after len x.put x.room is_zero (take size saved) again.front

      pub saved_front : (b c d : Option (List ℕ)) → Appends b c (take len after) → WritesFront (take size saved) c d → FrontFor file b d
      saved_front b c d w f told l =
          let text = reloaded told.answer file in
          let same : count ≡ length (take len after) = omega (arith, counts) in
          let first : take len after ≡ take count text = answer_next told l ∙ ap (λ (n : ℕ). take n text) (sym same) in
          let within : count ≤ length text = omega (arith, same, ap length first, length-take count text) in
          writes_front b c d text (take size saved) count within (subst (Appends b c) first w) (saved_next told l) f
