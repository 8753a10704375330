-- The script on its way from the policy that the file gives, and what is saved of it. Assumes nothing.
use mathlib.Core.List.{List, [], ◌∷◌, ◌++◌}
use mathlib.Core.Logic.{inl, inr}
use mathlib.Core.Bool.{true, false}
use mathlib.Core.Path.{◌≡◌, refl, sym, ap, subst, ◌∙◌}
use Prim.Native.Nat.{ℕ, ◌+◌, ◌*◌, ◌≤◌, ◌<◌}
use native.Mathlib.Omega.{arith}
use lib.ListN.{length, take, length-append}
use lib.Seq.{length-take-le}
use Rattle.std.specs.declared.option.Option.{Option}
use Rattle.std.specs.Io.KnownBytes.{Appends}
use Rattle.std.proofs.Common.{Result, Ok, Err}
use Rattle.streams.specs.Counts.{IsPrefixLen}
use Rattle.std.specs.Prelude.{MatchResult}
use Rattle.numbers.specs.Answers.{number_of, refusal_number}
use Rattle.numbers.specs.declared.Refusal.{Refusal}
use Rattle.numbers.proofs.Answers.{refused-not-0}
use Rattle.model.specs.Model.{Model, empty}
use Rattle.model.specs.Sheet.{refused}
use Rattle.state.specs.View.{view, told}
use Rattle.state.specs.Results.{given_number}
use Rattle.text.specs.Putting.{Put}
use Rattle.text.proofs.Putting.{put_front, put-length}
use Rattle.decimal.specs.Decimal.{decimal, numbered}
use Rattle.decimal.proofs.Laws.{decimal-short, numbered-short}
use Rattle.script.specs.Script.{answer_text, line_feed, run_from}
use Rattle.policyform.specs.Encode.{encode}
use Rattle.policyform.specs.Promises.{Loads, Saves}
use Rattle.policyfile.proofs.Laws.{load-refused}
use Rattle.program.specs.declared.Run.{Run}
use Rattle.program.specs.declared.Printed.{Printed}
use Rattle.program.specs.Printing.{at_start}
use Rattle.program.specs.Printing.{Prints as Calls}
use Rattle.program.proofs.Placing.{Handing, hands-all, hands_none, hands-last, hands_on, piece_within, piece_next, calls_fewer, count_small}
use Rattle.program.proofs.Whole.{calls_left}
use Rattle.streams.specs.Writing.{WritesFront}
use Rattle.streams.proofs.Writing.{writes_none, writes_on, writes_front, writes_all}
use Rattle.desk.specs.Desk.{Gives, Next, Prints, PrintsTo, PrintsFront, Leaves, Saved}

-- So many bytes were handed out of what the script prints from that policy, and the rest is left; where it is known what the writer holds, it holds
-- them after what it held before.
pub record Going (file script l : List ℕ) (r : Run) (count : ℕ) (first held : Option (List ℕ)) : Type 0 where
  pub policy : Model
  pub gives : Gives file policy
  pub handing : Handing policy script l r count
  pub printed : Appends first held (take count (run_from policy script))

pub begins : (file script l : List ℕ) (r : Run) (held : Option (List ℕ)) → Gives file (view l) → r ≡ at_start → Going file script l r 0 held held
begins file script l r held g e = record { policy = view l; gives = g; handing = hands-all _ _ _ _ refl e; printed = writes_none held (run_from (view l) script) }

-- once the total was handed out, all was
module _ (file script l : List ℕ) (r : Run) (count : ℕ) (first held : Option (List ℕ)) (h : Going file script l r count first held) (over : r.over ≡ true) where
  pub going_prints : Prints file script count
  going_prints = record { policy = h.policy; gives = h.gives; all = hands_none _ _ _ _ _ h.handing over }

  pub going_writes : PrintsTo file script first held
  going_writes = record { policy = h.policy; gives = h.gives; all = writes_all first held (run_from h.policy script) count (hands_none _ _ _ _ _ h.handing over) h.printed }

  pub going_leaves : Leaves file script (view l)
  going_leaves = record { policy = h.policy; gives = h.gives; left = hands-last _ _ _ _ _ h.handing over }

-- one call, whose piece is put into the buffer
module _ (file script l : List ℕ) (r : Run) (before after : List ℕ) (x : Printed) (next : List ℕ) (count : ℕ) (first held : Option (List ℕ)) (room : length before ≡ 32768) (h : Going file script l r count first held) (e : r.over ≡ false) (t : Calls script l r before after x next) where
  enough : 24582 ≤ length before
  enough = omega (arith, room)

  pub part_within : x.len ≤ length after
  part_within = piece_within _ _ _ _ _ _ _ _ _ enough h.handing e t

  pub part_long : length (take x.len after) ≡ x.len
  part_long = length-take-le x.len after part_within

  pub part_next : Next file script count (take x.len after)
  part_next = record { policy = h.policy; gives = h.gives; next = piece_next _ _ _ _ _ _ _ _ _ enough h.handing e t }

  pub part_small : count + length (take x.len after) ≤ 24582 * (length script + 1)
  part_small = omega (arith, part_long, count_small _ _ _ _ _ _ _ _ _ enough h.handing e t)

  pub part_fewer : calls_left script x.run < calls_left script r
  part_fewer = calls_fewer _ _ _ _ _ _ _ _ _ enough h.handing e t

  pub part_room : length after ≡ 32768
  part_room = put-length t.puts.text ∙ room

  -- a front of it is written
  pub going_front : (now : Option (List ℕ)) → WritesFront (take x.len after) held now → PrintsFront file script first now
  going_front now f =
      record { policy = h.policy; gives = h.gives; front = writes_front first held now (run_from h.policy script) (take x.len after) count h.handing.within h.printed (piece_next _ _ _ _ _ _ _ _ _ enough h.handing e t) f }

  -- it is written, and counted
  pub going_on : (last : ℕ) (now : Option (List ℕ)) → last ≡ count + length (take x.len after) → Appends held now (take x.len after) → Going file script next x.run last first now
  going_on last now counted w =
      let same : last ≡ count + x.len = omega (arith, counted, part_long) in
      record {
        policy = h.policy;
        gives = h.gives;
        handing = subst (λ (n : ℕ). Handing h.policy script next x.run n) (sym same) (hands_on _ _ _ _ _ _ _ _ _ enough h.handing e t);
        printed = writes_on first held now (run_from h.policy script) (take x.len after) count last counted h.printed w (piece_next _ _ _ _ _ _ _ _ _ enough h.handing e t);
      }

-- A load into the empty policy is done and gives what the state holds, or it is refused.
pub given : (file l : List ℕ) → Loads empty file (told (Ok tt) l) → Gives file (view l)
unfolding told
given file l x = x

pub denied : (file l : List ℕ) (r : Refusal) → Loads empty file (told (Err r) l) → Loads empty file (refused (refusal_number r) empty)
unfolding told
denied file l r x = subst (λ (m : Model). Loads empty file (refused (refusal_number r) m)) (load-refused empty file (told (Err r) l) x (refused-not-0 r)) x

-- a place in a buffer counts the bytes before it
pub counts : (n : ℕ) (l : List ℕ) → n ≤ length l → IsPrefixLen n l
counts n l h = (h, sym (length-take-le n l h))

-- an answer with no results is a short line
pub number_short : (n : ℕ) → length (answer_text n []) ≤ 8
unfolding answer_text
number_short n = omega (arith, length-append (decimal n) (numbered [] ++ (line_feed ∷ [])), length-append (numbered []) (line_feed ∷ []), decimal-short n, numbered-short [])

-- What the script leaves is saved as its file.
pub record Whole (file script after : List ℕ) (n : ℕ) : Type 0 where
  pub within : n ≤ length after
  pub saved : Saved file script (take n after)

pub saved-whole : (F : Type 0) (file script : List ℕ) (m : Model) → Leaves file script m → (out after : List ℕ) (r : Result ℕ Refusal) (n : ℕ) → MatchResult r (λ a. ◌≡◌ {A = Result ℕ F} (Ok n) (Ok a)) (λ _. ⊥) → Saves m out after (number_of r) (given_number r) → Whole file script after n
saved-whole F file script m l out after (Err r) n e s = absurd e
saved-whole F file script m l out after (Ok a) n e (inl x) = absurd (omega (arith, x.answered))
saved-whole F file script m l out after (Ok a) n e (inr x) =
    record {
      within = omega (arith, same, x.long, x.fits, put-length put);
      saved = record { policy = l.policy; gives = l.gives; is = put_front put x.fits ∙ ap encode l.left };
    }
  where
    same : n ≡ a
    same = ap (λ (y : Result ℕ F). elim y [ Ok k ↦ k | Err _ ↦ 0 ]) e

    put : Put out 0 (encode m) after n
    put = record { holds = x.stored; ends = omega (arith, same, x.long, x.fits) }
