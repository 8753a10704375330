-- What a line of a script tells, whatever its bytes. Assumes nothing.
use mathlib.Core.List.{List, []}
use mathlib.Core.Path.{◌≡◌, refl, sym, ap, subst, ◌∙◌}
use Prim.Native.Nat.{ℕ}
use native.Mathlib.Omega.{arith}
use lib.ListN.{get_or, drop}
use Rattle.std.proofs.Common.{Option, Some, None}
use Rattle.model.specs.Model.{Model}
use Rattle.model.specs.Sheet.{refused}
use Rattle.words.specs.ScriptWords.{word_of}
use Rattle.reading.specs.Form.{Parsed, line, no_line, parse}
use Rattle.meaning.specs.Meaning.{meant}
use Rattle.meaning.specs.declared.Meant.{Meant}
use Rattle.meaning.specs.declared.Meant.TheVariants.{Do, Ask}
use Rattle.script.specs.Script.{obey, obeyed, doing}
use Rattle.demands.specs.Reachable.{Reachable, after}
use Rattle.demands.proofs.Demand1.{demand1}
use Rattle.demands.proofs.Room.{never-short}
use Rattle.transcripts.specs.LineForm.{LineForm}
use Rattle.transcripts.specs.ScriptLines.{ScriptLines}
use Rattle.transcripts.proofs.LineForm.{line-parsed, parsed-line}

not-formed : (m : Model) (text : List ℕ) → ((k : ℕ) (ns : List ℕ) → LineForm text k ns → ⊥) → obey m text ≡ refused 14 m
unfolding obey
not-formed m text none = go (parse text) (λ k ns e. none k ns (parsed-line text k ns e))
  where
    go : (p : Parsed) → ((k : ℕ) (ns : List ℕ) → p ≡ line k ns → ⊥) → obeyed m p ≡ refused 14 m
    go (line k ns) h = absurd (h k ns refl)
    go no_line h = refl

-- the word and the numbers of a line that was read
word_of_line : Parsed → ℕ
word_of_line (line k ns) = k
word_of_line no_line = 0

numbers_of_line : Parsed → List ℕ
numbers_of_line (line k ns) = ns
numbers_of_line no_line = []

one_line : (text : List ℕ) (k k' : ℕ) (ns ns' : List ℕ) → LineForm text k ns → LineForm text k' ns' → (k ≡ k') × (ns ≡ ns')
unfolding word_of_line numbers_of_line
one_line text k k' ns ns' w w' = let e = sym (line-parsed text k ns w) ∙ line-parsed text k' ns' w' in (ap word_of_line e, ap numbers_of_line e)

-- whatever a line means, it is not answered 15
never_done : (m : Model) (x : Option Meant) (list : List ℕ) → (doing m x list).answer ≡ 15 → ⊥
never_done m (Some (Do c)) list e = never-short.commands m c list e
never_done m (Some (Ask q)) list e = never-short.questions m q e
never_done m None list e = omega (arith, e)

never-obeyed : (m : Model) (p : Parsed) → (obeyed m p).answer ≡ 15 → ⊥
never-obeyed m (line k ns) e = never_done m (meant k (get_or ns 0 0) (get_or ns 1 0) (get_or ns 2 0)) (drop (word_of k).numbers ns) e
never-obeyed m no_line e = omega (arith, e)

-- and what it leaves can be reached
reachable-done : (m : Model) (x : Option Meant) (list : List ℕ) → Reachable m → Reachable (doing m x list).after
reachable-done m (Some (Do c)) list r = after r c list
reachable-done m (Some (Ask q)) list r = subst Reachable (sym (demand1.asking m _ q)) r
reachable-done m None list r = r

reachable-obeyed : (m : Model) (p : Parsed) → Reachable m → Reachable (obeyed m p).after
reachable-obeyed m (line k ns) r = reachable-done m (meant k (get_or ns 0 0) (get_or ns 1 0) (get_or ns 2 0)) (drop (word_of k).numbers ns) r
reachable-obeyed m no_line r = r

pub script-lines : ScriptLines
unfolding obey
script-lines =
    record {
      formed = λ m text k ns w. ap (obeyed m) (line-parsed text k ns w);
      not_formed = not-formed;
      one_line = one_line;
      never_short = λ m text e. never-obeyed m (parse text) e;
      reachable = λ m text r. reachable-obeyed m (parse text) r;
    }
