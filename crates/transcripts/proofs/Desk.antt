-- What the desk prints and leaves: a script on a policy that was loaded. Assumes nothing.
use mathlib.Core.Bool.{Bool, true, false}
use mathlib.Core.List.{List, [], ◌∷◌, ◌++◌}
use mathlib.Core.Logic.{inr}
use mathlib.Core.Path.{◌≡◌, refl, sym, ap, subst, ◌∙◌}
use Prim.Native.Nat.{ℕ, ◌≤◌, ◌<◌}
use native.Mathlib.Omega.{arith}
use native.Mathlib.Decide.{dec_lt}
use borrow.Author.Tests.{eq-eqb}
use lib.Dec.{eqb}
use lib.ListN.{length, drop, replicate, length-append}
use Rattle.model.specs.Model.{Model, empty}
use Rattle.sound.proofs.Empty.{empty-sound}
use Rattle.sound.proofs.Sheet.{settle-done}
use Rattle.textlines.specs.Parts.{joined, parts_of}
use Rattle.textlines.proofs.Laws.{cut, kept}
use Rattle.script.specs.Script.{line_feed, run_from, run_script, obey, after_lines, after_script}
use Rattle.script.proofs.Turning.{leaves_lines, leaves-it}
use Rattle.program.proofs.Whole.{whole_from}
use Rattle.policyform.specs.Rules.{rules_broken}
use Rattle.policyfile.proofs.Laws.{empty-file}
use Rattle.policyfile.proofs.Sounding.{sound-formed, sound-clear}
use Rattle.demands.specs.Reachable.{Reachable, start, loaded}
use Rattle.demands.proofs.Demand3.{demand3}
use Rattle.demands.proofs.PolicyFile.{faithful}
use Rattle.transcripts.specs.Desk.{Desk}
use Rattle.transcripts.proofs.ScriptLines.{script-lines}

-- ---- what a script leaves can be reached

lines-reach : (m : Model) (lines : List (List ℕ)) → Reachable m → Reachable (after_lines m lines)
unfolding after_lines
lines-reach m [] r = r
lines-reach m (text ∷ rest) r = lines-reach (obey m text).after rest (script-lines.reachable m text r)

script-reaches : (script : List ℕ) (m : Model) → Reachable m → Reachable (after_script m script)
script-reaches script m r = go (dec_lt 32768 (length script))
  where
    go : Dec (32768 < length script) → Reachable (after_script m script)
    go (yes h) = subst Reachable (sym (leaves-it m script h)) r
    go (no h) = subst Reachable (sym (leaves_lines m script (omega arith))) (lines-reach m (parts_of line_feed (drop 0 script)) r)

-- ---- a script in two halves

lines_then : (m : Model) (first second : List (List ℕ)) → after_lines (after_lines m first) second ≡ after_lines m (first ++ second)
unfolding after_lines
lines_then m [] second = refl
lines_then m (text ∷ rest) second = lines_then (obey m text).after rest second

-- the parts of a text that ends with the stop byte, and then those of what comes after it
joined-first : (b : ℕ) (some rest : List (List ℕ)) → (some ≡ [] → ⊥) → joined b (some ++ rest) ≡ joined b some ++ rest
joined-first b [] rest h = absurd (h refl)
joined-first b (part ∷ parts) rest h = refl

joined-some : (b : ℕ) (parts : List (List ℕ)) → joined b parts ≡ [] → ⊥
joined-some b [] e = omega (arith, ap length e)
joined-some b (part ∷ parts) e = omega (arith, ap length e)

parts-some : (first : List ℕ) → parts_of line_feed (first ++ (line_feed ∷ [])) ≡ [] → ⊥
parts-some [] e = omega (arith, ap length (sym (cut line_feed line_feed [] (eq-eqb line_feed line_feed refl)) ∙ e))
parts-some (b ∷ first) e = go (eqb b line_feed) refl
  where
    go : (t : Bool) → eqb b line_feed ≡ t → ⊥
    go true is = omega (arith, ap length (sym (cut line_feed b (first ++ (line_feed ∷ [])) is) ∙ e))
    go false is = joined-some b (parts_of line_feed (first ++ (line_feed ∷ []))) (sym (kept line_feed b (first ++ (line_feed ∷ [])) is) ∙ e)

parts_then : (first second : List ℕ) → parts_of line_feed (first ++ (line_feed ∷ second)) ≡ parts_of line_feed (first ++ (line_feed ∷ [])) ++ parts_of line_feed second
unfolding parts_of
parts_then [] second = cut line_feed line_feed second (eq-eqb line_feed line_feed refl) ∙ ap (λ (l : List (List ℕ)). l ++ parts_of line_feed second) (sym (cut line_feed line_feed [] (eq-eqb line_feed line_feed refl)))
parts_then (b ∷ first) second = go (eqb b line_feed) refl (parts_then first second)
  where
    go : (t : Bool) → eqb b line_feed ≡ t → parts_of line_feed (first ++ (line_feed ∷ second)) ≡ parts_of line_feed (first ++ (line_feed ∷ [])) ++ parts_of line_feed second → parts_of line_feed (b ∷ (first ++ (line_feed ∷ second))) ≡ parts_of line_feed (b ∷ (first ++ (line_feed ∷ []))) ++ parts_of line_feed second
    go true is e = cut line_feed b (first ++ (line_feed ∷ second)) is ∙ ap (λ (l : List (List ℕ)). [] ∷ l) e ∙ ap (λ (l : List (List ℕ)). l ++ parts_of line_feed second) (sym (cut line_feed b (first ++ (line_feed ∷ [])) is))
    go false is e =
        kept line_feed b (first ++ (line_feed ∷ second)) is
        ∙ ap (joined b) e
        ∙ joined-first b (parts_of line_feed (first ++ (line_feed ∷ []))) (parts_of line_feed second) (parts-some first)
        ∙ ap (λ (l : List (List ℕ)). l ++ parts_of line_feed second) (sym (kept line_feed b (first ++ (line_feed ∷ [])) is))

halves : (m : Model) (first second : List ℕ) → length (first ++ (line_feed ∷ second)) ≤ 32768 → after_script (after_script m (first ++ (line_feed ∷ []))) second ≡ after_script m (first ++ (line_feed ∷ second))
halves m first second h =
    let n : length (first ++ (line_feed ∷ [])) ≤ 32768 = omega (arith, length-append first (line_feed ∷ []), length-append first (line_feed ∷ second)) in
    let k : length second ≤ 32768 = omega (arith, length-append first (line_feed ∷ second)) in
    leaves_lines _ second k
    ∙ ap (λ (x : Model). after_lines x (parts_of line_feed second)) (leaves_lines m (first ++ (line_feed ∷ [])) n)
    ∙ lines_then m (parts_of line_feed (first ++ (line_feed ∷ []))) (parts_of line_feed second)
    ∙ ap (after_lines m) (sym (parts_then first second))
    ∙ sym (leaves_lines m (first ++ (line_feed ∷ second)) h)

-- ----

pub desk : Desk
unfolding run_script
desk =
    record {
      prints = λ script out l last r b runs. (whole_from script out l last r b runs).0;
      leaves = λ script out l last r b runs. (whole_from script out l last r b runs).1;
      new = inr (record { model = empty; file = record { formed = sound-formed empty empty-sound; written = empty-file }; tells = sym (settle-done (rules_broken empty) empty [] empty (sound-clear empty empty-sound)) });
      from_empty = λ script. refl;
      reachable = script-reaches;
      rules = λ file script m h. demand3.rules (after_script m script) (script-reaches script m (loaded start file _ h));
      again = λ file script m before told h l. faithful.itself (after_script m script) before told (script-reaches script m (loaded start file _ h)) l;
      halves = halves;
    }
