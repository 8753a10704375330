-- The unused number is no answer's, so whatever answers on the sheet does not answer it; and a chain of more than 64 roles is a circle. Assumes nothing.
use mathlib.Core.Bool.{true, ◌||◌}
use mathlib.Core.List.{List, []}
use mathlib.Core.Logic.{inl, inr, ⊎_elim}
use mathlib.Core.Path.{◌≡◌, refl, sym, ap, ◌∙◌}
use Prim.Native.Nat.{ℕ, ◌<◌}
use native.Mathlib.Omega.{arith}
use lib.Dec.{eqb}
use borrow.Author.Tests.{eqb-true}
use Rattle.roleset.specs.Bounded.{every}
use Rattle.roleset.proofs.BoundedLaws.{or_cases, every-elim}
use Rattle.numbers.specs.Answers.{answer_of, with_number}
use Rattle.std.proofs.Common.{None}
use Rattle.numbers.proofs.Answers.{nothing-named}
use Rattle.hierarchy.specs.Lines.{Chain}
use Rattle.hierarchy.proofs.CircleLaws.{chain_circle, circular_complete}
use Rattle.model.specs.Model.{Model}
use Rattle.model.specs.Sheet.{Told, verdict, settle, refused}
use Rattle.sound.proofs.Carried.{lines_small}
use Rattle.sound.proofs.Sheet.{verdict-here, settle-refused}
use Rattle.policyform.specs.Form.{Formed, FileOf}
use Rattle.policyform.specs.Promises.{Loads}
use Rattle.policyform.specs.Rules.{rules_broken}
use Rattle.policyform.proofs.Lines.{formed-lines}
use Rattle.policyread.proofs.Whole.{file-one}
use Rattle.demands.specs.Demand1.{OnSheet}
use Rattle.demands.specs.Reachable.{Reachable}
use Rattle.demands.specs.ShorterSheet.{ShorterSheet}
use Rattle.demands.proofs.Demand1.{demand1}
use Rattle.demands.proofs.Kept.{reachable-sound}
use Rattle.demands.proofs.Settled.{numbered, numbered-on}

-- ---- the number

-- what answers on the sheet does not answer a number that names none
not_on : (k n : ℕ) → answer_of k ≡ None → OnSheet n → n ≡ k → ⊥
not_on k n none on e = nothing-named k none on.0 (sym on.1 ∙ e)

-- every number below `most` but k is an answer's, where a test says so
others-on : (most k : ℕ) → every most (λ n. eqb n k || numbered n) ≡ true → (n : ℕ) → n < most → (n ≡ k → ⊥) → OnSheet n
others-on most k e n l other = ⊎_elim (λ h. absurd (other (eqb-true n k h))) (numbered-on n) (or_cases (eqb n k) (numbered n) (every-elim most (λ n. eqb n k || numbered n) e n l))

-- ---- long chains

chains : (m : Model) → Reachable m → (n r : ℕ) → 64 < n → Chain m.juniors n r → ⊥
chains m p n r h c =
    let s = reachable-sound p in
    let x = chain_circle m.juniors (lines_small m s.shape) n h c in
    s.rules.acyclic.never x.0 x.1

-- the first rule of a policy that may stand in a file is broken where its lines hold such a chain
circles : (m : Model) → Formed m → (n r : ℕ) → 64 < n → Chain m.juniors n r → verdict (rules_broken m) ≡ 6
unfolding rules_broken
circles m f n r h c =
    let small = formed-lines m f in
    let x = chain_circle m.juniors small n h c in
    verdict-here _ _ (circular_complete m.juniors small x.0 x.1)

loading : (before m : Model) (bytes : List ℕ) (told : Told) → FileOf m bytes → Loads before bytes told → (n r : ℕ) → 64 < n → Chain m.juniors n r → told ≡ refused 6 before
loading before m bytes told x (inl y) n r h c = absurd (y.no_file m x)
loading before m bytes told x (inr y) n r h c =
    let six = circles m x.formed n r h c in
    y.tells
    ∙ ap (λ (n : Model). settle (rules_broken n) before [] n) (file-one bytes y.model m y.file x)
    ∙ settle-refused (rules_broken m) before [] m (λ e. omega arith)
    ∙ ap (λ (n : ℕ). refused n before) six

-- No chain of more than 64 roles is met, and nothing answers that one is.
pub shorter-sheet : ShorterSheet
unfolding with_number numbered every
shorter-sheet =
    record {
      chains = chains;
      loading = loading;
      unused = λ a e. nothing-named _ refl a e;
      names_none = refl;
      others = others-on _ _ refl;
      commands = λ m c list. not_on _ _ refl (demand1.commands m c list).on_sheet;
      questions = λ m room q. not_on _ _ refl (demand1.questions m room q).on_sheet;
      loads = λ m bytes told l. not_on _ _ refl (demand1.loads m bytes told l).on_sheet;
    }
