-- The parts between the spaces are taken one by one: the first for a word, the others for numbers. Assumes nothing.
use mathlib.Core.List.{List}
use mathlib.Core.Path.{◌≡◌, sym, ap, ◌∙◌}
use Prim.Native.Nat.{ℕ}
use denote.Ref.{Bor}
use Rattle.words.specs.Rows.{named}
use Rattle.words.specs.ScriptWords.{which}
use Rattle.reading.specs.Form.{word_in}
use Rattle.reading.proofs.Gathering.{gathers-start, gathers-next, gathers-end, gathers-over, gathered-unknown, gathered_none, gathered-line}
use Rattle.reading.proofs.gather.Goals as goal
use Rattle.reading.proofs.gather.Goals.{After-which}

first : (c : After-which) → c.which.result ≡ named (word_in c.args.text.now)
unfolding word_in
first c = c.which.ensures ∙ ap (λ (l : List ℕ). named (which l)) c.next.ensures.part

pub returns-in_err-word : goal.returns-in_err-word
returns-in_err-word c = c.from_residual.ensures ∙ sym (gathered-unknown _ (sym (first (goal.at.returns-in_err-word c).After-which) ∙ c.in_err-word.was))

pub loop-reader-init : goal.loop-reader-init
loop-reader-init c = record { text = ap (λ (b : Bor (List ℕ)). b.now) c.next.ensures.src; gathers = rw (c.new-numbers.ensures, c.next.ensures.at) (gathers-start c.args.text.now) }

pub loop-reader-preserved : goal.loop-reader-preserved
loop-reader-preserved c =
    let i = c.loop-reader.invariant in
    record {
      text = ap (λ (b : Bor (List ℕ)). b.now) c.next-in-loop-reader.ensures.src ∙ i.text;
      gathers = rw (c.in_ok-push.ensures.1, c.value.ensures, c.next-in-loop-reader.ensures.part, c.next-in-loop-reader.ensures.at, i.text) (gathers-next c.args.text.now c.loop-reader.numbers c.loop-reader.reader.at c.loop-reader-test.true c.in_ok-push.ensures.0 i.gathers);
    }

pub returns-in_err-push : goal.returns-in_err-push
returns-in_err-push c = c.from_residual-in_err-push.ensures ∙ sym (gathered_none _ (gathers-over c.args.text.now _ _ c.loop-reader-test.true c.in_err-push.ensures.0 c.loop-reader.invariant.gathers))

pub returns : goal.returns
returns c = sym (gathered-line c.args.text.now c.loop-reader.numbers c.in_ok-word.word (sym (first (goal.at.returns c).After-which) ∙ c.in_ok-word.was) (gathers-end c.args.text.now _ _ c.loop-reader-test.false c.loop-reader.invariant.gathers) c.loop-reader.invariant.gathers.room)
