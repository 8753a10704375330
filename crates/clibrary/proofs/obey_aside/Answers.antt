-- The answer line stands whole in a buffer of our own, and is copied where it fits. Assumes nothing.
use mathlib.Core.List.{List, ◌++◌}
use mathlib.Core.Path.{◌≡◌, sym, ap₂, ◌∙◌}
use Prim.Native.Nat.{ℕ, ◌+◌, ◌≤◌}
use native.Mathlib.Omega.{arith}
use lib.ListN.{length, drop, replicate, length-replicate}
use lib.Seq.{sets-eq}
use Rattle.state.specs.View.{view}
use Rattle.text.proofs.Putting.{put_front}
use Rattle.script.specs.Script.{obey}
use Rattle.clibrary.specs.Calls.{answer_line}
use Rattle.clibrary.proofs.Calling.{longest-answer, put_whole}
use Rattle.clibrary.proofs.obey_aside.Goals as goal

pub returns : goal.returns
returns c =
    let out = c.args.out.now in
    let told = obey (view c.args.state.now) c.args.line.now in
    let short : length (answer_line told) ≤ length (replicate {A = ℕ} 24582 0) = omega (arith, longest-answer.holds (view c.args.state.now) c.args.line.now, length-replicate {A = ℕ} 24582 0) in
    let whole : c.answer_line-len.result.len ≡ length (answer_line told) = put_whole c.answer_line-len.ensures.puts.text short in
    let past : c.answer_line-len.result.len ≡ 0 + length (answer_line told) = omega (arith, whole) in
    let fits : length (answer_line told) ≤ length out = omega (arith, whole, c.if-out-len.false) in
    record {
      fits = fits;
      long = whole;
      stored = ap₂ (λ (x : List ℕ) (k : ℕ). x ++ drop k out) (c.copy_from_slice.ensures.after ∙ put_front c.answer_line-len.ensures.puts.text short) past ∙ sym (sets-eq (answer_line told) out 0 (omega (arith, fits)));
      state = c.answer_line-len.ensures.state;
    }
