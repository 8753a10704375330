-- The file stands in our own buffer, and is copied. Assumes nothing.
use mathlib.Core.List.{List, ◌++◌}
use mathlib.Core.Logic.{inr}
use mathlib.Core.Path.{◌≡◌, refl, sym, ap₂, ◌∙◌}
use Prim.Native.Nat.{ℕ, ◌+◌}
use native.Mathlib.Omega.{arith}
use lib.ListN.{length, drop, length-replicate}
use lib.Seq.{sets-eq}
use Rattle.state.specs.View.{view}
use Rattle.policyform.specs.Encode.{encode}
use Rattle.policyfile.proofs.Front.{front}
use Rattle.policyfile.proofs.save.Goals as goal

pub returns-then-length-le-LONGEST_FILE : goal.returns-then-length-le-LONGEST_FILE
returns-then-length-le-LONGEST_FILE c =
    let out = c.args.out.now in
    let file = encode (view c.args.state.now) in
    let long : c.write-length.result ≡ 0 + length file = omega (arith, c.write-length.ensures.next) in
    let written = front c.write-length.ensures (omega (arith, c.if-length-le-LONGEST_FILE.true, length-replicate {A = ℕ} 36048 0)) in
    inr
    (record {
      fits = omega (arith, c.if-out-length.false);
      answered = refl;
      long = omega arith;
      stored = ap₂ (λ (x : List ℕ) (k : ℕ). x ++ drop k out) (c.copy_from_slice.ensures.after ∙ written) long ∙ sym (sets-eq file out 0 (omega (arith, c.if-out-length.false)));
    })
