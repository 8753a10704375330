-- What was written is compared with the bytes. Assumes nothing.
use mathlib.Core.Path.{◌≡◌, sym, ◌∙◌}
use Prim.Native.Nat.{ℕ}
use native.Mathlib.Omega.{arith}
use lib.ListN.{take, length-replicate}
use Rattle.std.specs.Bool.{Decides}
use Rattle.std.proofs.lemmas.Bool.Decides.{Decides-eqb}
use Rattle.std.proofs.lemmas.Slice.Eq.{slice_eq-Decides}
use Rattle.policyfile.proofs.Front.{front}
use Rattle.policyfile.proofs.is_file.Goals as goal

pub returns-then-length-bytes : goal.returns-then-length-bytes
returns-then-length-bytes c =
    let same : Decides c.eq.result (take c.write-length.result c.write-length.new.out ≡ c.args.bytes.now) = slice_eq-Decides Decides-eqb _ _ _ c.eq.ensures in
    let written = front c.write-length.ensures (omega (arith, c.requires, c.if-length-bytes.true, length-replicate {A = ℕ} 36048 0)) in
    record { holds = λ e. sym written ∙ same.0 e; says = λ p. same.1 (written ∙ p) }
