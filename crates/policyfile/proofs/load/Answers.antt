-- A load is refused with 14, or by the lowest rule that the file breaks, or it is done. Assumes nothing.
use borrow.Author.Tests.{not-true, not-false}
use mathlib.Core.Logic.{inl, inr}
use mathlib.Core.Path.{◌≡◌, refl, sym, ap, subst, ◌∙◌}
use native.Mathlib.Omega.{arith}
use lib.ListN.{length}
use Rattle.std.proofs.Common.{Err, rules}
use Rattle.roleset.proofs.BoundedLaws.{clash}
use Rattle.model.specs.Model.{Model}
use Rattle.model.specs.Sound.{Counted}
use Rattle.state.specs.View.{view, told}
use Rattle.policyform.specs.Encode.{encode}
use Rattle.policyform.specs.Form.{FileOf}
use Rattle.policyform.proofs.Size.{encode-size}
use Rattle.policyread.proofs.Whole.{gathered-file, gathered-counted}
use Rattle.policycheck.specs.Tests.{Fits}
use Rattle.policycheck.proofs.Forming.{fits-formed, formed-fits}
use Rattle.policyfile.proofs.Settling.{settled-done, settled-err}
use mathlib.Core.Bool.{not}
use Rattle.policyfile.proofs.load.Goals as goal
use Rattle.policyfile.proofs.load.Goals.{Else-not-is_file, then-not-formed-via-then-not-formed, then-not-formed-via-else-not-formed+then-not-is_file}

-- longer than any file
pub returns-then-bytes-gt-LONGEST_FILE : goal.returns-then-bytes-gt-LONGEST_FILE
unfolding told
returns-then-bytes-gt-LONGEST_FILE c = inl (record { no_file = λ m f. omega (arith, encode-size m f.formed, ap length f.written, c.if-bytes-gt-LONGEST_FILE.true); tells = refl })

pub returns-then-not-formed : goal.returns-then-not-formed
unfolding told
returns-then-not-formed c = inl (record {
  no_file = λ m f. elim c.then-not-formed.branch [
    | then-not-formed-via-then-not-formed w ↦ clash c.formed.result (c.formed.ensures.says (subst (λ (x : Model). Fits x) (sym (c.gather.ensures ∙ gathered-file _ m f)) (formed-fits m f.formed))) (not-true _ (ap not w.if-not-formed.true))
    | then-not-formed-via-else-not-formed+then-not-is_file w ↦ clash w.is_file.result (w.is_file.ensures.says (ap encode (c.gather.ensures ∙ gathered-file _ m f) ∙ f.written)) (not-true _ (ap not w.if-not-is_file.true))
  ];
  tells = refl;
})

-- the bytes are the file of the state that was gathered
file : (c : Else-not-is_file) → FileOf (view c.gather.new.state) c.args.bytes.now
file c = let counts = subst (λ (x : Model). Counted x) (sym c.gather.ensures) (gathered-counted _) in
    record { formed = fits-formed _ (c.formed.ensures.holds (not-false _ (ap not c.if-not-formed.false))) counts; written = c.is_file.ensures.holds (not-false _ (ap not c.if-not-is_file.false)) }

pub returns-in_err-broken : goal.returns-in_err-broken
unfolding told
returns-in_err-broken c =
    let passed_on : c.from_residual.result ≡ Err c.in_err-broken.field-0.0 = search rules in
    rw passed_on (inr (record { model = _; file = file (goal.at.returns-in_err-broken c).Else-not-is_file; tells = settled-err _ _ _ _ c.in_err-broken.ensures }))

pub returns : goal.returns
unfolding told
returns c = inr (record { model = _; file = file (goal.at.returns c).Else-not-is_file; tells = settled-done _ _ _ _ _ c.in_ok-broken.ensures refl c.put_all.ensures })
