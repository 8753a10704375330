-- The rows hold the grants of the permissions passed; they are written in the order of their numbers. Assumes nothing.
use mathlib.Core.Bool.{Bool, ◌||◌}
use mathlib.Core.Path.{◌≡◌, ap, ◌∙◌}
use native.Mathlib.Omega.{arith}
use Rattle.roleset.specs.Bounded.{members}
use Rattle.roleset.proofs.MembersLaws.{members-ext}
use Rattle.hierarchy.specs.Lines.{table_of}
use Rattle.text.specs.Bytes.{section}
use Rattle.policyform.specs.Encode.{pair_in, grant_in, grant_entry}
use Rattle.policywrite.specs.Parts.{granted, row, below}
use Rattle.policywrite.proofs.Appended.{writes_as}
use Rattle.policywrite.proofs.Numbered.{below-rows}
use Rattle.policywrite.proofs.Turning.{turn-start, turn_step, turn_end}
use Rattle.policywrite.proofs.put_grants.Goals as goal

pub loop-p-init : goal.loop-p-init
loop-p-init c = turn-start (table_of c.args.holders.now)

pub loop-p-preserved : goal.loop-p-preserved
loop-p-preserved c =
    let holders = table_of c.args.holders.now in
    let p = c.loop-p.p in
    λ k l. c.mark.ensures k l ∙ ap (λ (b : Bool). b || granted (holders p) p k) (c.loop-p.invariant k l) ∙ turn_step holders p k

pub returns : goal.returns
returns c =
    let rows = table_of c.loop-p.rows in
    let holders = table_of c.args.holders.now in
    let full : c.loop-p.p ≡ 4096 = omega arith in
    let same : below (row rows) 4096 ≡ members 262144 (grant_in holders) =
    below-rows rows 4096 ∙ members-ext 262144 (pair_in rows) (grant_in holders) (λ k l. c.loop-p.invariant k l ∙ rw full (turn_end holders k)) in
    writes_as (ap (section grant_entry) same) c.put_section.ensures
