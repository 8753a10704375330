-- The lines of a policy that may stand in a file. Assumes nothing.
use Rattle.roleset.proofs.Laws.{member-small}
use Rattle.hierarchy.specs.Lines.{Small}
use Rattle.model.specs.Model.{Model}
use Rattle.policyform.specs.Form.{Formed}

-- They join roles 0 to 63.
pub formed-lines : (m : Model) → Formed m → Small m.juniors
formed-lines m f = record { within = λ s j e. (member-small m.roles s f.roles (f.seniors s j e), member-small m.roles j f.roles ((f.juniors s).exist j e)) }
