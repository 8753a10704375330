-- What the set's roles and the roles held have in common is counted. Assumes nothing.
use mathlib.Core.Path.{ap, ◌∙◌}
use Prim.Native.Nat.{ℕ}
use lib.Dec.{leb}
use Rattle.roleset.specs.Roles.{count}
use Rattle.model.specs.Words.{breaks}
use Rattle.separation.proofs.breaks.Goals as goal

pub returns-then-set : goal.returns-then-set
unfolding breaks
returns-then-set c = rw c.if-set.true (c.at_least.ensures ∙ ap (λ (s : ℕ). leb c.args.set.card (count s)) c.common.ensures.is)
