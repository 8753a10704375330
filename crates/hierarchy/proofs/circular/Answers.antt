-- The number with 64 ones is the set of all roles, which computes. Assumes nothing.
use Rattle.roleset.specs.Roles.{those, pack}
use Rattle.hierarchy.specs.Walks.{circular}
use Rattle.hierarchy.proofs.CircleLaws.{tells_circle}
use Rattle.hierarchy.proofs.circular.Goals as goal

pub returns : goal.returns
unfolding circular those pack
returns c = tells_circle _ _ c.longer_chain.ensures
