-- What the commands that store a set ask last. Assumes nothing.
use Rattle.std.specs.Prelude.{List, [], ◌∷◌}
use Rattle.model.specs.Model.{Model, RoleSet}
use Rattle.model.specs.Sheet.{Refusal, ◌when◌}
use Rattle.model.specs.commands.Sets.{broken, rule_number}
use Rattle.model.specs.declared.Kind.{Kind}

-- the last refusal of a command that would store the set: its rule would be broken
abbrev pub rule_refusals : Kind → Model → RoleSet → List Refusal
rule_refusals kind m set = rule_number kind when broken kind m set ∷ []
