-- A rule of separation, asked with the lines as they are. Assumes nothing.
use mathlib.Core.Path.{◌≡◌, ap, ◌∙◌}
use Prim.Native.Nat.{ℕ}
use Rattle.model.specs.Model.{Model}
use Rattle.model.specs.commands.Sets.{rule_broken}
use Rattle.model.specs.declared.Kind.{Kind}
use Rattle.sweeps.specs.Sweeps.{asks_rule}
use Rattle.sweeps.proofs.Asking.{asks-lines}

pub rule-asked : (kind : Kind) (m : Model) (lines : ℕ → ℕ) → lines ≡ m.juniors → asks_rule kind m lines ≡ rule_broken kind m
rule-asked kind m lines e = ap (asks_rule kind m) e ∙ asks-lines kind m m.juniors m.line_count

pub ruleset asking = (rule-asked)
