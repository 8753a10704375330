-- The sets of a table are asked one by one; past the last there are no roles. Assumes nothing.
use Rattle.std.proofs.Common.{rules}
use mathlib.Core.Bool.{true}
use mathlib.Core.Path.{◌≡◌}
use Prim.Native.Nat.{ℕ}
use Rattle.std.proofs.lemmas.Iterator.{YieldsList-from_slice}
use Rattle.roleset.specs.Roles.{has}
use Rattle.state.specs.View.{view}
use Rattle.policycheck.proofs.Passing.{told-all, told-table}
use Rattle.policycheck.proofs.within.Goals as goal

pub returns : goal.returns
returns c =
    let roles = (view c.args.state.now).roles in
    told-table roles c.args.table.now (λ k. (c.type_inv.table k).fits)
    (told-all _ (λ set. (r : ℕ) → has set r ≡ true → has roles r ≡ true) c.all.ensures.ran (YieldsList-from_slice c.args.table.now cc) (λ x b q h. search rules))
