-- The two numbers of the set are stored: one more than the cardinality, and the roles. Assumes nothing.
use mathlib.Core.Path.{◌≡◌, sym, ap, ◌∙◌}
use native.Mathlib.Omega.{arith}
use Prim.Native.Nat.{◌+◌, ◌<◌}
use borrow.Author.Tests.{leb-false}
use lib.ListN.{length}
use Rattle.state.specs.Places.{places}
use Rattle.state.specs.Stores.{set_stored}
use Rattle.state.specs.View.{view}
use Rattle.state.proofs.Stored.{in-range, set_stored_lem, one-more-set}
use Rattle.state.proofs.stores.put_set.Goals as goal

pub returns : goal.returns
returns c =
    let at = c.args in
    let l = at.state.now in
    let here : at.name.number < 16 = grind (arith, leb-false) in
    let long : length l ≡ places = omega arith in
    rw c.sets_from-from.ensures (set_stored_lem at.kind l at.name.number long here (at.card + 1) at.roles)
    ∙ ap (set_stored at.kind (view l) at.name.number) (one-more-set at.card at.roles)
    ∙ sym (in-range 16 at.name.number (view l) _ here)
