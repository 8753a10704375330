-- What `grant` and `revoke` share: past refusal 1 the permission is a place of its table, so that the store there puts what is to be stored, and
-- the count. Assumes nothing.
use borrow.Author.Tests.{leb-false}
use mathlib.Core.Bool.{false, ◌||◌}
use mathlib.Core.Path.{◌≡◌}
use Prim.Native.Nat.{ℕ, ◌<◌}
use native.Mathlib.Omega.{arith}
use lib.Dec.{leb}
use Rattle.roleset.proofs.BoundedLaws.{or-clear}
use Rattle.model.specs.Model.{Model, put, with_grants}
use Rattle.model.specs.Words.{permission}
use Rattle.model.specs.commands.Naming.{role_beyond, permission_beyond}
use Rattle.state.specs.Stores.{in_range}
use Rattle.state.proofs.Stored.{placed-as}

pub permission-within : (op obj r : ℕ) → (permission_beyond op obj || role_beyond r) ≡ false → permission op obj < 4096
permission-within op obj r h =
    let clear = or-clear (leb 16 op) (leb 256 obj) (or-clear (permission_beyond op obj) (role_beyond r) h).0 in
    omega (arith, leb-false 16 op clear.0, leb-false 256 obj clear.1)

-- the roles stored for a permission, and the count, are these
pub holders-stored : (m after : Model) (p roles new standing count : ℕ) → roles ≡ new → standing ≡ count → p < 4096 → after ≡ in_range 4096 p m (with_grants m (put m.holders p roles) standing) → after ≡ with_grants m (put m.holders p new) count
holders-stored m after p = placed-as 4096 p m after (λ x n. with_grants m (put m.holders p x) n)
