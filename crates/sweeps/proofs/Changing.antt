-- Tables of their own, changed before they are stored: one place put, and a role stripped; and such a table as a part. Assumes nothing.
use mathlib.Core.List.{List}
use mathlib.Core.Path.{◌≡◌, ap, ap₂, ◌∙◌}
use Prim.Native.Nat.{ℕ, ◌<◌}
use native.Mathlib.Omega.{arith}
use lib.ListN.{set, length-set}
use Rattle.roleset.specs.Roles.{without}
use Rattle.model.specs.Model.{put}
use Rattle.model.specs.commands.Users.{holding}
use Rattle.state.specs.Stores.{Table}
use Rattle.state.specs.View.{part}
use Rattle.state.proofs.Slots.{whole}
use Rattle.state.proofs.Tables.{set_put}
use Rattle.sweeps.specs.Sweeps.{Strips}
use Rattle.sweeps.proofs.Strips.{stripped-table, stripped-length}

-- a table as a part of its array
pub as-part : {n : ℕ} {f : ℕ → ℕ} (x : List ℕ) → Table n f x → part x 0 n ≡ f
as-part {n} x t = whole x n t.long ∙ t.each

-- one place is put
pub table-put : {n : ℕ} {f : ℕ → ℕ} (x : List ℕ) (i v : ℕ) → i < n → Table n f x → Table n (put f i v) (set x i v)
table-put x i v h t = record { long = length-set x i v ∙ t.long; each = set_put x i v 0 (omega (arith, t.long)) ∙ ap (λ (f : ℕ → ℕ). put f i v) t.each }

-- a role is stripped, and counted
pub table-stripped : {n : ℕ} {f : ℕ → ℕ} (x after : List ℕ) (r gone : ℕ) → Table n f x → Strips x after r gone → Table n (λ k. without (f k) r) after
table-stripped x after r gone t s = record { long = stripped-length s ∙ t.long; each = stripped-table s ∙ ap (λ (f : ℕ → ℕ). λ (k : ℕ). without (f k) r) t.each }

pub table-had : {n : ℕ} {f : ℕ → ℕ} (x after : List ℕ) (r gone : ℕ) → Table n f x → Strips x after r gone → gone ≡ holding n f r
table-had x after r gone t s = s.had ∙ ap₂ (λ (k : ℕ) (g : ℕ → ℕ). holding k g r) t.long t.each
