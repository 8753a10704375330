-- The number where it has sixteen bits, and else the largest of sixteen. Assumes nothing.
use mathlib.Core.Path.{◌≡◌}
use Prim.Native.Nat.{ℕ, ◌<◌, min}
use native.Mathlib.Omega.{arith}
use Rattle.std.proofs.Common.{Result, Ok, Err}
use Rattle.std.specs.Result.{OkIff, result_unwrap_or}
use Rattle.clibrary.proofs.sixteen.Goals as goal

bits : {E : Type 0} (n : ℕ) (r : Result ℕ E) → OkIff r (n < 65536) n → result_unwrap_or r 65535 ≡ min n 65535
bits n (Ok k) e = omega (arith, e.0, e.1)
bits n (Err _) e = omega arith

pub returns : goal.returns
returns c = rw c.unwrap_or.ensures (bits c.args.n c.try_from.result c.try_from.ensures)
