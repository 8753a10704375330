-- A chain of all 64 roles can be reached: every role is added, and then a line from each to the next. Assumes nothing.
use mathlib.Core.Bool.{Bool, true, ◌&&◌}
use mathlib.Core.List.{[]}
use mathlib.Core.Path.{◌≡◌, refl}
use Prim.Native.Nat.{ℕ, zero, suc}
use Rattle.roleset.specs.Bounded.{some}
use Rattle.roleset.specs.Roles.{has, pack, those, with, union, is_empty}
use Rattle.roleset.proofs.BoundedLaws.{and_left, and_right}
use Rattle.hierarchy.specs.Lines.{line, Chain, alone, down}
use Rattle.hierarchy.specs.Walks.{juniors_of, walk, reach}
use Rattle.model.specs.Model.{Model, empty, put}
use Rattle.model.specs.Sheet.{verdict, settle}
use Rattle.model.specs.Step.{step}
use Rattle.model.specs.Words.{breaks, breaks_some, static_broken, dynamic_broken}
use Rattle.model.specs.commands.Users.{role}
use Rattle.model.specs.commands.Inheriting.{lined, inherit}
use Rattle.model.specs.declared.Command.{Command}
use Rattle.model.specs.declared.Command.TheVariants.{AddRole, Inherit}
use Rattle.demands.specs.Reachable.{Reachable, start, after}
use Rattle.edges.specs.LongestChain.{LongestChain}

-- the policy after n commands, from the k-th on
unfoldable pub after-all : (ℕ → Command) → ℕ → ℕ → Model → Model
after-all c k zero m = m
after-all c k (suc n) m = after-all c (suc k) n (step m (c k) []).after

pub reached-all : (c : ℕ → Command) (k n : ℕ) (m : Model) → Reachable m → Reachable (after-all c k n m)
unfolding after-all
reached-all c k zero m p = p
reached-all c k (suc n) m p = reached-all c (suc k) n (step m (c k) []).after (after p (c k) [])

-- a line leads from each of n roles, the first of them s, to the next
linked : (ℕ → ℕ) → ℕ → ℕ → Bool
linked lines zero s = true
linked lines (suc n) s = line lines s (suc s) && linked lines n (suc s)

linked-chain : (lines : ℕ → ℕ) (n s : ℕ) → linked lines n s ≡ true → Chain lines (suc n) s
unfolding linked
linked-chain lines zero s e = alone
linked-chain lines (suc n) s e = down (and_left (line lines s (suc s)) (linked lines n (suc s)) e) (linked-chain lines n (suc s) (and_right (line lines s (suc s)) (linked lines n (suc s)) e))

unfoldable pub all-roles : Model
all-roles = after-all (λ k. AddRole (record { number = k })) 0 64 empty

chained : Model
chained = after-all (λ k. Inherit (record { number = k }) (record { number = suc k })) 0 63 all-roles

in-line : linked chained.juniors 63 0 ≡ true
unfolding linked chained all-roles after-all some has pack those with union is_empty juniors_of walk reach empty put verdict settle step breaks breaks_some static_broken dynamic_broken role lined inherit
in-line = refl

-- A chain of exactly 64 roles can be reached.
pub longest-chain : LongestChain
unfolding chained all-roles
longest-chain = record { policy = chained; reached = reached-all _ 0 63 _ (reached-all _ 0 64 _ start); chain = linked-chain chained.juniors 63 0 in-line }
