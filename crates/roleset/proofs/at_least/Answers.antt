-- There is a member that n - 1 come before. Assumes nothing.
use Prim.Native.Nat.{ℕ, ◌+◌, ◌-◌}
use mathlib.Core.List.{List}
use mathlib.Core.Path.{◌≡◌, ap, sym, ◌∙◌}
use native.Mathlib.Omega.{arith}
use borrow.Author.Tests.{le-leb, lt-leb}
use lib.Dec.{leb}
use lib.ListN.{length}
use Rattle.std.proofs.Common.{Option, inl, inr}
use Rattle.std.specs.Option.{is_some}
use Rattle.std.specs.List.{slice_get}
use Rattle.std.proofs.lemmas.Option.{slice_get_cases}
use Rattle.std.proofs.lemmas.Iterator.Adapters.{option_map_id}
use Rattle.std.proofs.lemmas.Iterator.Consumers.{YieldsList-from_first, nth_from_yields_List}
use Rattle.roleset.specs.Roles.{has, count}
use Rattle.roleset.specs.Bounded.{members}
use Rattle.roleset.proofs.MembersLaws.{members-length}
use Rattle.roleset.proofs.at_least.Goals as goal

-- an element at place k says that there are more than k
more : (xs : List ℕ) (k n : ℕ) (r : Option ℕ) → r ≡ slice_get xs k → n ≡ k + 1 → is_some r ≡ leb n (length xs)
more xs k n r e m = elim (slice_get_cases xs k).1 [
  | inl (x, within, is, at) ↦ ap is_some (e ∙ is) ∙ sym (le-leb n (length xs) (omega (arith, within, m)))
  | inr (past, is) ↦ ap is_some (e ∙ is) ∙ sym (lt-leb n (length xs) (omega (arith, past, m)))
]

pub returns-else-n-eq0 : goal.returns-else-n-eq0
unfolding count
returns-else-n-eq0 c =
    let s = c.args.s in
    let all = members 64 (has s) in
    let met = nth_from_yields_List {v = λ x. x} c.nth.result c.nth.new.self (c.args.n - 1) c.nth.ensures.ran (YieldsList-from_first (λ x. x) (λ m. members 64 (has m.rest)) all cc) in
    let there = more all (c.args.n - 1) c.args.n c.nth.result (sym (option_map_id c.nth.result) ∙ met) (omega (arith, c.if-n-eq0.false)) in
    c.is_some.ensures ∙ there ∙ ap (leb c.args.n) (members-length 64 (has s))
