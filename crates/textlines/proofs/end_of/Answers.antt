-- The part ends at the first stop byte, or at the end of the text. Assumes nothing.
use mathlib.Core.Bool.{Bool, true, false, cond}
use mathlib.Core.List.{List}
use mathlib.Core.Path.{◌≡◌, refl}
use Prim.Native.Nat.{ℕ, ◌-◌}
use native.Mathlib.Omega.{arith}
use lib.Dec.{eqb, ltb}
use lib.ListN.{length, take, drop, length-drop}
use borrow.Author.Tests.{ltb-false}
use Rattle.std.proofs.Common.{Option, Some, None, rules, tests, nat_eq}
use Rattle.std.specs.List.{position_or_len}
use Rattle.std.specs.Option.{MatchOption}
use Rattle.std.proofs.lemmas.Iterator.{YieldsList-from_slice}
use Rattle.std.proofs.lemmas.Iterator.Search.{position_from_yields_List}
use Rattle.std.proofs.lemmas.List.{take_rest}
use Rattle.std.proofs.lemmas.Option.{MatchOption-at_some, MatchOption-at_none}
use Rattle.textlines.specs.Parts.{up_to, part_at}
use Rattle.textlines.proofs.Laws.{up-place, up-short}
use Rattle.textlines.proofs.end_of.Goals as goal
use Rattle.textlines.proofs.end_of.Goals.{After-position}

ends : (stop : ℕ) (l : List ℕ) (r : Option ℕ) → r ≡ cond (ltb (position_or_len (λ b. eqb b stop) l) (length l)) (Some (position_or_len (λ b. eqb b stop) l)) None → MatchOption r (length (up_to stop l) ≡ length l) (λ n. length (up_to stop l) ≡ n)
ends stop l r h = rw (h, ← up-place stop l) (go (ltb (length (up_to stop l)) (length l)) refl)
  where
    go : (t : Bool) → ltb (length (up_to stop l)) (length l) ≡ t → MatchOption (cond t (Some (length (up_to stop l))) None) (length (up_to stop l) ≡ length l) (λ n. length (up_to stop l) ≡ n)
    go true e = refl
    go false e = omega (arith, ltb-false _ _ e, up-short stop l)

found : (c : After-position) → MatchOption c.position.result (length (part_at c.args.stop c.args.s.now c.args.at) ≡ length (drop c.args.at c.args.s.now)) (λ n. length (part_at c.args.stop c.args.s.now c.args.at) ≡ n)
found c =
    let l : List ℕ = take (length c.args.s.now - c.args.at) (drop c.args.at c.args.s.now) in
    rw take_rest at (ends c.args.stop l c.position.result (position_from_yields_List (λ b. nat_eq b c.args.stop) _ _ c.position.result c.position.ensures.ran (YieldsList-from_slice l c.iter.ensures.rest) (λ x b q k. search (rules, tests))))

pub returns-in-Some : goal.returns-in-Some
returns-in-Some c = omega (arith, MatchOption-at_some _ _ _ c.in-Some.is (found (goal.at.returns-in-Some c).After-position))

pub returns-in-None : goal.returns-in-None
returns-in-None c = omega (arith, MatchOption-at_none _ _ c.in-None.is (found (goal.at.returns-in-None c).After-position), length-drop c.args.at c.args.s.now)
