-- The members of all sets of a table are added up. Assumes nothing.
use Rattle.std.proofs.Common.{rules, ◌≡◌, ◌∙◌, sym, ap, ℕ, zero, suc, ◌+◌, arith, List, [], ◌∷◌, length, sum_by}
use Rattle.std.proofs.lemmas.List.Sums.{sum_by-cons}
use Rattle.roleset.specs.Bounded.{total}
use Rattle.roleset.specs.Roles.{count}
use Rattle.roleset.proofs.BoundedLaws.{total-start}
use Rattle.hierarchy.specs.Lines.{table_of}
use Rattle.model.specs.Model.{standing}
use Rattle.policyread.proofs.members.Goals as goal

-- the first of the numbers added apart from the others
total-first : (n : ℕ) (f : ℕ → ℕ) → total (suc n) f ≡ f 0 + total n (λ i. f (suc i))
unfolding total
total-first zero f = omega arith
total-first (suc n) f = omega (arith, total-first n f)

total-list : (xs : List ℕ) → total (length xs) (λ i. count (table_of xs i)) ≡ sum_by count xs
total-list [] = total-start (λ i. count (table_of [] i))
total-list (x ∷ xs) = total-first (length xs) (λ i. count (table_of (x ∷ xs) i)) ∙ ap (λ (n : ℕ). count x + n) (total-list xs) ∙ sym (sum_by-cons count x xs)

pub returns : goal.returns
unfolding standing
returns c = let summed : c.sum.result ≡ sum_by count c.args.table.now = search rules in summed ∙ sym (total-list c.args.table.now)
