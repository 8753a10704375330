-- The count of the lines answered 0 and of the others. Assumes nothing.
use Rattle.std.specs.Prelude.{Bool, true, false, ℕ, ◌+◌, min}
use Rattle.textlines.specs.declared.Tally.{Tally}

-- a counter stays at its most
unfoldable pub one_more : ℕ → ℕ
one_more n = min (n + 1) 65535

-- one line more
unfoldable pub counted : Tally → Bool → Tally
counted t ok = elim ok [ true ↦ record { done = one_more t.done; others = t.others } | false ↦ record { done = t.done; others = one_more t.others } ]
