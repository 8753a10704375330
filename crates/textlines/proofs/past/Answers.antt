-- The part ends within the text. Assumes nothing.
use native.Mathlib.Omega.{arith}
use Rattle.textlines.proofs.Laws.{part_within}
use Rattle.textlines.proofs.past.Goals as goal

pub overflow_add-end : goal.overflow_add-end
overflow_add-end c = omega (arith, c.end_of-end.ensures, part_within c.args.stop c.args.s.now c.min.result (omega arith))
