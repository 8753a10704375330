-- At the start it is looked from 0 on. Assumes nothing.
use mathlib.Core.Path.{refl}
use Rattle.sweeps.proofs.lowest_free.Goals as goal

pub loop-number-init : goal.loop-number-init
loop-number-init c = refl
