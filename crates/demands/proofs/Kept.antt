-- Every command keeps a sound policy sound, and so is everything reachable. Assumes nothing.
use Rattle.model.specs.Model.{Model}
use Rattle.model.specs.Sound.{Sound}
use Rattle.sound.proofs.Empty.{empty-sound}
use Rattle.policyfile.proofs.Laws.{load-sound}
use Rattle.demands.specs.Reachable.{Reachable, start, after, loaded}
use Rattle.demands.proofs.Commands.{shown}

pub reachable-sound : {m : Model} → Reachable m → Sound m
reachable-sound start = empty-sound
reachable-sound (after {m = m} p c list) = (shown m c list).kept (reachable-sound p)
reachable-sound (loaded {m = m} p bytes told h) = load-sound m bytes told (reachable-sound p) h
