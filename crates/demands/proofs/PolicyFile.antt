-- A saved policy loads as itself, and a file that loads is saved again byte for byte. Assumes nothing.
use Rattle.demands.specs.PolicyFile.{Faithful}
use Rattle.demands.proofs.Kept.{reachable-sound}
use Rattle.policyfile.proofs.Laws.{load-after-save, save-after-load, sound-size, save-fits}

pub faithful : Faithful
faithful = record { itself = λ m before told p h. load-after-save before m told (reachable-sound p) h; again = save-after-load; size = λ m p. sound-size m (reachable-sound p); room = λ m out after answer size p l h. save-fits m out after answer size (reachable-sound p) l h }
