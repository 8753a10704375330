-- What a command tells that opens no session, as a step hands it back. Assumes nothing.
use mathlib.Core.List.{List}
use mathlib.Core.Path.{◌≡◌, refl}
use Prim.Native.Nat.{ℕ}
use Rattle.std.specs.Prelude.{Ok, Err}
use Rattle.numbers.specs.Answers.{Answer}
use Rattle.state.specs.View.{told}
use Rattle.state.specs.Results.{told_of}
use Rattle.engine.specs.Plain.{no_session}
use Rattle.engine.specs.Stepping.{told_stepped}

pub plain_tells : (a : Answer) (l : List ℕ) → told_stepped (no_session a) l ≡ told a l
unfolding told told_of
plain_tells (Ok _) l = refl
plain_tells (Err _) l = refl
