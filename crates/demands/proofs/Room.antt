-- The script's buffers hold the longest result. Assumes nothing.
use native.Mathlib.Omega.{arith}
use Rattle.demands.specs.Room.{NeverShort}
use Rattle.demands.proofs.Commands as commands
use Rattle.demands.proofs.Questions as questions

pub never-short : NeverShort
never-short = record { commands = λ m c list. (commands.shown m c list).never_15; questions = λ m q. (questions.shown m 4096 q).never_15 (omega arith) }
