-- A command that opens no session, read as a step. Assumes nothing.
use Rattle.std.specs.Prelude.{Option, None, Result, Ok, Err}
use Rattle.numbers.specs.Answers.{Answer}
use Rattle.numbers.specs.declared.Refusal.{Refusal}
use Rattle.numbers.specs.declared.Session.{Session}

-- what a command hands back that opens no session, done or refused
abbrev pub no_session : Answer → Result (Option Session) Refusal
no_session (Ok _) = Ok None
no_session (Err refusal) = Err refusal
