-- The session that the next entry names is open. Assumes nothing.
use Rattle.policyread.specs.Steps.{session_added}
use Rattle.policyread.proofs.InOrder.{entry_there}
use Rattle.policyread.proofs.SessionsSection.entry.Goals as goal

pub returns : goal.returns
returns c = entry_there (session_added) c.word.ensures.value c.word.ensures.left c.word-2.ensures.value c.word-2.ensures.left c.roles.ensures c.open_session.ensures
