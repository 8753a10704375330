-- The set that the next entry names is there. Assumes nothing.
use Rattle.policyread.specs.Steps.{set_added}
use Rattle.policyread.proofs.InOrder.{entry_there}
use Rattle.policyread.proofs.SetsSection.entry.Goals as goal

pub returns : goal.returns
returns c = entry_there (set_added c.args.self.now.kind) c.word.ensures.value c.word.ensures.left c.word-card.ensures.value c.word-card.ensures.left c.roles.ensures c.put_set.ensures
