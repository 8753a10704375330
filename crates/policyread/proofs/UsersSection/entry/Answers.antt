-- The user that the next number names exists. Assumes nothing.
use mathlib.Core.Path.{ap, ◌∙◌}
use Rattle.state.specs.View.{view}
use Rattle.policyread.specs.Steps.{user_added, read_user}
use Rattle.policyread.proofs.InOrder.{from_past, word_there}
use Rattle.policyread.proofs.UsersSection.entry.Goals as goal

pub returns : goal.returns
unfolding read_user
returns c = record {
  left = λ bytes at e. from_past 2 e c.word-number.ensures.left;
  is = λ bytes at e. c.put_user.ensures ∙ ap (user_added (view c.args.state.now)) (word_there e c.word-number.ensures.value);
}
