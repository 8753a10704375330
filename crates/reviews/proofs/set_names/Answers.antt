-- The places of the sets that are there: each holds role 0, and no other place does. Assumes nothing.
use mathlib.Core.Path.{◌≡◌, sym, ap, ◌∙◌}
use native.Mathlib.Omega.{arith}
use lib.ListN.{length}
use Rattle.model.specs.Questions.{ask, set_names}
use Rattle.model.specs.commands.Sets.{sets_of}
use Rattle.state.specs.View.{view}
use Rattle.reviews.specs.Reviewing.{meets}
use Rattle.reviews.proofs.Meeting.{meeting-members, meets-bit}
use Rattle.reviews.proofs.set_names.Goals as goal

pub returns : goal.returns
unfolding ask set_names
returns c =
    let m = view c.args.state.now in
    let table = c.there in
    let whole : length table.result ≡ 16 = omega arith in
    rw (meeting-members 1 table.result 16 (λ n. (sets_of c.args.kind m n).there) whole (λ n h. meets-bit (sets_of c.args.kind m n).there ∙ ap (meets 1) (sym (table.ensures n h)))) (c.list.ensures m)
