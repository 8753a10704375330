-- The operations are the places of a table of their holders. Assumes nothing.
use mathlib.Core.Path.{◌≡◌, sym, ap}
use native.Mathlib.Omega.{arith}
use lib.ListN.{length}
use Rattle.model.specs.Words.{permission}
use Rattle.model.specs.Questions.{holds}
use Rattle.state.specs.View.{view}
use Rattle.reviews.specs.Reviewing.{meets}
use Rattle.reviews.proofs.Meeting.{meeting-members}
use Rattle.reviews.proofs.listing.list_ops.Goals as goal

pub returns : goal.returns
returns c m =
    let a = c.args in
    let table = c.holders_on in
    let whole : length table.result ≡ 16 = omega arith in
    rw (meeting-members a.roles table.result 16 (λ op. holds (view a.state.now) a.roles (permission op a.obj)) whole (λ op h. ap (meets a.roles) (sym (table.ensures op h)))) (c.list.ensures m)
