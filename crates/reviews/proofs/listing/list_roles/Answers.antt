-- Each role alone meets the set where it is a member. Assumes nothing.
use mathlib.Core.Path.{◌≡◌, sym, ap, ◌∙◌}
use native.Mathlib.Omega.{arith}
use lib.ListN.{length}
use Rattle.roleset.specs.Roles.{has, none, with}
use Rattle.reviews.specs.Reviewing.{meets}
use Rattle.reviews.proofs.Meeting.{meeting-members, meets-turned, has-meets}
use Rattle.reviews.proofs.listing.list_roles.Goals as goal

pub returns : goal.returns
returns c m =
    let roles = c.args.roles in
    let table = c.singles.result in
    let whole : length table ≡ 64 = omega arith in
    rw (meeting-members roles table 64 (has roles) whole (λ r h. has-meets roles r h ∙ meets-turned (with none r) roles ∙ ap (meets roles) (sym (c.singles.ensures r h)))) (c.list.ensures m)
