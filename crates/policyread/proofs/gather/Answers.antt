-- Every part is read from where the one before it ended, so that the state holds what is gathered. Assumes nothing.
use Rattle.policyread.proofs.Whole.{gathered-left}
use Rattle.policyread.proofs.gather.Goals as goal

pub returns : goal.returns
returns c =
    gathered-left c.args.bytes.now _ _ _ _ _ _ _ _ _ _ _ _ _ _ _ _ _ _ _
    c.start.ensures
    c.read_section.ensures
    c.roles.ensures
    c.put_roles.ensures
    c.read_section-2.ensures
    c.read_section-3.ensures
    c.read_section-4.ensures
    c.read_section-5.ensures
    c.read_section-6.ensures
    c.read_section-7.ensures
    c.count_all.ensures
