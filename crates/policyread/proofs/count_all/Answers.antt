-- Each table is counted, and its count is stored. Assumes nothing.
use Rattle.policyread.proofs.Whole.{table-count, all-counted}
use Rattle.policyread.proofs.count_all.Goals as goal

pub returns : goal.returns
returns c =
    all-counted _ _ _ _ _ _ _ _ _ _
    (table-count _ c.juniors.ensures c.members-lines.ensures)
    (table-count _ c.assigned.ensures c.members-assignments.ensures)
    (table-count _ c.holders.ensures c.members-grants.ensures)
    c.directly_below-below.ensures
    c.put_juniors.ensures
    c.assigned_to-held.ensures
    c.put_assigned.ensures
    c.holders_of-holding.ensures
    c.put_holders.ensures
