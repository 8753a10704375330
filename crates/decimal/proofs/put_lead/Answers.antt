-- A digit is put where the number reaches its place, and nothing otherwise. Assumes nothing.
use Rattle.text.proofs.Putting.{put-none}
use Rattle.decimal.proofs.Laws.{lead-there, lead-gone}
use Rattle.decimal.proofs.put_lead.Goals as goal

pub returns-then-reaches : goal.returns-then-reaches
returns-then-reaches c = rw (lead-there c.args.place c.args.n c.if-reaches.true) c.put.ensures

pub returns : goal.returns
returns c = rw (lead-gone c.args.place c.args.n c.if-reaches.false) (put-none _ _)
