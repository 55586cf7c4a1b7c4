use Rattle.neighbor_listing.proofs.Partners.{top_within, top_past}
use Rattle.neighbor_listing.proofs.tops.is_top.Goals as goal

pub returns-then-a-tops : goal.returns-then-a-tops
returns-then-a-tops c = top_within _ _ _ c.if-a-tops.true

pub returns : goal.returns
returns c = top_past _ _ _ c.if-a-tops.false
