use Rattle.neighbor_listing.proofs.Partners.{clear_within, clear_past}
use Rattle.neighbor_listing.proofs.tops.is_clear.Goals as goal

pub returns-then-a-tops : goal.returns-then-a-tops
returns-then-a-tops c = clear_within _ _ _ c.if-a-tops.true

pub returns : goal.returns
returns c = clear_past _ _ _ c.if-a-tops.false
