use Rattle.neighbor_listing.proofs.Partners.{clear_spares, unclear_looks, top_spares}
use Rattle.neighbor_listing.proofs.tops.is_excluded.Goals as goal

pub returns-then-is_clear : goal.returns-then-is_clear
returns-then-is_clear c = clear_spares _ _ _ _ c.is_clear.ensures c.if-is_clear.true

pub returns-then-is_top : goal.returns-then-is_top
returns-then-is_top c = top_spares _ _ _ _ c.is_clear.ensures c.if-is_clear.false c.is_top.ensures c.if-is_top.true

pub returns : goal.returns
returns c = unclear_looks _ _ _ _ c.is_clear.ensures c.if-is_clear.false c.is_top.ensures c.if-is_top.false c.excluded.ensures
