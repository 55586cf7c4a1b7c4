use Rattle.neighbor_listing.proofs.Shortcuts.{box_says}
use Rattle.neighbor_listing.proofs.side.box_sees.Goals as goal

pub returns : goal.returns
returns c = box_says _ _ _ c.side.ensures c.side-2.ensures c.side-3.ensures c.norm2.ensures
