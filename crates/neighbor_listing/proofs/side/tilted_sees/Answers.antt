use Rattle.neighbor_listing.proofs.Shortcuts.{tilted_says}
use Rattle.neighbor_listing.proofs.side.tilted_sees.Goals as goal

pub returns : goal.returns
returns c = tilted_says _ _ c.fractions-f.ensures c.near.ensures c.near-2.ensures c.near-3.ensures c.matrix.ensures c.times.ensures c.norm2.ensures
