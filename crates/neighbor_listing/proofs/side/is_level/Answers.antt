use Rattle.neighbor_listing.specs.Sides.{is_level}
use Rattle.neighbor_listing.proofs.side.is_level.Goals as goal

pub returns : goal.returns
returns c = unfold is_level in rw (c.is_tilted.ensures, c.is_calm.ensures, c.is_calm-2.ensures, c.is_calm-3.ensures)
