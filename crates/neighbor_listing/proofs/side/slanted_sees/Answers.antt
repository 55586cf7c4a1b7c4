use Rattle.neighbor_listing.specs.Sides.{slanted_sees}
use Rattle.neighbor_listing.proofs.side.slanted_sees.Goals as goal

pub returns : goal.returns
returns c = unfold slanted_sees in rw (c.norm2.ensures, c.times.ensures, c.matrix.ensures, c.add.ensures, c.fractions-f.ensures, c.sub.ensures)
