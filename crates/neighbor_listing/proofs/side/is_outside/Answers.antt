use Rattle.neighbor_listing.specs.Sides.{nearer_in, is_outside}
use Rattle.neighbor_listing.proofs.side.is_outside.Goals as goal

pub returns : goal.returns
returns c = unfold is_outside in unfold nearer_in in rw (c.norm2.ensures, c.abs.ensures, c.nearer.ensures, c.nearer-2.ensures, c.nearer-3.ensures, c.least_rows-from.ensures, c.greatest_rows-to.ensures)
