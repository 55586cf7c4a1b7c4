use Rattle.neighbor_listing.specs.Sides.{upper_sees}
use Rattle.neighbor_listing.proofs.side.upper_sees.Goals as goal

pub returns : goal.returns
returns c = unfold upper_sees in rw (c.norm2.ensures, c.dot.ensures, c.sub-d.ensures)
