use Rattle.neighbor_listing.proofs.side.still_sees.Goals as goal

pub returns : goal.returns
returns c = rw (c.norm2.ensures, c.sub.ensures)
