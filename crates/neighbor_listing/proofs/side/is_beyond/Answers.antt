use Rattle.neighbor_listing.proofs.side.is_beyond.Goals as goal

pub returns : goal.returns
returns c = rw (c.norm2.ensures, c.gap_of.ensures)
