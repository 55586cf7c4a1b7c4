use Rattle.neighbor_listing.proofs.side.gap_of.Goals as goal

pub returns : goal.returns
returns c = rw (c.gap.ensures, c.gap-2.ensures, c.gap-3.ensures)
