use Rattle.neighbor_listing.proofs.side.box_holds.Goals as goal

pub returns : goal.returns
returns c = rw (c.is_bounded.ensures, c.in_length.ensures, c.in_length-2.ensures, c.in_length-3.ensures)
