use Rattle.neighbor_listing.proofs.side.tilted_holds.Goals as goal

pub returns : goal.returns
returns c = rw (c.is_tilted.ensures, c.in_unit.ensures, c.fractions.ensures)
