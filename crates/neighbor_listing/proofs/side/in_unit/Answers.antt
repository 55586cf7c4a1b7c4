use Rattle.neighbor_listing.proofs.side.in_unit.Goals as goal

pub returns : goal.returns
returns c = simp (c.abs.ensures, c.abs-2.ensures, c.abs-3.ensures)
