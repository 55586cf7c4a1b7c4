use Rattle.neighbor_listing.proofs.side.fractions.Goals as goal

pub returns : goal.returns
returns c = simp (c.dot.ensures, c.dot-2.ensures, c.dot-3.ensures)
