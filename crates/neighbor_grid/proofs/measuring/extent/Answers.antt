use Rattle.neighbor_grid.proofs.measuring.extent.Goals as goal

pub returns : goal.returns
returns c = simp (c.upper.ensures, c.sub.ensures, c.alike_of.ensures)
