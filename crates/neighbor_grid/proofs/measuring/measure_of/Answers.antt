use Rattle.neighbor_grid.proofs.measuring.measure_of.Goals as goal

pub returns-in-None : goal.returns-in-None
returns-in-None c = cc

pub returns-in-Some : goal.returns-in-Some
returns-in-Some c = simp (c.measure_lattice.ensures, c.in-Some.is)
