use Rattle.neighbor.proofs.boxes.is_same.Goals as goal

pub returns-in-None : goal.returns-in-None
returns-in-None c = simp (c.is_absent.ensures, c.in-None.is)

pub returns-in-Some : goal.returns-in-Some
returns-in-Some c = simp (c.is_lattice.ensures, c.in-Some.is)
