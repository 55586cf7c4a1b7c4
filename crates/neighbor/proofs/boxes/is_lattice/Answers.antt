use Rattle.neighbor.specs.Rebuild.{same_box}
use Rattle.neighbor.proofs.boxes.is_lattice.Goals as goal

pub returns-in-None : goal.returns-in-None
unfolding same_box
returns-in-None c = cc

pub returns-in-Some : goal.returns-in-Some
unfolding same_box
returns-in-Some c = simp (c.same_lattice.ensures, c.in-Some.is)
