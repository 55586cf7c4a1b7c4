use Rattle.neighbor.specs.Rebuild.{same_lattice}
use Rattle.neighbor.proofs.boxes.same_lattice.Goals as goal

pub returns : goal.returns
unfolding same_lattice
returns c = simp (c.same_vector.ensures, c.same_vector-2.ensures, c.same_vector-3.ensures, c.same_flag.ensures, c.same_flag-2.ensures, c.same_flag-3.ensures)
