use Rattle.neighbor.specs.Rebuild.{same_vector}
use Rattle.neighbor.proofs.boxes.same_vector.Goals as goal

pub returns : goal.returns
unfolding same_vector
returns c = simp (c.same_number.ensures, c.same_number-2.ensures, c.same_number-3.ensures)
