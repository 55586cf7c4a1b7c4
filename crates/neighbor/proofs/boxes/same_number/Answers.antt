use Rattle.neighbor.specs.Rebuild.{same_number}
use Rattle.neighbor.proofs.boxes.same_number.Goals as goal

pub returns : goal.returns
unfolding same_number
returns c = simp (c.to_bits.ensures, c.to_bits-2.ensures)
