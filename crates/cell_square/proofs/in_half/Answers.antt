use Rattle.cell_square.proofs.in_half.Goals as goal

pub returns : goal.returns
returns c = rw c.magnitude.ensures
