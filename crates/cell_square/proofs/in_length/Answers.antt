use Rattle.cell_square.proofs.in_length.Goals as goal

pub returns : goal.returns
returns c = rw c.magnitude.ensures
