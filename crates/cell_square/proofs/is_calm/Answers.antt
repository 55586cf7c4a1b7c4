use Rattle.cell_square.proofs.is_calm.Goals as goal

pub returns : goal.returns
returns c = rw (c.in_half.ensures, c.in_half-2.ensures)
