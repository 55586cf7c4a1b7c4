use Rattle.cell_square.proofs.nearer.Goals as goal

pub returns : goal.returns
returns c = rw (c.pick-2.ensures, c.pick.ensures)
