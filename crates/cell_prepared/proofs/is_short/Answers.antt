use Rattle.cell_prepared.proofs.is_short.Goals as goal

pub returns : goal.returns
returns c = simp (c.abs.ensures, c.abs-2.ensures, c.abs-3.ensures)
