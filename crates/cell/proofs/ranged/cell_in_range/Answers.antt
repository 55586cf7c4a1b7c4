use Rattle.cell.specs.Ranged.{cell_in_range}
use Rattle.cell.proofs.ranged.cell_in_range.Goals as goal

pub returns-in-None : goal.returns-in-None
unfolding cell_in_range
returns-in-None c = cc

pub returns-in-Some : goal.returns-in-Some
unfolding cell_in_range
returns-in-Some c = simp (c.lattice_in_range.ensures, c.in-Some.is)
