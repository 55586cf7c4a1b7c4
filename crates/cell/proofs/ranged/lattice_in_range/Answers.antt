use Rattle.cell.specs.Ranged.{lattice_in_range}
use Rattle.cell.proofs.ranged.lattice_in_range.Goals as goal

pub returns : goal.returns
unfolding lattice_in_range
returns c = cc
