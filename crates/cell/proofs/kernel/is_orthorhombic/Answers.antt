use Rattle.cell.specs.Cell.{is_orthorhombic_of}
use Rattle.cell.proofs.kernel.is_orthorhombic.Goals as goal

pub returns : goal.returns
unfolding is_orthorhombic_of
returns c = simp c.off_diagonal.ensures
