use Rattle.cell.specs.Cell.{off_diagonal_of}
use Rattle.cell.proofs.kernel.off_diagonal.Goals as goal

pub returns : goal.returns
unfolding off_diagonal_of
returns c = cc
