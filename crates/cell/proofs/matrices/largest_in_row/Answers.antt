use Rattle.cell.specs.General.{running_in_row}
use Rattle.cell.proofs.matrices.largest_in_row.Goals as goal

pub returns : goal.returns
unfolding running_in_row
returns c = cc
