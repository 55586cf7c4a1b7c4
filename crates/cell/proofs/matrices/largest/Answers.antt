use Rattle.cell.proofs.Running.{running_largest}
use Rattle.cell.proofs.matrices.largest.Goals as goal

pub returns : goal.returns
returns c = simp (c.largest_in_row.ensures, c.largest_in_row-y.ensures, c.largest_in_row-x.ensures, running_largest)
