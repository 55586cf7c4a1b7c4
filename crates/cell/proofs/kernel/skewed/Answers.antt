use Rattle.cell.specs.Cell.{skewed_of}
use Rattle.cell.proofs.kernel.skewed.Goals as goal

pub returns : goal.returns
unfolding skewed_of
returns c = cc
