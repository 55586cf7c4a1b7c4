use Rattle.cell.specs.General.{running_of}
use Rattle.cell.proofs.matrices.larger.Goals as goal

pub returns : goal.returns
unfolding running_of
returns c = cc
