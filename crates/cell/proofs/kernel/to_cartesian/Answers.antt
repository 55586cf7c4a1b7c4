use Rattle.cell.specs.Cell.{to_cartesian_of}
use Rattle.cell.proofs.kernel.to_cartesian.Goals as goal

pub returns : goal.returns
unfolding to_cartesian_of
returns c = cc
