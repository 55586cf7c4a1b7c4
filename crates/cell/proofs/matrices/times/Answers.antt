use Rattle.cell.specs.Matrix.{times_of}
use Rattle.cell.proofs.matrices.times.Goals as goal

pub returns : goal.returns
unfolding times_of
returns c = cc
