use Rattle.cell.specs.Matrix.{inverse_of}
use Rattle.cell.proofs.matrices.inverse.Goals as goal

pub returns : goal.returns
unfolding inverse_of
returns c = cc
