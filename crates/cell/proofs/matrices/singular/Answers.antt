use Rattle.cell.specs.Matrix.{singular_of}
use Rattle.cell.proofs.matrices.singular.Goals as goal

pub returns : goal.returns
unfolding singular_of
returns c = cc
