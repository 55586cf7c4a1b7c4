use mathlib.Core.Path.{refl}
use Rattle.cell.specs.Matrix.{matrix_of}
use Rattle.cell.proofs.matrices.matrix.Goals as goal

pub returns : goal.returns
unfolding matrix_of
returns c = refl
