use mathlib.Core.Path.{refl}
use Rattle.cell.specs.Matrix.{adjugate_of, matrix_of}
use Rattle.cell.proofs.matrices.adjugate.Goals as goal

pub returns : goal.returns
unfolding adjugate_of matrix_of
returns c = refl
