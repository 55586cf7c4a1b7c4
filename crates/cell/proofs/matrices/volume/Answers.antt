use mathlib.Core.Path.{refl}
use Rattle.cell.specs.Matrix.{volume_of, det_of, matrix_of}
use Rattle.cell.proofs.matrices.volume.Goals as goal

pub returns : goal.returns
unfolding volume_of det_of matrix_of
returns c = refl
