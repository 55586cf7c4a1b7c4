use mathlib.Core.Path.{refl}
use Rattle.cell.specs.Vec.{cross_of}
use Rattle.cell.proofs.vectors.cross.Goals as goal

pub returns : goal.returns
unfolding cross_of
returns c = refl
