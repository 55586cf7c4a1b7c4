use Rattle.virial.specs.Virial.{row_over_volume}
use mathlib.Core.Path.{refl}
use Rattle.virial.proofs.tensors.row_over_volume.Goals as goal

pub returns : goal.returns
unfolding row_over_volume
returns c = refl
