use Rattle.virial.specs.Virial.{row_with_pair}
use mathlib.Core.Path.{refl}
use Rattle.virial.proofs.tensors.row_with_pair.Goals as goal

pub returns : goal.returns
unfolding row_with_pair
returns c = refl
