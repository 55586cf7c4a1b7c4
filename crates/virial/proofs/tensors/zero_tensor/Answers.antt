use Rattle.virial.specs.Virial.{zero_tensor}
use mathlib.Core.Path.{refl}
use Rattle.virial.proofs.tensors.zero_tensor.Goals as goal

pub returns : goal.returns
unfolding zero_tensor
returns c = refl
