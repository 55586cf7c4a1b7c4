use Rattle.virial.specs.Virial.{over_volume}
use Rattle.virial.proofs.tensors.over_volume.Goals as goal

pub returns : goal.returns
unfolding over_volume
returns c = cc
