use Rattle.virial.specs.Virial.{with_pair}
use Rattle.virial.proofs.tensors.with_pair.Goals as goal

pub returns : goal.returns
unfolding with_pair
returns c = cc
