use Rattle.virial.specs.Calls.{tensor_in_range}
use Rattle.virial.proofs.ranged.tensor_in_range.Goals as goal

pub returns : goal.returns
unfolding tensor_in_range
returns c = cc
