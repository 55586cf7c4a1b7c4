use Rattle.virial.specs.Calls.{virial_in_range}
use Rattle.virial.proofs.ranged.virial_in_range.Goals as goal

pub returns : goal.returns
unfolding virial_in_range
returns c = cc
