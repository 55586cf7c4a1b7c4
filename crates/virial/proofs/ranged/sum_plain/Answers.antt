use Rattle.virial.specs.Ranged.{plain_sum}
use Rattle.virial.proofs.ranged.sum_plain.Goals as goal

pub returns : goal.returns
unfolding plain_sum
returns c = cc
