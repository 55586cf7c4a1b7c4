use Rattle.virial.specs.Calls.{pair_in_range}
use Rattle.virial.proofs.ranged.pair_in_range.Goals as goal

pub returns : goal.returns
unfolding pair_in_range
returns c = cc
