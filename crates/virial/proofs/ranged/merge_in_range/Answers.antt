use Rattle.virial.specs.Calls.{merge_in_range}
use Rattle.virial.proofs.ranged.merge_in_range.Goals as goal

pub returns : goal.returns
unfolding merge_in_range
returns c = cc
