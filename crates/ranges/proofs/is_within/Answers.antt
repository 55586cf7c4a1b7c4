use Rattle.ranges.specs.Ranged.{within}
use Rattle.ranges.proofs.is_within.Goals as goal

pub returns : goal.returns
unfolding within
returns c = cc
