use Rattle.ranges.specs.Ranged.{between}
use Rattle.ranges.proofs.is_between.Goals as goal

pub returns : goal.returns
unfolding between
returns c = cc
