use Rattle.virial.specs.Ranged.{units_in_range}
use Rattle.virial.proofs.ranged.units_in_range.Goals as goal

pub returns : goal.returns
unfolding units_in_range
returns c = cc
