use Rattle.verlet.specs.Ranged.{temperature_in_range}
use Rattle.verlet.proofs.ranged.temperature_in_range.Goals as goal

pub returns : goal.returns
unfolding temperature_in_range
returns c = cc
