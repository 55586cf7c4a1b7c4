use Rattle.verlet.specs.Ranged.{thermal}
use Rattle.verlet.proofs.ranged.thermal.Goals as goal

pub returns : goal.returns
unfolding thermal
returns c = cc
