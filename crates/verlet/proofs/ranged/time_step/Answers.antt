use Rattle.verlet.specs.Ranged.{time_step}
use Rattle.verlet.proofs.ranged.time_step.Goals as goal

pub returns : goal.returns
unfolding time_step
returns c = cc
