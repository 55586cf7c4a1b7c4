use Rattle.verlet_step.specs.Steps.{kicked_after}
use Rattle.verlet_step.proofs.kernel.second_kick.Goals as goal

pub returns : goal.returns
unfolding kicked_after
returns c = rw (c.with_potential.ensures, ← c.second-k.ensures)
