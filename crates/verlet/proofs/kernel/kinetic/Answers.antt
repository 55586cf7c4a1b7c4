use Rattle.verlet.specs.Verlet.{kinetic_at}
use Rattle.verlet.proofs.kernel.kinetic.Goals as goal

pub returns : goal.returns
unfolding kinetic_at
returns c = rw c.norm2.ensures
