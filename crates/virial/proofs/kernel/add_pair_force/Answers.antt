use Rattle.virial.specs.Virial.{forces_with_pair}
use Rattle.virial.proofs.kernel.add_pair_force.Goals as goal

pub returns : goal.returns
unfolding forces_with_pair
returns c = (c.with_pair.ensures, rw (← c.scale.ensures, ← c.add_at.ensures) c.add_at-2.ensures)
