use Rattle.verlet.specs.Ranged.{berendsen_in_range}
use Rattle.verlet.proofs.ranged.berendsen_in_range.Goals as goal

pub returns : goal.returns
unfolding berendsen_in_range
returns c = cc
