use Rattle.verlet.specs.Ranged.{atoms_in_range}
use Rattle.verlet.proofs.ranged.atoms_in_range.Goals as goal

pub returns : goal.returns
unfolding atoms_in_range
returns c = cc
