use Rattle.potentials_pair.specs.Bond.{bond_energy}
use mathlib.Core.Path.{refl}
use Rattle.potentials_pair.proofs.bonds.energy.Goals as goal

pub returns : goal.returns
returns c = unfold bond_energy in refl
