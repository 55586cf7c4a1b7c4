use Rattle.potentials_pair.specs.Bond.{bond_slope}
use mathlib.Core.Path.{refl}
use Rattle.potentials_pair.proofs.bonds.slope.Goals as goal

pub returns : goal.returns
returns c = unfold bond_slope in refl
