use Rattle.potentials_pair.specs.Coulomb.{neutral}
use mathlib.Core.Path.{refl}
use Rattle.potentials_pair.proofs.coulomb.is_neutral.Goals as goal

pub returns : goal.returns
returns c = unfold neutral in refl
