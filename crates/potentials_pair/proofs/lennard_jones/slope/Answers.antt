use Rattle.potentials_pair.specs.Once.{slope_by}
use mathlib.Core.Path.{refl}
use Rattle.potentials_pair.proofs.lennard_jones.slope.Goals as goal

pub returns : goal.returns
returns c = unfold slope_by in refl
