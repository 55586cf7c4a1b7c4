use Rattle.virial.specs.Virial.{sum_with_energy}
use mathlib.Core.Path.{refl}
use Rattle.virial.proofs.kernel.with_energy.Goals as goal

pub returns : goal.returns
unfolding sum_with_energy
returns c = refl
