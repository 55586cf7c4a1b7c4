use Rattle.virial.specs.Virial.{sum_with_pair}
use mathlib.Core.Path.{refl}
use Rattle.virial.proofs.kernel.with_pair.Goals as goal

pub returns : goal.returns
unfolding sum_with_pair
returns c = refl
