use Rattle.virial.specs.Virial.{zero_sum}
use mathlib.Core.Path.{refl}
use Rattle.virial.proofs.kernel.zero.Goals as goal

pub returns : goal.returns
unfolding zero_sum
returns c = refl
