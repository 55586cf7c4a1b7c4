use Rattle.virial.specs.Virial.{merged_sum}
use mathlib.Core.Path.{refl}
use Rattle.virial.proofs.kernel.merge_sum.Goals as goal

pub returns : goal.returns
unfolding merged_sum
returns c = refl
