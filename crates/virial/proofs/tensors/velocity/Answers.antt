use Rattle.virial.specs.Virial.{velocity_at}
use mathlib.Core.Path.{refl}
use Rattle.virial.proofs.tensors.velocity.Goals as goal

pub returns : goal.returns
unfolding velocity_at
returns c = refl
