use Rattle.potentials.specs.Calls.{monatomic_of}
use mathlib.Core.Path.{refl}
use Rattle.potentials.proofs.kernel.monatomic.Goals as goal

pub returns : goal.returns
returns c = unfold monatomic_of in refl
