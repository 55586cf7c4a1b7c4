use Rattle.potentials_pair.specs.Once.{numbers_of}
use mathlib.Core.Path.{refl}
use Rattle.potentials_pair.proofs.lennard_jones.numbers_of.Goals as goal

pub returns : goal.returns
returns c = unfold numbers_of in refl
