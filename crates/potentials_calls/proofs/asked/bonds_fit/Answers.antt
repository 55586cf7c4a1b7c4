use Rattle.potentials.specs.Calls.{bonds_fit}
use mathlib.Core.Path.{refl}
use Rattle.potentials_calls.proofs.asked.bonds_fit.Goals as goal

pub returns : goal.returns
returns c = unfold bonds_fit in refl
