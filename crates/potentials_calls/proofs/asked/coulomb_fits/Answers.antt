use Rattle.potentials.specs.Calls.{coulomb_fits}
use mathlib.Core.Path.{refl}
use Rattle.potentials_calls.proofs.asked.coulomb_fits.Goals as goal

pub returns : goal.returns
returns c = unfold coulomb_fits in refl
