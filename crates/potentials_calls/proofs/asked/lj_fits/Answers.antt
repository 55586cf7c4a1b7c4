use Rattle.potentials.specs.Calls.{lj_fits}
use mathlib.Core.Path.{refl}
use Rattle.potentials_calls.proofs.asked.lj_fits.Goals as goal

pub returns : goal.returns
returns c = unfold lj_fits in refl
