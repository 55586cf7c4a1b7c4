use Rattle.potentials_angle.specs.Calls.{angles_fit}
use mathlib.Core.Path.{refl}
use Rattle.potentials_angle.proofs.asked.fits.Goals as goal

pub returns : goal.returns
returns c = unfold angles_fit in refl
