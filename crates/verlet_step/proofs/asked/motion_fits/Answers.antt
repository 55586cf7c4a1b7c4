use Rattle.verlet_step.specs.Asked.{motion_fits}
use mathlib.Core.Path.{refl}
use Rattle.verlet_step.proofs.asked.motion_fits.Goals as goal

pub returns : goal.returns
unfolding motion_fits
returns c = refl
