use Rattle.potentials_angle.specs.Bend.{is_short_arm}
use mathlib.Core.Path.{refl}
use Rattle.potentials_angle.proofs.bends.is_short_arm.Goals as goal

pub returns : goal.returns
returns c = unfold is_short_arm in refl
