use Rattle.potentials_angle.specs.Ranged.{angle_row}
use mathlib.Core.Path.{refl}
use Rattle.potentials_angle.proofs.ranged.angle_row.Goals as goal

pub returns : goal.returns
returns c = unfold angle_row in refl
