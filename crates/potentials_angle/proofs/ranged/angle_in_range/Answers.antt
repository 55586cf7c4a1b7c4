use Rattle.potentials_angle.specs.Ranged.{angle_in_range}
use Rattle.potentials_angle.proofs.ranged.angle_in_range.Goals as goal

pub returns : goal.returns
returns c = unfold angle_in_range in cc
