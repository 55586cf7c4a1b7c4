use Rattle.potentials_angle.specs.Calls.{angles_ranges}
use Rattle.potentials_angle.proofs.asked.in_range.Goals as goal

pub returns : goal.returns
returns c = unfold angles_ranges in cc
