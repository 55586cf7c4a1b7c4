use Rattle.potentials_angle.specs.Calls.{angles_asked}
use Rattle.potentials_angle.proofs.asked.asked.Goals as goal

pub returns : goal.returns
returns c = unfold angles_asked in cc
