use Rattle.verlet_step.specs.Calls.{motion_asked}
use Rattle.verlet_step.proofs.asked.asked.Goals as goal

pub returns : goal.returns
returns c = unfold motion_asked in rw (← c.motion_fits-fits.ensures, ← c.motion_ok-inside.ensures) c.asked.ensures
