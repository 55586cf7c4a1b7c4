use Rattle.fire.specs.Calls.{settling_asked}
use Rattle.fire.proofs.asked.asked.Goals as goal

pub returns : goal.returns
returns c = unfold settling_asked in rw (← c.motion_fits-fits.ensures, ← c.settling_ok-inside.ensures) c.asked.ensures
