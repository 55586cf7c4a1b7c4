use Rattle.verlet_step.specs.Asked.{motion_ok}
use Rattle.verlet_step.proofs.asked.motion_ok.Goals as goal

pub returns : goal.returns
returns c = unfold motion_ok in rw (← c.time_step.ensures, ← c.thermostat_in_range.ensures, ← c.all_between.ensures, ← c.all_within.ensures, ← c.all_within-2.ensures, ← c.plain.ensures)
