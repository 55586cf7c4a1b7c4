use Rattle.verlet_step.proofs.Landing.{finished_on, finished_refused}
use Rattle.verlet_step.proofs.Lists.{finished_lists}
use Rattle.verlet_step.specs.Calls.{Motion, motion_on}
use Rattle.verlet_step.proofs.finish.Goals as goal

pub returns-in-Err : goal.returns-in-Err
returns-in-Err c = let a = c.args in let m : Motion = motion_on a.setting a.pace.dt a.s a.potential a.molecule.now a.masses.now a.exclusions.now a.positions.now a.velocities.now a.pairs.now a.references.now a.starts.now a.items.now a.forces.now in let h = finished_refused a.pace.thermostat m c.asked-a.ensures c.in-Err.is c.unmoved.ensures in record { says = h; lists = finished_lists a.pace.thermostat m c.unmoved.result h }

pub returns : goal.returns
returns c = let a = c.args in let m : Motion = motion_on a.setting a.pace.dt a.s a.potential a.molecule.now a.masses.now a.exclusions.now a.positions.now a.velocities.now a.pairs.now a.references.now a.starts.now a.items.now a.forces.now in let h = finished_on a.pace.thermostat m c.asked-a.ensures c.in_default.is c.land-r.ensures c.cool.ensures in record { says = h; lists = finished_lists a.pace.thermostat m c.land-r.result h }
