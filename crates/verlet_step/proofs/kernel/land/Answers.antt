use Rattle.verlet_step.proofs.Landing.{landed_by_lem}
use Rattle.verlet_step.specs.Calls.{Motion, motion_on}
use Rattle.verlet_step.proofs.kernel.land.Goals as goal

pub returns : goal.returns
returns c = let a = c.args in let m : Motion = motion_on a.setting a.dt a.s a.potential a.molecule.now a.masses.now a.exclusions.now a.positions.now a.velocities.now a.pairs.now a.references.now a.starts.now a.items.now a.forces.now in landed_by_lem m _ _ _ _ _ _ c.settle-e.ensures c.second_kick.ensures
