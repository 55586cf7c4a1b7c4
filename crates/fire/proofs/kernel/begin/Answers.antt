use Rattle.fire.proofs.Turns.{begun_by_lem}
use Rattle.verlet_step.specs.Calls.{Motion, motion_on}
use Rattle.fire.proofs.kernel.begin.Goals as goal

pub returns : goal.returns
returns c = let m : Motion = motion_on c.args.setting c.args.dt c.args.s c.args.potential c.args.molecule.now c.args.masses.now c.args.exclusions.now c.args.positions.now c.args.velocities.now c.args.pairs.now c.args.references.now c.args.starts.now c.args.items.now c.args.forces.now in begun_by_lem m _ _ _ _ _ _ c.settle-e.ensures c.rest.ensures
