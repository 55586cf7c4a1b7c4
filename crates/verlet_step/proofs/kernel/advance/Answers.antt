use Rattle.verlet_step.proofs.Landing.{advanced_refused, advanced_on}
use Rattle.verlet_step.specs.Calls.{Motion, motion_on}
use borrow.Author.Tests.{not-true, not-false}
use Rattle.std.proofs.Common.{ap, not}
use Rattle.verlet_step.proofs.kernel.advance.Goals as goal

pub returns-then-not-drifts : goal.returns-then-not-drifts
returns-then-not-drifts c = let a = c.args in let m : Motion = motion_on a.setting a.dt a.s a.potential a.molecule.now a.masses.now a.exclusions.now a.positions.now a.velocities.now a.pairs.now a.references.now a.starts.now a.items.now a.forces.now in advanced_refused m c.drifts.ensures (not-true c.drifts.result (ap not c.if-not-drifts.true)) c.unmoved.ensures

pub returns : goal.returns
returns c = let a = c.args in let m : Motion = motion_on a.setting a.dt a.s a.potential a.molecule.now a.masses.now a.exclusions.now a.positions.now a.velocities.now a.pairs.now a.references.now a.starts.now a.items.now a.forces.now in advanced_on m c.drifts.ensures (not-false c.drifts.result (ap not c.if-not-drifts.false)) c.kick_and_drift.ensures c.land.ensures
