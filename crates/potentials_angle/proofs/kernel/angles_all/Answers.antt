use Rattle.potentials_angle.proofs.Kernels.{angles_from_zero}
use lib.ListN.{length}
use Rattle.potentials_angle.proofs.kernel.angles_all.Goals as goal

pub returns : goal.returns
returns c = angles_from_zero c.args.cell (length c.args.forces.now) c.prepare-p.ensures c.zero-sum.ensures c.clear.ensures c.args.angle c.args.angles.now.corners.now c.args.angles.now.per_angle.now c.args.positions.now c.over.ensures
