use Rattle.potentials.proofs.Kernels.{displaced_by}
use Rattle.potentials_angle.proofs.over.arm.Goals as goal

pub returns : goal.returns
returns c = displaced_by c.args.p c.args.xs.now c.args.i c.args.j c.spot_at.ensures c.spot_at-2.ensures c.sub-d.ensures c.image_in.ensures
