use Rattle.potentials.proofs.Kernels.{bonds_from_zero}
use lib.ListN.{length}
use Rattle.potentials.proofs.kernel.bonds_all.Goals as goal

pub returns : goal.returns
returns c = bonds_from_zero c.args.cell (length c.args.forces.now) c.prepare-p.ensures c.zero-sum.ensures c.clear.ensures c.args.bond c.args.bonds.now.ends.now c.args.bonds.now.lengths.now c.args.bonds.now.ks.now c.args.positions.now c.over.ensures
