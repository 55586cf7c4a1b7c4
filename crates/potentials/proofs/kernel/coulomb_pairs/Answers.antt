use Rattle.lists.specs.Lists.{rows}
use Rattle.potentials.proofs.Kernels.{coulomb_from_zero}
use lib.ListN.{length}
use Rattle.potentials.proofs.kernel.coulomb_pairs.Goals as goal

pub returns : goal.returns
returns c = coulomb_from_zero c.args.cell (length c.args.forces.now) c.prepare-p.ensures c.zero-sum.ensures c.clear.ensures c.args.units.ke_coulomb c.args.cutoff c.args.charges.now c.args.positions.now (rows c.args.pairs.now) c.over.ensures
