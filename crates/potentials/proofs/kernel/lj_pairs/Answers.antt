use Rattle.lists.specs.Lists.{rows}
use Rattle.potentials.proofs.Kernels.{lj_from_zero}
use lib.ListN.{length}
use Rattle.potentials.proofs.kernel.lj_pairs.Goals as goal

pub returns : goal.returns
returns c = lj_from_zero c.args.cell (length c.args.forces.now) c.prepare-p.ensures c.zero-sum.ensures c.clear.ensures c.args.lj _ c.args.species.now c.args.positions.now (rows c.args.pairs.now) c.over.ensures
