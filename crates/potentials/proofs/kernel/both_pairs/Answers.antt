use Rattle.lists.specs.Lists.{rows}
use Rattle.potentials.proofs.Kernels.{lj_from_zero, coulomb_from_zero}
use lib.ListN.{length}
use mathlib.Core.Path.{◌∙◌}
use Rattle.potentials.proofs.kernel.both_pairs.Goals as goal

pub shape_of-forces : goal.shape_of-forces
shape_of-forces c = c.over.auto.forces ∙ c.clear.auto.forces

pub returns : goal.returns
returns c = record { forces_after = lj_from_zero c.args.cell (length c.args.forces.now) c.prepare-p.ensures c.zero-sum.ensures c.clear.ensures c.args.lj _ c.args.species.now c.args.positions.now (rows c.args.pairs.now) c.over.ensures.forces_after; others_after = coulomb_from_zero c.args.cell (length c.args.others.now) c.prepare-p.ensures c.zero-sum.ensures c.clear-2.ensures c.args.units.ke_coulomb c.args.cutoff c.args.charges.now c.args.positions.now (rows c.args.pairs.now) c.over.ensures.others_after }
