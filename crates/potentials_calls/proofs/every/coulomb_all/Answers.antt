use Prim.Native.Nat.{◌/◌}
use Rattle.lists.specs.Lists.{all_pairs}
use Rattle.potentials.proofs.Kernels.{coulomb_from_zero}
use lib.ListN.{length}
use Rattle.potentials_calls.proofs.every.coulomb_all.Goals as goal

pub coulomb_from-requires : goal.coulomb_from-requires
coulomb_from-requires c = (c.requires, c.blank_table-table.ensures)

pub returns : goal.returns
returns c = coulomb_from_zero c.args.cell (length c.args.forces.now) c.prepare-p.ensures c.zero-sum.ensures c.clear.ensures c.args.units.ke_coulomb c.args.cutoff c.args.charges.now c.args.positions.now (all_pairs (length c.args.positions.now / 3)) c.coulomb_from.ensures
