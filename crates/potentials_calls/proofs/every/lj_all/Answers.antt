use Prim.Native.Nat.{◌/◌}
use Rattle.lists.specs.Lists.{all_pairs}
use Rattle.potentials.proofs.Kernels.{lj_from_zero}
use lib.ListN.{length}
use Rattle.potentials_calls.proofs.every.lj_all.Goals as goal

pub lj_from-requires : goal.lj_from-requires
lj_from-requires c = (c.requires, c.blank_table-table.ensures)

pub returns : goal.returns
returns c = lj_from_zero c.args.cell (length c.args.forces.now) c.prepare-p.ensures c.zero-sum.ensures c.clear.ensures c.args.lj _ c.args.species.now c.args.positions.now (all_pairs (length c.args.positions.now / 3)) c.lj_from.ensures
