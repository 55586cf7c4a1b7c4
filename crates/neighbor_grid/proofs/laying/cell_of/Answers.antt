use Rattle.neighbor_grid.specs.Grid.{cell_in}
use Rattle.neighbor_grid.proofs.laying.cell_of.Goals as goal

pub bin_of-requires : goal.bin_of-requires
bin_of-requires c = (c.requires.0.some.x, rw c.requires.1)

pub bin_of-requires-2 : goal.bin_of-requires-2
bin_of-requires-2 c = (c.requires.0.some.y, rw c.requires.1)

pub bin_of-requires-3 : goal.bin_of-requires-3
bin_of-requires-3 c = (c.requires.0.some.z, rw c.requires.1)

pub returns : goal.returns
unfolding cell_in
returns c = cc
