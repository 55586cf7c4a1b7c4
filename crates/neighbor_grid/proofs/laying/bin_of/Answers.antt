use Rattle.neighbor_grid.specs.Grid.{bin_of}
use Rattle.neighbor_grid.proofs.laying.bin_of.Goals as goal

pub returns : goal.returns
unfolding bin_of
returns c = rw (← c.requires.1, ← c.to_u64.ensures) c.at_most.ensures
